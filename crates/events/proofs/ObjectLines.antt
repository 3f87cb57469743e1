-- Objects of events, one after another, and the texts that they are put together from.
use Rattle.std.proofs.Common.{◌≡◌, ℕ, List, [], ◌∷◌, ◌++◌, codes, sym, ap, ◌∙◌, append_assoc, append-nil}
use Rattle.units.specs.Code.{node_text}
use Rattle.units.specs.declared.code.Node.{Node}
use Rattle.wire.specs.Records.{record_text}
use Rattle.wire.specs.declared.input.Input.{Input}
use Rattle.protocol.specs.declared.event.WorldEvent.{WorldEvent}
use Rattle.protocol.specs.declared.event.WorldEvent.TheVariants.{Take}
use Rattle.events.specs.Objects.{event_object, event_objects}

pub three_more : (a b c d : List ℕ) → a ++ (b ++ (c ++ d)) ≡ a ++ b ++ c ++ d
three_more a b c d = sym (append_assoc a b (c ++ d)) ∙ sym (append_assoc (a ++ b) c d)

-- an object that was pushed as its record and what is around it
pub take_object : (node : Node) (input : Input) (text last old new : List ℕ) → text ≡ record_text input → last ≡ codes ",\"node\":\"" ++ node_text node ++ codes "\"}\n"
    → new ≡ old ++ (codes "{\"event\":\"take\",\"input\":" ++ text ++ last) → new ≡ old ++ event_object (Take node input)
take_object node input text last old new text_is last_is spelled =
    let start = codes "{\"event\":\"take\",\"input\":" in
    let key = codes ",\"node\":\"" in
    let end = codes "\"}\n" in
    spelled
    ∙ ap (λ l. old ++ (start ++ l ++ last)) text_is
    ∙ ap (λ l. old ++ (start ++ record_text input ++ l)) last_is
    ∙ ap (λ l. old ++ l)
    (sym (append_assoc (start ++ record_text input) (key ++ node_text node) end) ∙ ap (λ l. l ++ end) (sym (append_assoc (start ++ record_text input) key (node_text node))))

-- one event more
pub objects_more : (events : List WorldEvent) (event : WorldEvent) → event_objects (events ++ event ∷ []) ≡ event_objects events ++ event_object event
objects_more [] event = append-nil (event_object event)
objects_more (e ∷ events) event = ap (λ l. event_object e ++ l) (objects_more events event) ∙ sym (append_assoc (event_object e) (event_objects events) (event_object event))
