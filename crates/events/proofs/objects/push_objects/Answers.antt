use Rattle.std.proofs.Common.{◌≡◌, ◌+◌, [], ◌∷◌, ◌++◌, take, ap, sym, ◌∙◌, append_assoc}
use Rattle.std.proofs.lemmas.List.{take_more}
use Rattle.protocol.specs.declared.event.WorldEvent.{WorldEvent}
use Rattle.events.specs.Objects.{event_object, event_objects}
use Rattle.events.proofs.ObjectLines.{objects_more}
use Rattle.events.proofs.objects.push_objects.Goals as goal

pub loop-event-preserved : goal.loop-event-preserved
loop-event-preserved c =
    let old = c.args.text.now.items in
    let events = c.args.events.now in
    let at = c.loop-event.event-index in
    let event = c.event-item.result in
    let one : take (at + 1) events ≡ take at events ++ event ∷ [] = take_more events at event c.loop-event-test.true ∙ ap (λ (e : WorldEvent). take at events ++ e ∷ []) (sym c.event-item.is) in
    c.in_ok-push_object.ensures
    ∙ ap (λ l. l ++ event_object event) c.loop-event.invariant
    ∙ append_assoc old (event_objects (take at events)) (event_object event)
    ∙ ap (λ l. old ++ l) (sym (ap event_objects one ∙ objects_more (take at events) event))
