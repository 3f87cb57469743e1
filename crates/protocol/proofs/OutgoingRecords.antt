-- The messages, the acknowledgements and the first records of a history, by the effects of its records; and one record
-- more.
use Rattle.std.proofs.Common.{◌≡◌, inl, inr, ℕ, ◌||◌, Bool, true, false, cond, List, [], ◌∷◌, ◌++◌, take, drop, length, refl, sym, ap, ◌∙◌, arith, append_assoc, append-nil, length-append, take-append-drop}
use Rattle.std.specs.Prelude.{nat_le}
use Rattle.std.proofs.Math.Seq.{take-append_seam}
use Rattle.std.proofs.lemmas.Bool.{cases_lt}
use Rattle.std.proofs.lemmas.List.{length-take-le, take_all}
use Rattle.units.specs.RefusalCodes.{no_row, journal_full}
use Rattle.units.specs.declared.code.Node.{Node}
use Rattle.units.specs.declared.code.Node.TheVariants.{Itl, Registry}
use Rattle.wire.specs.declared.input.Input.{Input}
use Rattle.wire.specs.declared.input.Input.TheVariants.{Propose, Request, OpenAccount, CloseAccount, Ack, CleanUp, Eligible, Received}
use Rattle.wire.specs.declared.message.Message.{Message}
use Rattle.protocol.specs.Scheme.{Scheme}
use Rattle.protocol.proofs.Histories.{history_snoc, history_from_append, length_history}
use Rattle.protocol.specs.Deciding.{IsRecorded, IsRepeat, IsRefused, acknowledge}
use Rattle.protocol.specs.History as history
use Rattle.protocol.specs.History.{Entry, messages_of, sends}
use Rattle.protocol.specs.Verdict as verdicts
use Rattle.protocol.specs.Verdict.{verdict, transitions_made, extend, history_from}
use Rattle.protocol.specs.Outgoing.{did, outgoing}
use Rattle.records.specs.Sending.{Sent, sent_by_one, messages, acknowledges_key, is_key_acknowledged}
use Rattle.records.proofs.KeptTables.{acknowledged_more}

messages_snoc : (S : List Sent) (x : Sent) → messages (S ++ x ∷ []) ≡ messages S ++ sent_by_one x
messages_snoc [] x = append-nil (sent_by_one x)
messages_snoc (y ∷ S) x = ap (λ (l : List Message). sent_by_one y ++ l) (messages_snoc S x) ∙ sym (append_assoc (sent_by_one y) (messages S) (sent_by_one x))

-- an acknowledgement makes no transition
pub none_made : (scheme : Scheme) (es : List Entry) (key : ℕ) → transitions_made (acknowledge scheme es key) ≡ []
none_made scheme es key = go (nat_le (length (sends es)) key) (history.is_acknowledged es key) (nat_le scheme.records (length es))
  where
    go : (a b c : Bool) → transitions_made (cond a (IsRefused no_row) (cond b IsRepeat (cond c (IsRefused journal_full) (IsRecorded [])))) ≡ []
    go true b c = refl
    go false true c = refl
    go false false true = refl
    go false false false = refl

-- the effect of an input is to send the messages of its transitions
sent_by_input : (scheme : Scheme) (n : Node) (es : List Entry) (i : Input) → sent_by_one (did i (messages_of (transitions_made (verdict scheme n es i)))) ≡ messages_of (transitions_made (verdict scheme n es i))
unfolding verdict
sent_by_input scheme Itl es (Ack k) = sym (ap messages_of (none_made scheme es k.value))
sent_by_input scheme (Registry c) es (Ack k) = sym (ap messages_of (none_made scheme es k.value))
sent_by_input scheme n es (Propose o) = refl
sent_by_input scheme n es (Request t) = refl
sent_by_input scheme n es (OpenAccount a) = refl
sent_by_input scheme n es (CloseAccount a) = refl
sent_by_input scheme n es (CleanUp t) = refl
sent_by_input scheme n es (Eligible d may) = refl
sent_by_input scheme n es (Received m t) = refl

messages_from : (scheme : Scheme) (n : Node) (es : List Entry) (xs : List Input) → messages (outgoing es) ≡ sends es → messages (outgoing (history_from scheme n es xs)) ≡ sends (history_from scheme n es xs)
messages_from scheme n es [] h = h
messages_from scheme n es (x ∷ xs) h =
    let ms : List Message = messages_of (transitions_made (verdict scheme n es x)) in
    messages_from scheme n (extend scheme n es x) xs
    (messages_snoc (outgoing es) (did x ms) ∙ ap (λ (l : List Message). l ++ sent_by_one (did x ms)) h ∙ ap (λ (l : List Message). sends es ++ l) (sent_by_input scheme n es x))

-- all messages are what the journal sends
pub messages_outgoing : (scheme : Scheme) (n : Node) (journal : List Input) → messages (outgoing (verdicts.history scheme n journal)) ≡ sends (verdicts.history scheme n journal)
messages_outgoing scheme n journal = messages_from scheme n [] journal refl

acknowledged_by : (key : ℕ) (i : Input) (ms : List Message) → acknowledges_key key (did i ms) ≡ history.acknowledges key i
acknowledged_by key (Ack k) ms = refl
acknowledged_by key (Propose o) ms = refl
acknowledged_by key (Request t) ms = refl
acknowledged_by key (OpenAccount a) ms = refl
acknowledged_by key (CloseAccount a) ms = refl
acknowledged_by key (CleanUp t) ms = refl
acknowledged_by key (Eligible d may) ms = refl
acknowledged_by key (Received m t) ms = refl

or_comm : (a b : Bool) → (a || b) ≡ (b || a)
or_comm true true = refl
or_comm true false = refl
or_comm false true = refl
or_comm false false = refl

-- the messages that are acknowledged
pub acknowledged_outgoing : (es : List Entry) (key : ℕ) → is_key_acknowledged (outgoing es) key ≡ history.is_acknowledged es key
acknowledged_outgoing [] key = refl
acknowledged_outgoing (e ∷ es) key =
    acknowledged_more (outgoing es) (did e.input (messages_of e.transitions)) key
    ∙ ap (λ (b : Bool). b || acknowledges_key key (did e.input (messages_of e.transitions))) (acknowledged_outgoing es key)
    ∙ ap (λ (b : Bool). history.is_acknowledged es key || b) (acknowledged_by key e.input (messages_of e.transitions))
    ∙ or_comm (history.is_acknowledged es key) (history.acknowledges key e.input)

pub length_outgoing : (es : List Entry) → length (outgoing es) ≡ length es
length_outgoing [] = refl
length_outgoing (e ∷ es) = let more = length-append (outgoing es) (did e.input (messages_of e.transitions) ∷ []) in let rest = length_outgoing es in omega arith

-- one record more
pub outgoing_snoc : (scheme : Scheme) (n : Node) (journal : List Input) (i : Input)
    → outgoing (verdicts.history scheme n (journal ++ i ∷ [])) ≡ outgoing (verdicts.history scheme n journal) ++ did i (messages_of (transitions_made (verdict scheme n (verdicts.history scheme n journal) i))) ∷ []
outgoing_snoc scheme n journal i = ap outgoing (history_snoc scheme n journal i)

outgoing_from : (scheme : Scheme) (n : Node) (es : List Entry) (xs : List Input) → (more : List Sent) × (outgoing (history_from scheme n es xs) ≡ outgoing es ++ more)
outgoing_from scheme n es [] = ([], sym (append-nil (outgoing es)))
outgoing_from scheme n es (x ∷ xs) =
    let s : Sent = did x (messages_of (transitions_made (verdict scheme n es x))) in
    let r = outgoing_from scheme n (extend scheme n es x) xs in
    (s ∷ r.0, r.1 ∙ append_assoc (outgoing es) (s ∷ []) r.0)

-- the first records
pub outgoing_take : (scheme : Scheme) (n : Node) (count : ℕ) (journal : List Input) → take count (outgoing (verdicts.history scheme n journal)) ≡ outgoing (verdicts.history scheme n (take count journal))
outgoing_take scheme n count journal =
    elim (cases_lt (length journal) count) [
      | inl above ↦
          let all : length (outgoing (verdicts.history scheme n journal)) ≡ length journal = length_outgoing (verdicts.history scheme n journal) ∙ length_history scheme n journal in
          take_all count (outgoing (verdicts.history scheme n journal)) (omega arith) ∙ ap (λ (l : List Input). outgoing (verdicts.history scheme n l)) (sym (take_all count journal (omega arith)))
      | inr within ↦
          let front = verdicts.history scheme n (take count journal) in
          let r = outgoing_from scheme n front (drop count journal) in
          let whole : outgoing (verdicts.history scheme n journal) ≡ outgoing front ++ r.0 =
          ap (λ (l : List Input). outgoing (verdicts.history scheme n l)) (sym (take-append-drop count journal)) ∙ ap outgoing (history_from_append scheme n [] (take count journal) (drop count journal)) ∙ r.1 in
          let count_is : length (outgoing front) ≡ count = length_outgoing front ∙ length_history scheme n (take count journal) ∙ length-take-le count journal within in
          ap (take count) whole ∙ ap (λ (k : ℕ). take k (outgoing front ++ r.0)) (sym count_is) ∙ take-append_seam (outgoing front) r.0
    ]
