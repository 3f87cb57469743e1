-- Histories that get longer by more inputs of the journal.
-- The entries of a longer journal stand in front of the older entries, and nothing that was sent or received before
-- is lost. With one input more, a received message is that input or was received before.
use Rattle.std.proofs.Common.{◌≡◌, List, [], ◌∷◌, ◌++◌, ◌⊎◌, inl, inr, refl, sym, subst, ◌∙◌, append_assoc}
use Rattle.units.specs.declared.code.Node.{Node}
use Rattle.status.specs.declared.moment.Moment.{Moment}
use Rattle.wire.specs.declared.input.Input.{Input}
use Rattle.wire.specs.declared.input.Input.TheVariants.{Received}
use Rattle.wire.specs.declared.message.Message.{Message}
use Rattle.scheme.specs.declared.registries.Scheme.{Scheme}
use Rattle.protocol.specs.History.{Transition, Entry, transitions_of, sends, messages_of}
use Rattle.protocol.specs.Verdict.{verdict, extend, history_from, history, transitions_made}
use Rattle.protocol.proofs.Histories.{history_from_append}
use Rattle.safety.proofs.MovesAndHistories.NewestTransitions.{Made, Got}
use Rattle.units.proofs.Lists.Membership.{In, In_left}

made_from : (scheme : Scheme) (n : Node) (es : List Entry) (xs : List Input) → Made scheme n es → Made scheme n (history_from scheme n es xs)
made_from scheme n es [] transitions_made = transitions_made
made_from scheme n es (x ∷ xs) transitions_made = made_from scheme n (extend scheme n es x) xs (refl, transitions_made)

pub made_history : (scheme : Scheme) (n : Node) (xs : List Input) → Made scheme n (history scheme n xs)
made_history scheme n xs = made_from scheme n [] xs tt

sends_from : (scheme : Scheme) (n : Node) (es : List Entry) (xs : List Input) (m : Message) → In m (sends es) → In m (sends (history_from scheme n es xs))
sends_from scheme n es [] m h = h
sends_from scheme n es (x ∷ xs) m h = sends_from scheme n (extend scheme n es x) xs m (In_left m (sends es) (messages_of (transitions_made (verdict scheme n es x))) h)

got_from : (scheme : Scheme) (n : Node) (es : List Entry) (xs : List Input) (m : Message) → Got es m → Got (history_from scheme n es xs) m
got_from scheme n es [] m h = h
got_from scheme n es (x ∷ xs) m h = got_from scheme n (extend scheme n es x) xs m (inr h)

-- an input of the journal was received
pub got_in : (scheme : Scheme) (n : Node) (es : List Entry) (xs : List Input) (m : Message) (moment : Moment) → In (Received m moment) xs → Got (history_from scheme n es xs) m
got_in scheme n es [] m moment i = absurd i
got_in scheme n es (x ∷ xs) m moment (inl e) = got_from scheme n (extend scheme n es x) xs m (inl (moment, e))
got_in scheme n es (x ∷ xs) m moment (inr i) = got_in scheme n (extend scheme n es x) xs m moment i

pub sends_append : (scheme : Scheme) (n : Node) (xs ys : List Input) (m : Message) → In m (sends (history scheme n xs)) → In m (sends (history scheme n (xs ++ ys)))
sends_append scheme n xs ys m h = subst (λ (es : List Entry). In m (sends es)) (sym (history_from_append scheme n [] xs ys)) (sends_from scheme n (history scheme n xs) ys m h)

pub got_append : (scheme : Scheme) (n : Node) (xs ys : List Input) (m : Message) → Got (history scheme n xs) m → Got (history scheme n (xs ++ ys)) m
got_append scheme n xs ys m h = subst (λ (es : List Entry). Got es m) (sym (history_from_append scheme n [] xs ys)) (got_from scheme n (history scheme n xs) ys m h)

-- with one input more, what was received was received before, or is that input
pub got_more : (scheme : Scheme) (n : Node) (xs : List Input) (i : Input) (m : Message) → Got (history scheme n (xs ++ i ∷ [])) m → ((moment : Moment) × (i ≡ Received m moment)) ⊎ Got (history scheme n xs) m
got_more scheme n xs i m h = subst (λ (es : List Entry). Got es m) (history_from_append scheme n [] xs (i ∷ [])) h

-- the transitions of more inputs stand in front of the older ones
pub transitions_from : (scheme : Scheme) (n : Node) (es : List Entry) (xs : List Input) → (front : List Transition) × (transitions_of (history_from scheme n es xs) ≡ front ++ transitions_of es)
transitions_from scheme n es [] = ([], refl)
transitions_from scheme n es (x ∷ xs) =
    let r = transitions_from scheme n (extend scheme n es x) xs in
    (r.0 ++ transitions_made (verdict scheme n es x), r.1 ∙ sym (append_assoc r.0 (transitions_made (verdict scheme n es x)) (transitions_of es)))
