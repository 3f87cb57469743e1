-- The least key of a message that awaits its acknowledgement, among the messages of the first records.
use Rattle.std.proofs.Common.{◌≡◌, ℕ, ◌<◌, ◌≤◌, Bool, false, ◌&&◌, not, List, [], ◌∷◌, ◌++◌, length, take, suc, zero, sym, ap, ◌∙◌, arith, inl, inr, subst, Option, Some, None}
use Rattle.std.specs.List.{slice_get}
use Rattle.std.specs.Option.{option_map_or}
use Rattle.std.proofs.lemmas.Bool.{cases_lt}
use Rattle.std.proofs.lemmas.Option.{slice_get_past, slice_get_within}
use Rattle.units.specs.Code.{same_node}
use Rattle.units.specs.declared.code.Node.{Node}
use Rattle.wire.specs.declared.input.Input.{Input}
use Rattle.wire.specs.declared.message.Message.{Message}
use Rattle.scheme.specs.declared.registries.Scheme.{Scheme}
use Rattle.protocol.specs.History.{sends}
use Rattle.protocol.specs.Unacknowledged.{IsLeastFrom, awaits}
use Rattle.protocol.specs.Verdict.{history}
use Rattle.protocol.proofs.Histories.{sends_take}
use Rattle.protocol.proofs.Replaying.{slice_get_front}

no_place : {X : Type 0} (xs : List X) (k : ℕ) → k < length xs → slice_get xs k ≡ None → ⊥
no_place [] k h e = absurd (omega arith)
no_place (x ∷ xs) zero h e = absurd (cc (e))
no_place (x ∷ xs) (suc k) h e = no_place xs k (omega arith) e

-- whether a node has yet to acknowledge a message, by the message
abbrev is_awaited : Node → Bool → Option Message → Bool
is_awaited peer acknowledged message = option_map_or (λ m. same_node m.to peer) message false && not acknowledged

-- the least key among the first messages, where the least of all is known
least_in_front : (front more : List Message) (acknowledged : ℕ → Bool) (peer : Node) (from key : ℕ) → IsLeastFrom (awaits (front ++ more) acknowledged peer) from (Some key) → key < length front
    → IsLeastFrom (awaits front acknowledged peer) from (Some key)
least_in_front front more acknowledged peer from key least below = (
  least.0,
  ap (is_awaited peer (acknowledged key)) (sym (slice_get_front front more key below)) ∙ least.1,
  λ k after before. ap (is_awaited peer (acknowledged k)) (sym (slice_get_front front more k (omega arith))) ∙ least.2 k after before,
)

none_before : (front more : List Message) (acknowledged : ℕ → Bool) (peer : Node) (k : ℕ) → (k < length front → awaits (front ++ more) acknowledged peer k ≡ false) → awaits front acknowledged peer k ≡ false
none_before front more acknowledged peer k none =
    elim (cases_lt k (length front)) [
      | inl below ↦ ap (is_awaited peer (acknowledged k)) (sym (slice_get_front front more k below)) ∙ none below
      | inr past ↦ ap (is_awaited peer (acknowledged k)) (slice_get_past front k past)
    ]

-- none of the first messages, if the least key of all comes after them
none_in_front : (front more : List Message) (acknowledged : ℕ → Bool) (peer : Node) (from key : ℕ) → IsLeastFrom (awaits (front ++ more) acknowledged peer) from (Some key) → length front ≤ key
    → IsLeastFrom (awaits front acknowledged peer) from None
none_in_front front more acknowledged peer from key least past k after = none_before front more acknowledged peer k (λ below. least.2 k after (omega arith))

-- none of the first messages, if there is none among all
none_at_all : (front more : List Message) (acknowledged : ℕ → Bool) (peer : Node) (from : ℕ) → IsLeastFrom (awaits (front ++ more) acknowledged peer) from None
    → IsLeastFrom (awaits front acknowledged peer) from None
none_at_all front more acknowledged peer from none k after = none_before front more acknowledged peer k (λ below. none k after)

-- ---- the least key that awaits, among the messages of the first records

module _ (scheme : Scheme) (n : Node) (journal : List Input) (count : ℕ) (acknowledged : ℕ → Bool) (peer : Node) (from : ℕ) where
  abbrev all : List Message
  all = sends (history scheme n journal)

  abbrev front : List Message
  front = sends (history scheme n (take count journal))

  abbrev Least : List Message → Option ℕ → Type 0
  Least messages found = IsLeastFrom (awaits messages acknowledged peer) from found

  pub none_of_first : Least all None → Least front None
  none_of_first none =
      let r = sends_take scheme n count journal in
      none_at_all front r.0 acknowledged peer from (subst (λ (messages : List Message). Least messages None) r.1 none)

  pub none_where_past : (key : ℕ) → Least all (Some key) → slice_get front key ≡ None → Least front None
  none_where_past key least missing =
      let r = sends_take scheme n count journal in
      let whole = subst (λ (messages : List Message). Least messages (Some key)) r.1 least in
      elim (cases_lt key (length front)) [
        | inl below ↦ absurd (no_place front key below missing)
        | inr past ↦ none_in_front front r.0 acknowledged peer from key whole past
      ]

  pub least_of_first : (key : ℕ) (message : Message) → Least all (Some key) → slice_get front key ≡ Some message → Least front (Some key)
  least_of_first key message least at =
      let r = sends_take scheme n count journal in
      let whole = subst (λ (messages : List Message). Least messages (Some key)) r.1 least in
      least_in_front front r.0 acknowledged peer from key whole (slice_get_within front key message at)
