-- The first cause that stands decides a refusal, and where none does, the verdict on an order to transfer units is
-- its proposal.
use Rattle.protocol.specs.Deciding as decide
use Rattle.status.specs.declared.rows.RowInput.TheVariants as column
use Rattle.std.proofs.Common.{Bool, List, None, Option, Some, [], ap, cond, false, is_none, refl, sym, true, ℕ, ◌++◌, ◌+◌, ◌∙◌, ◌∷◌, ◌≡◌}
use Rattle.protocol.specs.Checks.{Causes, propose_refusals}
use Rattle.units.specs.declared.code.Code.{Code}
use Rattle.protocol.specs.History.{Entry, Transition, proposals}
use Rattle.protocol.specs.Deciding.{IsRefused, IsRepeat, Verdict, by_row, recorded_if_room, refuse}
use Rattle.safety.proofs.MovesAndHistories.NewestTransitions.{Made}
use Rattle.safety.proofs.MovesAndHistories.RefusalCauses.{refuse_none}
use Rattle.safety.proofs.MovesAndHistories.TableMoves.{NoneStands}
use Rattle.status.specs.Order.{Order}
use Rattle.wire.specs.declared.input.Input.TheVariants.{Propose}
use Rattle.units.specs.declared.code.Node.TheVariants.{Registry}
use Rattle.scheme.specs.declared.registries.Scheme.{Scheme}
use Rattle.status.specs.declared.id.TransactionId.{TransactionId}
use Rattle.std.proofs.lemmas.Bool.{cond-false}
use Rattle.protocol.specs.AtRegistry.{content_of, holding, new_transfer_verdict, registry_verdict}
use Rattle.checks.specs.Refusing.{first_of, order_refusals}
use Rattle.checks.proofs.FirstCauses.{refuse_first}
use Rattle.status.specs.Id.{id_at}
use Rattle.status.specs.Rows.{initiator_row}
use Rattle.protocol.specs.Effects.{initiator_sends}
use Rattle.protocol.specs.Verdict.{transitions_made}
use Rattle.safety.proofs.OneRegistry.ProposalNumbers.{next_is_new}
use Rattle.safety.proofs.MovesAndHistories.TransitionForms.{proposed}
use Rattle.units.specs.RefusalCodes.{transactions_used_up}

pub first_none : (cs : Causes) → first_of cs ≡ None → NoneStands cs
first_none [] h = tt
first_none (c ∷ cs) h = go c.0 c.1 h (first_none cs)
  where
    go : (b : Bool) (m : ℕ) → cond b (Some m) (first_of cs) ≡ None → (first_of cs ≡ None → NoneStands cs) → (b ≡ false) × NoneStands cs
    go true m e rest = absurd (cc (e))
    go false m e rest = (refl, rest e)

pub none_first : (cs : Causes) → NoneStands cs → first_of cs ≡ None
none_first [] h = refl
none_first (c ∷ cs) h = cond-false c.0 (Some c.1) (first_of cs) h.0 ∙ none_first cs h.1

-- causes in two parts
none_parts : (xs ys : Causes) → NoneStands (xs ++ ys) → NoneStands xs × NoneStands ys
none_parts [] ys h = (tt, h)
none_parts (x ∷ xs) ys h = let r = none_parts xs ys h.1 in ((h.0, r.0), r.1)

refuse_parts : (xs ys : Causes) (v : Verdict) → refuse (xs ++ ys) v ≡ refuse xs (refuse ys v)
refuse_parts [] ys v = refl
refuse_parts (x ∷ xs) ys v = ap (cond x.0 (IsRefused x.1)) (refuse_parts xs ys v)

-- ---- an order to transfer units

module _ (scheme : Scheme) (c : Code) (es : List Entry) (o : Order) where
  pub order_refused : (n : ℕ) → first_of (order_refusals scheme c (holding scheme c es) (proposals es) o) ≡ Some n → registry_verdict scheme c es (Propose o) ≡ IsRefused n
  order_refused n h = go (id_at c (proposals es + 1)) refl
    where
      go : (t : Option TransactionId) → id_at c (proposals es + 1) ≡ t → registry_verdict scheme c es (Propose o) ≡ IsRefused n
      go None e =
          ap (λ t. refuse (propose_refusals scheme c (holding scheme c es) o) (new_transfer_verdict scheme c es (content_of o) t)) e
          ∙ sym (refuse_parts (propose_refusals scheme c (holding scheme c es) o) ((true, transactions_used_up) ∷ []) IsRepeat)
          ∙ refuse_first (propose_refusals scheme c (holding scheme c es) o ++ (true, transactions_used_up) ∷ []) IsRepeat n
          (ap (λ t. first_of (propose_refusals scheme c (holding scheme c es) o ++ (is_none t, transactions_used_up) ∷ [])) (sym e) ∙ h)
      go (Some t) e =
          let v = new_transfer_verdict scheme c es (content_of o) (id_at c (proposals es + 1)) in
          sym (refuse_parts (propose_refusals scheme c (holding scheme c es) o) ((false, transactions_used_up) ∷ []) v)
          ∙ refuse_first (propose_refusals scheme c (holding scheme c es) o ++ (false, transactions_used_up) ∷ []) v n
          (ap (λ t. first_of (propose_refusals scheme c (holding scheme c es) o ++ (is_none t, transactions_used_up) ∷ [])) (sym e) ∙ h)

  pub order_causes : first_of (order_refusals scheme c (holding scheme c es) (proposals es) o) ≡ None → NoneStands (propose_refusals scheme c (holding scheme c es) o)
  order_causes h =
      (none_parts (propose_refusals scheme c (holding scheme c es) o) ((is_none (id_at c (proposals es + 1)), transactions_used_up) ∷ [])
      (first_none (order_refusals scheme c (holding scheme c es) (proposals es) o) h)).0

  -- it proposes a new transaction
  pub order_proposes : (t : TransactionId) → Made scheme (Registry c) es → NoneStands (propose_refusals scheme c (holding scheme c es) o) → id_at c (proposals es + 1) ≡ Some t
      → registry_verdict scheme c es (Propose o) ≡ recorded_if_room scheme es (proposed c t (content_of o) ∷ [])
  order_proposes t transitions_made none is =
      let fresh = next_is_new scheme c es transitions_made t is in
      refuse_none (propose_refusals scheme c (holding scheme c es) o) (new_transfer_verdict scheme c es (content_of o) (id_at c (proposals es + 1))) none
      ∙ ap (new_transfer_verdict scheme c es (content_of o)) is
      ∙ ap (λ (n : Option Transition). by_row scheme es (decide.moved t (Some (content_of o)) 0 (initiator_sends c t (Some (content_of o)) column.Propose)) (initiator_row (decide.known n) column.Propose)) fresh
