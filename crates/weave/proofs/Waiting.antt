-- A node waits until its own station changes or a message comes for it: no other event of the world lets it record an
-- input that it couldn't record before.
use Rattle.std.proofs.Common.{◌≡◌, ℕ, List, ◌∷◌, ◌++◌, Bool, true, false, cond, Option, Some, None, refl, sym, ap, subst, ◌∙◌}
use Rattle.units.specs.declared.code.Node.{Node}
use Rattle.wire.specs.declared.input.Input.{Input}
use Rattle.wire.specs.declared.input.Input.TheVariants.{Propose, Request, OpenAccount, CloseAccount, Ack, CleanUp, Eligible, Received}
use Rattle.scheme.specs.declared.registries.Scheme.{Scheme}
use Rattle.protocol.specs.Claims.{committed_part}
use Rattle.protocol.specs.World.{World, Station, Turn, Stepped, station, stays, take_input, at_node, is_order, was_posted, step}
use Rattle.protocol.specs.declared.event.Outcome.TheVariants.{Recorded, NotPossible}
use Rattle.protocol.specs.declared.event.Posted.{Posted}
use Rattle.protocol.specs.declared.event.WorldEvent.TheVariants.{Take, Commit, Post, Deliver, Crash, Restart}
use Rattle.units.proofs.Lists.Membership.{In, In_slice_get}
use Rattle.units.proofs.Lists.Positions as positions
use Rattle.weave.specs.Steps.{IsNotRecorded, Waits}
use Rattle.weave.proofs.Turns.{taken, gives_step, deliver_at}

-- for that node the second world is as the first: no message has come for it
pub record IsSameFor (w v : World) (n : Node) : Type 0 where
  pub scheme : v.scheme ≡ w.scheme
  pub at : station v n ≡ station w n
  pub marked : (key : ℕ) → was_posted v n key ≡ was_posted w n key
  pub bag : (p : Posted) → In p v.bag → p.message.to ≡ n → In p w.bag

module _ (w v : World) (n : Node) (same : IsSameFor w v n) where
  order_same : (input : Input) → is_order v n input ≡ is_order w n input
  order_same (Propose o) = refl
  order_same (Request t) = refl
  order_same (OpenAccount account) = refl
  order_same (CloseAccount account) = refl
  order_same (CleanUp t) = refl
  order_same (Eligible c may) = refl
  order_same (Ack key) = same.marked key.value
  order_same (Received m moment) = refl

  turn_same : (o : Option Station) (f : Station → Turn) → (at_node v o f).outcome ≡ (at_node w o f).outcome
  turn_same None f = refl
  turn_same (Some s) f = refl

  taken_same : (input : Input) → (taken v n input).outcome ≡ (taken w n input).outcome
  taken_same input =
      ap (λ (z : Scheme). (at_node v (station v n) (take_input z input)).outcome) same.scheme
      ∙ ap (λ o. (at_node v o (take_input w.scheme input)).outcome) same.at ∙ turn_same (station w n) (take_input w.scheme input)

  cond_same : (b : Bool) (x y : Stepped) → x.outcome ≡ y.outcome → (cond b x (stays v NotPossible)).outcome ≡ (cond b y (stays w NotPossible)).outcome
  cond_same true x y e = e
  cond_same false x y e = refl

  order_step : (input : Input) → (step v (Take n input)).outcome ≡ (step w (Take n input)).outcome
  unfolding step
  order_step input =
      ap (λ b. (cond b (taken v n input) (stays v NotPossible)).outcome) (order_same input)
      ∙ cond_same (is_order w n input) (taken v n input) (taken w n input) (taken_same input)

  not_recorded_on : (input : Input) → IsNotRecorded w n input → IsNotRecorded v n input
  not_recorded_on input none (Take m order) place g r =
      none (Take n input) place (refl, refl)
      (sym (order_step input) ∙ subst (λ z. (step v (Take n z)).outcome ≡ Recorded place) g.1 (subst (λ z. (step v (Take z order)).outcome ≡ Recorded place) g.0 r))
  not_recorded_on input none (Deliver index moment) place g r =
      let found = positions.index_of w.bag g.0 (same.bag g.0 (In_slice_get v.bag index g.0 g.1) g.2) in
      none (Deliver found.0 moment) place (g.0, found.1, g.2, g.3)
      (ap (λ (z : Stepped). z.outcome) (deliver_at w found.0 moment n g.0 found.1 g.2) ∙ ap (λ z. (taken w n z).outcome) g.3 ∙ sym (taken_same input)
      ∙ sym (ap (λ (z : Stepped). z.outcome) (gives_step v (Deliver index moment) n input place g r)) ∙ r)
  not_recorded_on input none (Commit m count) place g r = absurd g
  not_recorded_on input none (Post m key) place g r = absurd g
  not_recorded_on input none (Crash m kept) place g r = absurd g
  not_recorded_on input none (Restart m) place g r = absurd g

  pub waits_on : (journals : Node → List Input) → Waits w journals n → Waits v journals n
  waits_on journals none input rest left = not_recorded_on input (none input rest (left ∙ ap (λ o. committed_part o ++ input ∷ rest) same.at))
