-- One event of a world that gives a node an input: its outcome, and which event can give the input.
use Rattle.std.proofs.Common.{◌≡◌, ℕ, Bool, true, false, cond, Some, refl, sym, ap, subst, ◌∙◌}
use Rattle.std.specs.Prelude.{slice_get}
use Rattle.units.specs.declared.code.Node.{Node}
use Rattle.status.specs.declared.moment.Moment.{Moment}
use Rattle.wire.specs.declared.input.Input.{Input}
use Rattle.wire.specs.declared.input.Input.TheVariants.{Received}
use Rattle.wire.specs.declared.message.Message.{Message}
use Rattle.protocol.specs.Weave.{Gives}
use Rattle.protocol.specs.World.{World, Stepped, station, stays, take_input, at_node, is_order, deliver, step}
use Rattle.protocol.specs.declared.event.Outcome.TheVariants.{Recorded, NotPossible}
use Rattle.protocol.specs.declared.event.Posted.{Posted}
use Rattle.protocol.specs.declared.event.WorldEvent.{WorldEvent}
use Rattle.protocol.specs.declared.event.WorldEvent.TheVariants.{Take, Commit, Post, Deliver, Crash, Restart}
use Rattle.protocol.proofs.MessageForms.{received}
use Rattle.safety.proofs.WorldLemmas.StationsAfterPut.{at}

-- the node takes the input, whether it is an order or not
abbrev pub taken : World → Node → Input → Stepped
taken w n input = at_node w (station w n) (take_input w.scheme input)

-- ---- an event that gives a node an input

pub not_possible : (place : ℕ) → NotPossible ≡ Recorded place → ⊥
not_possible place e = cc (e)

order_recorded : (w : World) (b : Bool) (x : Stepped) (place : ℕ) → (cond b x (stays w NotPossible)).outcome ≡ Recorded place → cond b x (stays w NotPossible) ≡ x
order_recorded w true x place e = refl
order_recorded w false x place e = absurd (not_possible place e)

take_recorded : (w : World) (n : Node) (input : Input) (place : ℕ) → (step w (Take n input)).outcome ≡ Recorded place → step w (Take n input) ≡ taken w n input
unfolding step
take_recorded w n input place e = order_recorded w (is_order w n input) (taken w n input) place e

pub deliver_at : (w : World) (index : ℕ) (moment : Moment) (n : Node) (p : Posted) → slice_get w.bag index ≡ Some p → p.message.to ≡ n → step w (Deliver index moment) ≡ taken w n (Received p.message moment)
unfolding step
deliver_at w index moment n p is to = ap (deliver w moment) is ∙ ap (λ z. taken w z (Received p.message moment)) to

-- where it is recorded, the node takes it
pub gives_step : (w : World) (e : WorldEvent) (n : Node) (input : Input) (place : ℕ) → Gives w e n input → (step w e).outcome ≡ Recorded place → step w e ≡ taken w n input
gives_step w (Take m order) n input place g r = take_recorded w m order place r ∙ ap (λ z. taken w z order) g.0 ∙ ap (taken w n) g.1
gives_step w (Deliver index moment) n input place g r = deliver_at w index moment n g.0 g.1 g.2 ∙ ap (taken w n) g.3
gives_step w (Commit m count) n input place g r = absurd g
gives_step w (Post m key) n input place g r = absurd g
gives_step w (Crash m kept) n input place g r = absurd g
gives_step w (Restart m) n input place g r = absurd g

-- ---- what else gives it

-- an input that isn't a message comes by an order alone
pub order_any : (w : World) (n : Node) (input : Input) (e : WorldEvent) (place : ℕ) → ((m : Message) (moment : Moment) → input ≡ Received m moment → ⊥) → Gives w e n input
    → (step w e).outcome ≡ Recorded place → (step w (Take n input)).outcome ≡ Recorded place
order_any w n input (Take m order) place other g r = subst (λ z. (step w (Take n z)).outcome ≡ Recorded place) g.1 (subst (λ z. (step w (Take z order)).outcome ≡ Recorded place) g.0 r)
order_any w n input (Deliver index moment) place other g r = absurd (other g.0.message moment (sym g.3))
order_any w n input (Commit m count) place other g r = absurd g
order_any w n input (Post m key) place other g r = absurd g
order_any w n input (Crash m kept) place other g r = absurd g
order_any w n input (Restart m) place other g r = absurd g

never_order : (w : World) (n : Node) (m : Message) (moment : Moment) (place : ℕ) → (step w (Take n (Received m moment))).outcome ≡ Recorded place → ⊥
unfolding step
never_order w n m moment place e = not_possible place e

-- a message that isn't in the bag, or is for another node, isn't recorded by any event
pub message_none : (w : World) (n : Node) (m : Message) (moment : Moment) (e : WorldEvent) (place : ℕ) → ((index : ℕ) (p : Posted) → slice_get w.bag index ≡ Some p → p.message.to ≡ n → p.message ≡ m → ⊥)
    → Gives w e n (Received m moment) → (step w e).outcome ≡ Recorded place → ⊥
message_none w n m moment (Take k order) place none g r = never_order w k m moment place (subst (λ z. (step w (Take k z)).outcome ≡ Recorded place) g.1 r)
message_none w n m moment (Deliver index at) place none g r = none index g.0 g.1 g.2 (received g.3)
message_none w n m moment (Commit k count) place none g r = absurd g
message_none w n m moment (Post k key) place none g r = absurd g
message_none w n m moment (Crash k kept) place none g r = absurd g
message_none w n m moment (Restart k) place none g r = absurd g
