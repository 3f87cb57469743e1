-- A world keeps its scheme.
use Rattle.std.proofs.Common.{◌≡◌, ℕ, List, [], ◌∷◌, Bool, true, false, cond, Option, Some, None, refl, ◌∙◌}
use Rattle.std.specs.Prelude.{slice_get, option_and_then}
use Rattle.units.specs.declared.code.Node.{Node}
use Rattle.status.specs.declared.moment.Moment.{Moment}
use Rattle.wire.specs.declared.input.Input.TheVariants.{Received}
use Rattle.wire.specs.declared.message.Message.{Message}
use Rattle.protocol.specs.declared.event.Outcome.TheVariants.{NotPossible}
use Rattle.protocol.specs.declared.event.Posted.{Posted}
use Rattle.protocol.specs.declared.event.WorldEvent.{WorldEvent}
use Rattle.protocol.specs.declared.event.WorldEvent.TheVariants.{Take, Commit, Post, Deliver, Crash, Restart}
use Rattle.protocol.specs.World.{World, Station, Turn, Stepped, station, stays, take_input, commit, crash, restart, sent, at_node, is_order, posted, deliver, step, run}

at_node_scheme : (w : World) (o : Option Station) (f : Station → Turn) → (at_node w o f).world.scheme ≡ w.scheme
at_node_scheme w None f = refl
at_node_scheme w (Some s) f = refl

cond_scheme : (w : World) (b : Bool) (x y : Stepped) → x.world.scheme ≡ w.scheme → y.world.scheme ≡ w.scheme → (cond b x y).world.scheme ≡ w.scheme
cond_scheme w true x y h i = h
cond_scheme w false x y h i = i

posted_scheme : (w : World) (n : Node) (key : ℕ) (o : Option Message) → (posted w n key o).world.scheme ≡ w.scheme
posted_scheme w n key None = refl
posted_scheme w n key (Some m) = refl

deliver_scheme : (w : World) (moment : Moment) (o : Option Posted) → (deliver w moment o).world.scheme ≡ w.scheme
deliver_scheme w moment None = refl
deliver_scheme w moment (Some p) = at_node_scheme w (station w p.message.to) (take_input w.scheme (Received p.message moment))

pub step_scheme : (w : World) (e : WorldEvent) → (step w e).world.scheme ≡ w.scheme
unfolding step
step_scheme w (Take n input) =
    cond_scheme w (is_order w n input) (at_node w (station w n) (take_input w.scheme input)) (stays w NotPossible) (at_node_scheme w (station w n) (take_input w.scheme input)) refl
step_scheme w (Commit n count) = at_node_scheme w (station w n) (commit count)
step_scheme w (Post n key) = posted_scheme w n key (option_and_then (sent w.scheme key) (station w n))
step_scheme w (Deliver index moment) = deliver_scheme w moment (slice_get w.bag index)
step_scheme w (Crash n kept) = at_node_scheme w (station w n) (crash kept)
step_scheme w (Restart n) = at_node_scheme w (station w n) restart

pub run_scheme : (w : World) (events : List WorldEvent) → (run w events).scheme ≡ w.scheme
run_scheme w [] = refl
run_scheme w (e ∷ es) = run_scheme (step w e).world es ∙ step_scheme w e
