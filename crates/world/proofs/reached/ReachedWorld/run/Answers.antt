use Rattle.std.proofs.Common.{◌≡◌, ap, sym, subst, ◌∙◌}
use Rattle.protocol.specs.Claims.{DeliversWelcome, committed_of, live_of}
use Rattle.protocol.specs.Headline.{IsSafe}
use Rattle.protocol.specs.WayOut.{WayOut}
use Rattle.protocol.specs.World.{World, opening, run}
use Rattle.safety.proofs.Headline.{safe_live, safe_committed, way_out, welcome}
use Rattle.world.proofs.reached.ReachedWorld.run.Goals.{In-Ok}
use Rattle.world.proofs.reached.ReachedWorld.run.Goals as goal

-- the events led to it
led : (c : In-Ok) → run (opening c.args.scheme.now) c.args.events.now ≡ c.apply_all.new.self
led c = sym (c.in-Ok.ensures ∙ ap (λ (w : World). run w c.args.events.now) c.in_ok-world.ensures)

pub returns-in-Ok-clause-world : goal.returns-in-Ok-clause-world
returns-in-Ok-clause-world c = sym (led c)

pub returns-in-Ok-clause-live : goal.returns-in-Ok-clause-live
returns-in-Ok-clause-live c = subst (λ (w : World). IsSafe c.args.scheme.now (live_of w)) (led c) (safe_live c.args.scheme.now c.args.events.now)

pub returns-in-Ok-clause-committed : goal.returns-in-Ok-clause-committed
returns-in-Ok-clause-committed c = subst (λ (w : World). IsSafe c.args.scheme.now (committed_of w)) (led c) (safe_committed c.args.scheme.now c.args.events.now)

pub returns-in-Ok-clause-welcome : goal.returns-in-Ok-clause-welcome
returns-in-Ok-clause-welcome c = subst DeliversWelcome (led c) (welcome c.args.scheme.now c.args.events.now)

pub returns-in-Ok-clause-way_out : goal.returns-in-Ok-clause-way_out
returns-in-Ok-clause-way_out c = subst WayOut (led c) (way_out c.args.scheme.now c.args.events.now)
