use Rattle.std.proofs.Common.{◌≡◌, drop}
use Rattle.protocol.specs.World.{run}
use Rattle.world.proofs.reached.ReachedWorld.apply_all.Given as goal

abbrev pub invariant-loop-event : goal.invariant-loop-event
invariant-loop-event l = run l.self (drop l.event-index l.events) ≡ run l.fn.self l.events
