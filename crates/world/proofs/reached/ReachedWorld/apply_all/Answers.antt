use Rattle.std.proofs.Common.{arith}
use Rattle.std.proofs.lemmas.Grind.{common_steps}
use Rattle.world.proofs.OneMoreEvent.{all_led}
use Rattle.world.proofs.reached.ReachedWorld.apply_all.Goals as goal

pub returns : goal.returns
returns c = all_led c.args.self.now c.args.events.now c.loop-event.event-index c.loop-event.self c.loop-event-test.false c.loop-event.invariant

pub loop-event-preserved : goal.loop-event-preserved
loop-event-preserved c = grind (arith, common_steps)
