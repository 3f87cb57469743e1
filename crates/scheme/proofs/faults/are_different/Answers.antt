use Rattle.std.proofs.Common.{arith}
use Rattle.scheme.proofs.Told.{yes, no, all_different, not_different}
use Rattle.scheme.proofs.faults.are_different.Goals as goal

pub returns-then-numbers-i : goal.returns-then-numbers-i
returns-then-numbers-i c = no (not_different c.args.numbers.now c.loop-i.i (omega arith) c.loop-i-test.true c.if-numbers-i.true)

pub returns : goal.returns
returns c = yes (all_different c.args.numbers.now c.loop-i.i c.loop-i-test.false c.loop-i.invariant)
