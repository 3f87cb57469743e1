use Rattle.std.proofs.Common.{length}
use Rattle.streams.proofs.Streams.{Cutting}
use Rattle.streams.proofs.splitter.cut_lines.Given as goal

abbrev pub invariant-loop-line : goal.invariant-loop-line
invariant-loop-line l = Cutting l.limit l.held l.piece l.lines.items l.begun l.left

abbrev pub decreases-loop-line : goal.decreases-loop-line
decreases-loop-line l = length l.left
