use Rattle.std.proofs.Common.{ℕ, List}
use Rattle.one_node.specs.Reading.{ReadsOn}
use Rattle.one_node.proofs.reading.LineBuffer.step.Given as goal

abbrev pub invariant-loop : goal.invariant-loop
invariant-loop g l = (bytes : List ℕ) × ReadsOn l.fn.self.held.items l.self.held.items (g.R.Read.remaining l.fn.reader) (g.R.Read.remaining l.reader) bytes
