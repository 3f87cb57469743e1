use Rattle.std.proofs.Common.{ℕ, List}
use Rattle.one_node.specs.Operating.{IsBegun, Talks, held_nowhere}
use Rattle.one_node.proofs.operator.Operator.operate.Given as goal

abbrev pub invariant-loop : goal.invariant-loop
invariant-loop g l = (begun : List ℕ) → IsBegun l.fn.self.line.held.items begun
    → (left : List ℕ) × Talks l.client.scheme.now l.client.node (g.N.Clock.tells l.client.network.now) held_nowhere begun (g.I.Read.remaining l.fn.reader) (g.I.Read.remaining l.reader) (g.W.Write.contents l.fn.writer) (g.W.Write.contents l.writer) l.fn.self.count l.self.count l.fn.evidence l.evidence left
    × IsBegun l.self.line.held.items left
