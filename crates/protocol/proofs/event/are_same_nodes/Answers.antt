use Rattle.std.proofs.Common.{IsTrue, ◌≡◌, ◌↔◌, sym, subst}
use Rattle.units.proofs.Same.{node_told}
use Rattle.protocol.proofs.event.are_same_nodes.Goals as goal

pub returns : goal.returns
returns c = subst (λ b. IsTrue b ↔ (c.args.a ≡ c.args.b)) (sym c.eq.ensures) (node_told c.args.a c.args.b)
