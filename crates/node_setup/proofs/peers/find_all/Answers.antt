use Rattle.std.proofs.Common.{◌≡◌, true, All, List, None, arith, subst}
use Rattle.units.specs.declared.code.Node.{Node}
use Rattle.sockets.specs.Addresses.{address_of}
use Rattle.node_setup.specs.Peers.{is_peer}
use Rattle.node_setup.proofs.peers.find_all.Goals as goal

pub returns-clause-ok : goal.returns-clause-ok
returns-clause-ok g c =
    let names = c.in_ok-names.names in
    subst (λ (ns : List Node). All (λ (n : Node). is_peer c.args.scheme.now c.args.node n ≡ true → address_of c.args.ports.now n ≡ None → ⊥) ns) c.in_ok-names.ensures
    (λ k d below. c.loop-at.invariant k d (omega (arith, below, c.loop-at-test.false, c.loop-at.auto.at-end, c.len-at-end.ensures, names.ok.0)))
