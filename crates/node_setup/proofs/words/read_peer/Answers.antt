use Rattle.node_setup.proofs.Naming.{name_of, none_of}
use Rattle.node_setup.proofs.words.read_peer.Goals as goal

pub returns-in_err-node-clause-none : goal.returns-in_err-node-clause-none
returns-in_err-node-clause-none c =
    none_of c.from_residual-in_err-node.result
    (λ peer named. c.in_err-node.ensures.none peer.0 (name_of c.in_ok-name.name.now c.in_ok-name.text.now c.args.word.now peer c.in_ok-name.ensures.some.0 c.in_ok-name.ensures.some.1 named))
