use Rattle.std.proofs.Common.{◌∙◌}
use Rattle.std.proofs.Common.{map}
use Rattle.world.specs.Cores as node_cores
use Rattle.weave.proofs.Ends.{fault_of, woven_of}
use Rattle.weave.proofs.weaving.weave_on.Goals as goal

pub returns-in-Some-clause-err : goal.returns-in-Some-clause-err
returns-in-Some-clause-err g c journals counts ahead =
    fault_of c.args.scheme.now journals (map node_cores.journal_of c.args.cores.items) c.in_ok-world.field-0 c.in_ok-world.ensures.follows c.in_ok-world.ensures.done c.in_ok-world.ensures.whole ahead c.args.counts.now counts c.as_slice.result.now
    (c.as_slice.ensures.value ∙ c.in_ok-nodes.ensures) c.in-Some.left.node c.in-Some.left.place c.in-Some.ensures.some

pub returns-clause-ok : goal.returns-clause-ok
returns-clause-ok g c journals counts ahead =
    woven_of c.args.scheme.now journals (map node_cores.journal_of c.args.cores.items) c.in_ok-world.field-0 c.in_ok-world.ensures.follows c.in_ok-world.ensures.done c.in_ok-world.ensures.whole ahead c.args.counts.now counts c.as_slice.result.now
    (c.as_slice.ensures.value ∙ c.in_ok-nodes.ensures) c.in_default.ensures.none
