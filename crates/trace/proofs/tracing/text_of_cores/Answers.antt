use Rattle.std.proofs.Common.{map}
use Rattle.world.specs.Cores as node_cores
use Rattle.trace.proofs.tracing.text_of_cores.Goals as goal

pub returns-clause-err : goal.returns-clause-err
returns-clause-err g c = c.text_of_woven.ensures.err (map node_cores.journal_of c.args.cores.items) c.weave_cores.ensures.err
