use Rattle.std.proofs.Common.{map}
use Rattle.world.specs.Cores as node_cores
use Rattle.loading.proofs.runs.table_of_cores.Goals as goal

pub returns-clause-err : goal.returns-clause-err
returns-clause-err g c = c.table_of_woven.ensures.err c.args.scheme.now (map node_cores.journal_of c.args.cores.items) c.weave_cores.ensures.err
