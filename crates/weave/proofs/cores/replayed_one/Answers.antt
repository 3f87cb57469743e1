use Rattle.world.specs.Cores as node_cores
use Rattle.weave.proofs.Replayed.{resumed_first}
use Rattle.weave.proofs.cores.replayed_one.Goals as goal

pub returns-in-Err-NotRecorded-clause-ahead : goal.returns-in-Err-NotRecorded-clause-ahead
returns-in-Err-NotRecorded-clause-ahead c =
    let made = c.in_ok-core.ensures in
    let told = c.in-Err-NotRecorded.ensures in
    resumed_first c.args.scheme.now (node_cores.scheme_of c.in_ok-core.core) c.args.node (node_cores.node_of c.in_ok-core.core) (node_cores.journal_of c.in_ok-core.core) c.args.journal.now (node_cores.journal_of c.resume.new.core) c.in-Err-NotRecorded.field-0 c.in-Err-NotRecorded.field-0-0
    made.0 made.1 made.2 c.in-Err-NotRecorded.field-0-is told.prefix told.fault told.place
