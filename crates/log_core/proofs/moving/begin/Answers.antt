use Rattle.log_core.proofs.CheckedTransfers.{none_at_entry}
use Rattle.log_core.proofs.moving.begin.Goals as goal

pub start-requires-clause-absent : goal.start-requires-clause-absent
start-requires-clause-absent c w = none_at_entry c.args.transfers.now c.args.checked.now c.requires.waiting c.args.id c.args.transfer.since c.requires.absent w
