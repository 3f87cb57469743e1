use Rattle.weave.proofs.NextEvents.{next_recorded}
use Rattle.weave.proofs.committed.next_input.Goals as goal

pub returns-clause-recorded : goal.returns-clause-recorded
returns-clause-recorded c =
    next_recorded c.args.world.now c.args.node c.in_ok-journal.journal.now c.committed_count.result c.record_at.result c.in_ok-journal.ensures.value c.in_ok-journal.ensures.replays c.committed_count.ensures c.record_at.ensures
