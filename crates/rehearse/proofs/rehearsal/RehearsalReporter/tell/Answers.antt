use Rattle.rehearse.proofs.Runs.{run_more}
use Rattle.rehearse.proofs.rehearsal.RehearsalReporter.tell.Goals as goal

pub returns : goal.returns
returns c = λ scheme events ran count. run_more scheme events _ _ _ _ _ _ ran count c.in_ok-run_event.ensures.world c.in_ok-run_event.ensures.text
