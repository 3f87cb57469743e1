use Rattle.std.proofs.Common.{◌∙◌}
use Rattle.rehearse.proofs.Reported.{reported}
use Rattle.rehearse.proofs.rehearsal.RehearsalReporter.text.Goals as goal

pub returns : goal.returns
returns c = λ scheme events ran. reported scheme events _ _ _ ran (c.in_ok-push_table.ensures.safe scheme events (c.as_world.ensures ∙ ran.world))
