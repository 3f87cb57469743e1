use Rattle.std.proofs.Common.{inr}
use Rattle.replies.proofs.desk_answerer.answer_line.Goals as goal

pub returns-in-Ok-clause-replies : goal.returns-in-Ok-clause-replies
returns-in-Ok-clause-replies g c = inr (c.in-Ok.job.message, c.in-Ok.ensures.ok.1, c.answer_job.ensures.asks)
