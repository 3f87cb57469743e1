use Rattle.std.proofs.Common.{subst}
use Rattle.replies.specs.Answers.{AnswerView, IsAnswer}
use Rattle.replies.proofs.answer.Answer.receipt.Goals as goal

pub returns-clause-backs : goal.returns-clause-backs
returns-clause-backs c = subst (λ (a : AnswerView). IsAnswer a.line a.reply a.receipt) c.self.view_is c.self.invariant
