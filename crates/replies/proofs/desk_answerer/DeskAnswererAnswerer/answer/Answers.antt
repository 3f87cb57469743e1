use Rattle.std.proofs.Common.{rules, sym, subst}
use Rattle.replies.specs.Answers.{DeskAnswererView, Replies}
use Rattle.replies.proofs.desk_answerer.DeskAnswererAnswerer.answer.Goals as goal

pub returns-clause-replies : goal.returns-clause-replies
returns-clause-replies g c = (
  c.in_ok-answer.answer,
  search rules,
  search rules,
  c.in_ok-answer.ensures.line,
  sym c.reply-reply.ensures,
  subst (λ (s : DeskAnswererView g.row.K.Denot). Replies (g.K.Clock.tells s.clock) s.seat c.answer_line.new.seat c.args.line.now c.in_ok-answer.answer) c.self.view_is c.in_ok-answer.ensures.replies,
)
