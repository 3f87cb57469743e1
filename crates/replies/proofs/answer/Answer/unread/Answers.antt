use Rattle.replies.proofs.ToldOfMessages.{bare_from}
use Rattle.replies.proofs.answer.Answer.unread.Goals as goal

pub bare-requires : goal.bare-requires
bare-requires c = bare_from c.args.line.now _ c.args.refusal _ c.requires c.in_ok-line.ensures.items c.refused_by-reply.ensures
