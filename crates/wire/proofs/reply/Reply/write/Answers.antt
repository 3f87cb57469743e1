use Rattle.std.proofs.Common.{sym, ap, ◌∙◌}
use Rattle.wire.specs.Replies.{reply_text}
use Rattle.wire.proofs.ReplyTexts.{text_received, text_refused}
use Rattle.wire.proofs.reply.Reply.write.Goals as goal

pub returns-in-Received : goal.returns-in-Received
returns-in-Received c = text_received ∙ ap reply_text (sym c.in-Received.is)

pub returns-in-Refused : goal.returns-in-Refused
returns-in-Refused c = text_refused c.in-Refused.code ∙ ap reply_text (sym c.in-Refused.is)
