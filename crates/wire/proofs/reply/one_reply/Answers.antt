use Rattle.wire.proofs.ReplyTexts.{written, one}
use Rattle.wire.proofs.reply.one_reply.Goals as goal

pub returns-clause-written : goal.returns-clause-written
returns-clause-written c = written

pub returns-clause-one : goal.returns-clause-one
returns-clause-one c = one
