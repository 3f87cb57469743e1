use Rattle.replies.proofs.ToldOfMessages.{refused_within}
use Rattle.replies.proofs.pending.reply_to.Goals as goal

pub unreachable-requires : goal.unreachable-requires
unreachable-requires c =
    let s = c.requires.source in
    c.in-None.ensures.none (refused_within c.refusals_have_causes.ensures.messages s.0 c.args.taken.now c.in-Refused.refusal s.1 c.requires.judged c.in-Refused.ensures)
