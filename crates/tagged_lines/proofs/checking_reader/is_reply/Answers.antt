use Rattle.std.proofs.lemmas.Bool.{false≢true}
use Rattle.tagged_lines.proofs.Replies.{is_right, right_is, no_reply}
use Rattle.tagged_lines.proofs.checking_reader.is_reply.Goals as goal

pub returns-in-Some : goal.returns-in-Some
returns-in-Some c =
    let m = c.args.message.now in
    let line = c.args.line.now in
    let digits = c.in-Some.digits.now in
    let reply = c.in-Some.reply.now in (
      λ h. is_right m line digits reply c.reply_tag.result c.in-Some.ensures.some c.reply_tag.ensures (c.is_written.ensures.0 h),
      λ h. c.is_written.ensures.1 (right_is m line digits reply c.reply_tag.result c.in-Some.ensures.some c.reply_tag.ensures h),
    )

pub returns-in-None : goal.returns-in-None
returns-in-None c = (λ h. absurd (false≢true h), λ h. absurd (no_reply c.args.message.now c.args.line.now c.in-None.ensures.none h))
