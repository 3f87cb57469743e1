use Rattle.std.proofs.Common.{subst}
use Rattle.tagged_lines.specs.Sent.{IsTaggedReply}
use Rattle.tagged_lines.proofs.Replies.{fits_reply}
use Rattle.tagged_lines.proofs.checking_reader.checked.Goals as goal

pub returns-in-Some-clause-fits : goal.returns-in-Some-clause-fits
returns-in-Some-clause-fits c =
    let m = c.in-Some.message.now in
    fits_reply m c.args.line.now.items c.push_reserved.new.self.items (subst (IsTaggedReply m) c.as_slice.ensures.value (c.is_reply.ensures.0 c.if-is_reply.true)) c.push_reserved.ensures.items
