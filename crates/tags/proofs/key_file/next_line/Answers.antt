use Rattle.std.proofs.Common.{inl, inr, length, subst, arith}
use Rattle.streams.specs.FirstLine.{IsFirst}
use Rattle.tags.proofs.KeyLines.{lines_front, line_unended}
use Rattle.tags.proofs.key_file.next_line.Goals as goal

pub returns-in-Whole : goal.returns-in-Whole
returns-in-Whole c = lines_front c.in-Whole.line.now c.in-Whole.rest.now c.in-Whole.ensures.0.0 c.args.bytes.now c.in-Whole.ensures.1

pub returns-in-Partial : goal.returns-in-Partial
returns-in-Partial c =
    let bytes = c.args.bytes.now in
    elim c.in-Partial.is [
      | inl partial ↦ line_unended bytes (subst (IsFirst (length bytes) bytes) partial c.first_line.ensures).0 c.requires
      | inr long ↦ absurd (let over = (subst (IsFirst (length bytes) bytes) long c.first_line.ensures).0 in omega (arith, over))
    ]
