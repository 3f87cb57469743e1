use Rattle.std.proofs.Common.{inl, inr, arith}
use Rattle.input_lines.proofs.FirstLines.{line_ends, not_too_long, over_limit, newline_over}
use Rattle.input_lines.proofs.cutting.input_line.Goals as goal
use Rattle.input_lines.proofs.cutting.input_line.Goals.{in_default-via-in-Whole+else-line-room, in_default-via-in_default}

pub returns-in-Whole-clause-too_long : goal.returns-in-Whole-clause-too_long
returns-in-Whole-clause-too_long c long =
    absurd (not_too_long c.args.bytes.now c.in-Whole.line.now c.in-Whole.rest.now c.args.room
    (record { begins = record { spelled = c.in-Whole.ensures.1; free = c.in-Whole.ensures.0.0 }; short = omega (arith, c.in-Whole.ensures.0.1, c.min.ensures); within = omega (arith, c.if-line-room.true) }) long)

pub returns-in-Whole-clause-truncated : goal.returns-in-Whole-clause-truncated
returns-in-Whole-clause-truncated c short = absurd (line_ends c.args.bytes.now c.in-Whole.line.now c.in-Whole.rest.now (record { spelled = c.in-Whole.ensures.1; free = c.in-Whole.ensures.0.0 }) short.free)

pub returns-in_default-clause-fault : goal.returns-in_default-clause-fault
returns-in_default-clause-fault c =
    elim c.in_default.branch [
      | in_default-via-in-Whole+else-line-room w ↦ newline_over c.args.bytes.now w.in-Whole.line.now w.in-Whole.rest.now c.args.room w.in-Whole.ensures.0.0 w.in-Whole.ensures.1 (omega (arith, w.if-line-room.false))
      | in_default-via-in_default w ↦ over_limit c.args.bytes.now c.min.result c.args.room c.min.ensures w.in_default.ensures.0 w.in_default.ensures.1
    ]
