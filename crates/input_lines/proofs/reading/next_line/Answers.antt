use Rattle.std.proofs.Common.{refl, inr, ap, ◌∙◌, Err}
use Rattle.input_lines.proofs.reading.next_line.Goals as goal

pub returns-in-Err-Order-clause-err : goal.returns-in-Err-Order-clause-err
returns-in-Err-Order-clause-err g c = (refl, inr (record { line = c.in-Ok.parts.0.now; rest = c.in-Ok.parts.1.now; begins = c.in-Ok.ensures.ok; order = refl; none = c.read.ensures.order (c.in-Err-Order.is ∙ ap Err c.in-Err-Order.field-0-is) }))
