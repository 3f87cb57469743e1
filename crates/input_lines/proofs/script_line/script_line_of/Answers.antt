use Rattle.std.proofs.Common.{rules}
use Rattle.input_lines.specs.Words.{texts}
use Rattle.input_lines.proofs.LinesCut.{no_script_line}
use Rattle.input_lines.proofs.script_line.script_line_of.Goals as goal

pub returns-clause-order : goal.returns-clause-order
returns-clause-order c = λ was. no_script_line _ (texts c.as_slice.result.now) (search rules) (c.script_line_with.ensures.order was)
