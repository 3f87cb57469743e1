use Rattle.std.proofs.Common.{rules}
use Rattle.input_lines.specs.Words.{texts}
use Rattle.input_lines.proofs.LinesCut.{no_instruction_line}
use Rattle.input_lines.proofs.instructions.instruction_of.Goals as goal

pub returns-clause-order : goal.returns-clause-order
returns-clause-order c = λ was. no_instruction_line _ (texts c.as_slice.result.now) (search rules) (c.instruction_of_words.ensures.order was)
