use Rattle.std.proofs.Common.{rules}
use Rattle.input_lines.specs.Words.{texts}
use Rattle.input_lines.proofs.Turns.{no_turns}
use Rattle.input_lines.proofs.instructions.only_turns.Goals as goal

pub returns-else-is_turns-clause-none : goal.returns-else-is_turns-clause-none
returns-else-is_turns-clause-none c = no_turns (texts c.args.words.now) c.in_ok-word.word.now c.in_ok-turns.turns (search rules) (search rules) (search rules) (search rules)
