use Rattle.std.proofs.Common.{drop}
use Rattle.input_lines.specs.Words.{texts}
use Rattle.input_lines.proofs.BlockWords.{Gathered}
use Rattle.input_lines.proofs.orders.blocks.Given as goal

abbrev pub invariant-loop-word : goal.invariant-loop-word
invariant-loop-word l = Gathered (texts l.words) l.found.items (texts (drop l.word-index l.words))
