use Rattle.std.proofs.Common.{◌≡◌, [], ◌∷◌, ◌++◌, rules}
use Rattle.units.specs.Block.{IsRawText}
use Rattle.units.specs.declared.block.RawBlock.{RawBlock}
use Rattle.input_lines.specs.declared.line.WordsFault.TheVariants.{Order}
use Rattle.input_lines.proofs.BlockWords.{no_block, gathered_more}
use Rattle.input_lines.proofs.WantedParts.{part_so, lack_so}
use Rattle.input_lines.proofs.orders.blocks.Goals as goal

pub returns-in_err-block-clause-order : goal.returns-in_err-block-clause-order
returns-in_err-block-clause-order c = λ was. c.loop-word.invariant.none
    (no_block _ _ _ c.loop-word-test.true (lack_so ((r : RawBlock) → IsRawText _ r → ⊥) c.read.result Order _ c.in_err-block.ensures.value c.read.ensures.none))

pub loop-word-preserved : goal.loop-word-preserved
loop-word-preserved c =
    let e : c.push.new.self.items ≡ c.loop-word.found.items ++ c.in_ok-block.block ∷ [] = search rules in
    rw e (gathered_more _ _ _ _ _ c.loop-word-test.true c.loop-word.invariant (part_so (IsRawText _) c.read.result Order c.in_ok-block.block c.in_ok-block.ensures.value c.read.ensures.some))
