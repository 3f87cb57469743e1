use Rattle.std.proofs.Common.{◌≡◌, ◌++◌, take}
use Rattle.json_fields.specs.Writing.{each_tokens}
use Rattle.units.specs.declared.block.Block.{Block}
use Rattle.wire.specs.Objects.{block_data}
use Rattle.wire.proofs.members.write_blocks.Given as goal

abbrev pub invariant-loop-block : goal.invariant-loop-block
invariant-loop-block l = l.out ≡ l.fn.out ++ each_tokens (λ (b : Block). block_data b.raw) (take l.block-index l.blocks)
