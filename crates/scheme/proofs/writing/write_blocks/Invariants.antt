use Rattle.std.proofs.Common.{◌≡◌, ◌++◌, take}
use Rattle.json_fields.specs.Writing.{each_tokens}
use Rattle.scheme.specs.Written.{block_data}
use Rattle.scheme.proofs.writing.write_blocks.Given as goal

abbrev pub invariant-loop-block : goal.invariant-loop-block
invariant-loop-block l = l.out ≡ l.fn.out ++ each_tokens block_data (take l.block-index l.blocks)
