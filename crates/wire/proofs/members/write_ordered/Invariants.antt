use Rattle.std.proofs.Common.{◌≡◌, ◌++◌, take}
use Rattle.json_fields.specs.Writing.{each_tokens}
use Rattle.wire.specs.Objects.{block_data}
use Rattle.wire.proofs.members.write_ordered.Given as goal

abbrev pub invariant-loop-block : goal.invariant-loop-block
invariant-loop-block l = l.out ≡ l.fn.out ++ each_tokens block_data (take l.block-index l.blocks)
