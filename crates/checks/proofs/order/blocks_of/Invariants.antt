use Rattle.std.proofs.Common.{◌≡◌, take}
use Rattle.status.specs.Content.{raws}
use Rattle.checks.proofs.order.blocks_of.Given as goal

abbrev pub invariant-loop-raw : goal.invariant-loop-raw
invariant-loop-raw l = raws l.blocks.items ≡ take l.raw-index l.raw_blocks
