use Rattle.std.proofs.Common.{◌<◌, ◌^◌, take}
use Rattle.std.specs.List.{AllByRecursion}
use Rattle.status.proofs.order.are_short.Given as goal

abbrev pub invariant-loop-block : goal.invariant-loop-block
invariant-loop-block l = AllByRecursion (λ b. (b.first < 10 ^ 18) × (b.last < 10 ^ 18)) (take l.block-index l.blocks)
