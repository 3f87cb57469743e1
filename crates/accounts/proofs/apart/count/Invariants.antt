use Rattle.std.proofs.Common.{◌≡◌, take}
use Rattle.accounts.specs.Tables.{units_in}
use Rattle.accounts.proofs.apart.count.Given as goal

abbrev pub invariant-loop-block : goal.invariant-loop-block
invariant-loop-block l = l.count ≡ units_in (take l.block-index l.blocks)
