use Rattle.std.proofs.Common.{◌≡◌, filter, map, take}
use Rattle.units.specs.Unit.{have_unit}
use Rattle.world.specs.Transfers.{transfer_of}
use Rattle.world.proofs.world.World.owed.Given as goal

abbrev pub invariant-loop-transfer : goal.invariant-loop-transfer
invariant-loop-transfer l = l.owed.items ≡ map (λ p. p.id) (filter (λ p. have_unit p.content.units l.fn.unit) (map transfer_of (take l.transfer-index l.transfer-items)))
