use Rattle.std.proofs.Common.{◌≡◌, filter, map, take}
use Rattle.protocol.specs.Claims.{live_of}
use Rattle.protocol.specs.Table.{is_due}
use Rattle.world.specs.Transfers.{transfer_of}
use Rattle.world.proofs.world.World.due.Given as goal

abbrev pub invariant-loop-transfer : goal.invariant-loop-transfer
invariant-loop-transfer l = map transfer_of l.due.items ≡ filter (is_due (live_of l.fn.self)) (map transfer_of (take l.transfer-index l.transfer-items))
