use Rattle.std.proofs.Common.{◌≡◌, flat_map, map, take}
use Rattle.units.specs.declared.code.Node.TheVariants.{Registry}
use Rattle.protocol.specs.Claims.{live_of}
use Rattle.protocol.specs.Table.{proposed}
use Rattle.world.specs.Transfers.{transfer_of}
use Rattle.world.proofs.world.World.transactions.Given as goal

abbrev pub invariant-loop-member : goal.invariant-loop-member
invariant-loop-member l = map transfer_of l.transfers.items ≡ flat_map (λ m. proposed (live_of l.fn.self (Registry m.code))) (take l.member-index l.member-items)
