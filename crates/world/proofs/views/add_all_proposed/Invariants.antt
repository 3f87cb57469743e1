use Rattle.std.proofs.Common.{◌≡◌, ◌++◌, map, take}
use Rattle.std.specs.List.{filter_map}
use Rattle.protocol.specs.History.{sends}
use Rattle.protocol.specs.Table.{proposed_in}
use Rattle.registry_core.specs.Registry.{past}
use Rattle.world.specs.Transfers.{transfer_of}
use Rattle.world.proofs.views.add_all_proposed.Given as goal

abbrev pub invariant-loop-key : goal.invariant-loop-key
invariant-loop-key l = map transfer_of l.transfers.items ≡ map transfer_of l.initial.transfers.items ++ filter_map (λ m. proposed_in m.id m.body) (take l.key (sends (past l.fn.core)))
