-- The number of units in lines of holdings and in proposals.
use Rattle.std.specs.Prelude.{ℕ}
use Rattle.std.specs.List.{sum_by}
use Rattle.registry_core.specs.HeldBlock.{HeldBlock}
use Rattle.protocol.specs.Table.{ProposedTransfer}
use Rattle.safety.specs.NumberOfUnits.{units_of}

-- of a line of holdings
abbrev pub held_units : HeldBlock → ℕ
held_units l = units_of l.block.raw

-- of a transfer: in all its blocks
abbrev pub due_units : ProposedTransfer → ℕ
due_units p = sum_by units_of p.content.units
