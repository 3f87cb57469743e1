-- The holdings of a registry, as a report writes them.
use Rattle.std.specs.Prelude.{◌≡◌, ◌↔◌, true, List, map, Contains, Some}
use Rattle.units.specs.Canonical.{AreCanonical}
use Rattle.units.specs.Unit.{has_unit}
use Rattle.units.specs.declared.block.Unit.{Unit as Serial}
use Rattle.accounts.specs.Lines.{unit_holding_interval}
use Rattle.accounts.specs.declared.unit_holding.HeldBlock.{HeldBlock}
use Rattle.accounts.specs.declared.unit_holding.UnitHolding.{UnitHolding}
use Rattle.protocol.specs.History.{holds, position, reserver}
use Rattle.registry_core.specs.Registry.{RegistryCoreView, moves}

-- the unit is held in that account with that kind, and reserved by that transfer, or by none
pub record IsHeldSo (r : RegistryCoreView) (s : Serial) (unit_holding : UnitHolding) : Type 0 where
  pub held : holds r.scheme r.code (moves r) s ≡ true
  pub placed : position r.scheme r.code (moves r) s ≡ Some (record { account = unit_holding.account; kind = unit_holding.kind })
  pub reserved : reserver r.code (moves r) s ≡ unit_holding.reserving

-- one of the lines has the unit, in that account with that kind, and with that reserving transfer or none
pub record HasSo (lines : List HeldBlock) (s : Serial) (unit_holding : UnitHolding) : Type 0 where
  pub line : HeldBlock
  pub among : Contains lines line
  pub has : has_unit line.block.raw s ≡ true
  pub so : record { account = line.account; kind = line.block.raw.kind; reserving = line.reserving } ≡ unit_holding

-- by account and then in the order of units, with neighbours that are held alike joined; a line has a unit with a
-- holding exactly when the unit has that holding
pub record AreHoldings (r : RegistryCoreView) (lines : List HeldBlock) : Type 0 where
  pub in_order : AreCanonical (λ (unit_holding : UnitHolding). unit_holding.account) (map unit_holding_interval lines)
  pub exact : (s : Serial) (unit_holding : UnitHolding) → IsHeldSo r s unit_holding ↔ HasSo lines s unit_holding
