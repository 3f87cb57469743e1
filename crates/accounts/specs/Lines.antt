-- The holdings as lines: blocks of an account with one label.
use Rattle.std.specs.Prelude.{◌≡◌, List, map}
use Rattle.std.specs.FinMap.{get}
use Rattle.units.specs.Canonical.{AreCanonical}
use Rattle.units.specs.Intervals.{label_at, AreKept}
use Rattle.units.specs.declared.block.Unit.{Unit as Serial}
use Rattle.units.specs.declared.interval.Interval.{Interval}
use Rattle.accounts.specs.Holdings.{HoldingsView}
use Rattle.accounts.specs.declared.unit_holding.UnitHolding.{UnitHolding}
use Rattle.accounts.specs.declared.unit_holding.HeldBlock.{HeldBlock}

-- a line as an interval of units with that holding
abbrev pub unit_holding_interval : HeldBlock → Interval UnitHolding
unit_holding_interval l = record {
  origin = l.block.raw.origin;
  period = l.block.raw.period;
  first = l.block.raw.first;
  last = l.block.raw.last;
  label = record { account = l.account; kind = l.block.raw.kind; reserving = l.reserving };
}

-- by account and then in the order of units, with neighbours of one account, kind and label joined; each unit that is
-- held is in one line, which has its holding
pub record AreLines (held : HoldingsView) (lines : List HeldBlock) : Type 0 where
  pub ordered : AreCanonical (λ (unit_holding : UnitHolding). unit_holding.account) (map unit_holding_interval lines)
  pub apart : AreKept (map unit_holding_interval lines)
  pub same : (unit : Serial) → label_at (map unit_holding_interval lines) unit ≡ get held.unit_holdings unit
