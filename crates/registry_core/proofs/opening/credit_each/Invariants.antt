use Rattle.std.proofs.Common.{◌≡◌, take}
use Rattle.std.specs.FinMap as map
use Rattle.units.specs.declared.block.Unit.{Unit as Serial}
use Rattle.protocol.specs.Held.{allotted_unit_holding}
use Rattle.registry_core.proofs.opening.credit_each.Given as goal

abbrev pub invariant-loop-allotment : goal.invariant-loop-allotment
invariant-loop-allotment l = record {
  accounts : l.holdings.accounts ≡ l.initial.holdings.accounts;
  unit_holdings : (s : Serial) → map.get l.holdings.unit_holdings s ≡ allotted_unit_holding (take l.allotment-index l.allotted) s;
}
