-- The orders of codes and of units, which are the derived ones: by their fields in turn.
use Rattle.std.specs.Prelude.{ℕ}
use Rattle.std.specs.declared.cmp.Ordering.{Ordering}
use Rattle.units.specs.declared.block.RawBlock.{RawBlock}
use Rattle.units.specs.declared.block.Unit.{Unit as Serial}
use Rattle.units.specs.declared.code.Code.{Code}
use Rattle.units.specs.contracts.block.UnitOrd.TheImpl.{cmp-value as unit-order}
use Rattle.units.specs.contracts.code.CodeOrd.TheImpl.{cmp-value as code-order}

-- byte order of their two letters
abbrev pub code_cmp : Code → Code → Ordering
code_cmp = code-order.it

-- by origin, period and number
abbrev pub unit_cmp : Serial → Serial → Ordering
unit_cmp = unit-order.it

-- the unit of a block's origin and period with this number
abbrev pub unit_numbered : RawBlock → ℕ → Serial
unit_numbered b n = record { origin = b.origin; period = b.period; number = n }

-- the first unit of a block
abbrev pub first_unit : RawBlock → Serial
first_unit b = unit_numbered b b.first
