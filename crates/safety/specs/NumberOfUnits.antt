-- The number of units in blocks, and in the allotments of a scheme.
use Rattle.std.specs.Prelude.{ℕ, ◌+◌, ◌-◌}
use Rattle.std.specs.List.{sum_by}
use Rattle.units.specs.declared.block.RawBlock.{RawBlock}
use Rattle.scheme.specs.Order.{all_blocks}
use Rattle.scheme.specs.declared.registries.Scheme.{Scheme}

-- of a block: the count of numbers from its first to its last
abbrev pub units_of : RawBlock → ℕ
units_of b = (b.last + 1) - b.first

-- of all that the registries of a scheme hold at the start
abbrev pub allotted_units : Scheme → ℕ
allotted_units scheme = sum_by (λ b. units_of b.raw) (all_blocks scheme.members)
