-- Which units a block has, and when two values are the same.
use Rattle.std.specs.Prelude.{ℕ, Bool, ◌==◌, ◌&&◌, nat_le, List}
use Rattle.std.specs.List.{list_any}
use Rattle.units.specs.Code.{same_code}
use Rattle.units.specs.declared.block.Block.{Block}
use Rattle.units.specs.declared.block.RawBlock.{RawBlock}
use Rattle.units.specs.declared.block.Unit.{Unit as Serial}
use Rattle.units.specs.declared.block.Period.{Period}
use Rattle.units.specs.declared.block.Period.TheVariants.{First, Second}
use Rattle.units.specs.declared.block.Kind.{Kind}
use Rattle.units.specs.declared.block.Kind.TheVariants.{Aau, Rmu, Eru, Cer, Tcer, Lcer}

abbrev pub period_index : Period → ℕ
period_index First = 1
period_index Second = 2

abbrev pub same_period : Period → Period → Bool
same_period a b = period_index a == period_index b

abbrev pub kind_index : Kind → ℕ
kind_index Aau = 0
kind_index Rmu = 1
kind_index Eru = 2
kind_index Cer = 3
kind_index Tcer = 4
kind_index Lcer = 5

abbrev pub same_kind : Kind → Kind → Bool
same_kind a b = kind_index a == kind_index b

-- the same origin, period, kind and numbers
abbrev pub same_raw : RawBlock → RawBlock → Bool
same_raw a b = same_code a.origin b.origin && (same_period a.period b.period && (same_kind a.kind b.kind && ((a.first == b.first) && (a.last == b.last))))

-- the block has the unit: its origin and period, a number from its first to its last
abbrev pub has_unit : RawBlock → Serial → Bool
has_unit b s = same_code b.origin s.origin && (same_period b.period s.period && (nat_le b.first s.number && nat_le s.number b.last))

-- one of the raw blocks has the unit
abbrev pub have_unit : List RawBlock → Serial → Bool
have_unit blocks s = list_any (λ b. has_unit b s) blocks

-- one of the blocks has the unit
abbrev pub covers : List Block → Serial → Bool
covers blocks s = list_any (λ b. has_unit b.raw s) blocks
