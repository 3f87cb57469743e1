-- Tests whether blocks and intervals meet; no public contract cites them.
use Rattle.std.specs.Prelude.{Bool, ◌&&◌, nat_le}
use Rattle.units.specs.Code.{same_code}
use Rattle.units.specs.Unit.{same_period}
use Rattle.units.specs.declared.block.RawBlock.{RawBlock}
use Rattle.units.specs.declared.interval.Interval.{Interval}

-- one origin and period, and numbers that meet
abbrev pub meets : {M : Type 0} → RawBlock → Interval M → Bool
meets b i = same_code i.origin b.origin && (same_period i.period b.period && (nat_le i.first b.last && nat_le b.first i.last))

-- the block's units with the label, as an interval
abbrev pub labelled : {M : Type 0} → RawBlock → M → Interval M
labelled b label = record { origin = b.origin; period = b.period; first = b.first; last = b.last; label = label }

-- one origin and period, and numbers that meet, of two blocks
abbrev pub blocks_meet : RawBlock → RawBlock → Bool
blocks_meet a b = meets b (labelled a (tt {0}))
