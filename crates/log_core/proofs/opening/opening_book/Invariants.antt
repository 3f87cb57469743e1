use Rattle.std.proofs.Common.{◌≡◌}
use Rattle.std.specs.FinMap as finite
use Rattle.std.specs.Option.{option_or}
use Rattle.std.specs.Prelude.{option_map}
use Rattle.units.specs.Intervals.{AreKept, label_at}
use Rattle.units.specs.Spans.{intervals_of}
use Rattle.units.specs.declared.block.Unit.{Unit as Serial}
use Rattle.log_core.specs.Readings.{owner_of}
use Rattle.log_core.proofs.opening.opening_book.Given as goal

-- the owners in the book and those of the intervals that are left are all owners
abbrev pub invariant-loop-unit : goal.invariant-loop-unit
invariant-loop-unit l = record {
  kept : AreKept (intervals_of l.unit-iterator);
  all : (s : Serial) → option_map owner_of (finite.get l.allotments s) ≡ option_or (option_map owner_of (label_at (intervals_of l.unit-iterator) s)) (finite.get l.book s);
}
