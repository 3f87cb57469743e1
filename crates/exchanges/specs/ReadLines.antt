-- The bytes that reading a line takes. No public contract cites it.
use Rattle.std.specs.Prelude.{◌≡◌, ℕ, ◌+◌, List, [], ◌∷◌, ◌++◌, length, Option}
use Rattle.units.specs.Limits.{longest_line}
use Rattle.streams.specs.Lines.{HasNoNewline, IsWithin}
use Rattle.exchanges.specs.CountedView.{CountedView}
use Rattle.exchanges.specs.Streams.{Takes, TakesAll, TakesAndFails}
use Rattle.exchanges.specs.declared.reading.LineEnd.{LineEnd}
use Rattle.exchanges.specs.declared.reading.LineEnd.TheVariants.{Newline, TooLong, Ended, Fault}

module _ {R : Type 0} (remaining : R → Option (List ℕ)) where
  -- the bytes of a line that were read, without its newline, and why reading ended
  abbrev pub ReadsLine : CountedView R → CountedView R → List ℕ → LineEnd → Type 0
  ReadsLine old new line Newline = IsWithin longest_line line × Takes remaining old new (line ++ 10 ∷ [])
  ReadsLine old new line TooLong = (HasNoNewline line × (length line ≡ longest_line + 1)) × Takes remaining old new line
  ReadsLine old new line Ended = IsWithin longest_line line × TakesAll remaining old new line
  ReadsLine old new line Fault = IsWithin longest_line line × TakesAndFails remaining old new line
