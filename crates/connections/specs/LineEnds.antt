-- How much a session reads of a line. No public contract cites it.
use Rattle.std.specs.Prelude.{ℕ, length, Option, Some, None, ◌+◌, ◌-◌, ◌^◌, min}
use Rattle.streams.specs.declared.lines.FirstLine.{FirstLine}
use Rattle.streams.specs.declared.lines.FirstLine.TheVariants.{Whole, Partial, TooLong}

-- how many bytes a session is to read: the line and its newline, and all that comes if the line is too long
abbrev pub length_of : FirstLine → Option ℕ
length_of (Whole line rest) = Some (min (length line.now + 1) (2 ^ 64 - 1))
length_of Partial = None
length_of TooLong = Some (2 ^ 64 - 1)
