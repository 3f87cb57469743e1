-- What some bytes begin with.
use Rattle.std.specs.Prelude.{◌≡◌, ℕ, ◌+◌, ◌<◌, List, ◌∷◌, ◌++◌, length, take}
use Rattle.streams.specs.Lines.{HasNoNewline, IsWithin}
use Rattle.streams.specs.declared.lines.FirstLine.{FirstLine}
use Rattle.streams.specs.declared.lines.FirstLine.TheVariants.{Whole, Partial, TooLong}

-- a line within the limit and the bytes after its newline; part of one; or more bytes than the limit and no newline yet
abbrev pub IsFirst : ℕ → List ℕ → FirstLine → Type 0
IsFirst limit bytes (Whole line rest) = IsWithin limit line.now × (bytes ≡ line.now ++ 10 ∷ rest.now)
IsFirst limit bytes Partial = IsWithin limit bytes
IsFirst limit bytes TooLong = (limit < length bytes) × HasNoNewline (take (limit + 1) bytes)
