-- The results of a step of reading. No public contract cites it.
use Rattle.std.specs.Prelude.{◌≡◌, ℕ, ◌+◌, ◌<◌, ◌≤◌, List, [], ◌∷◌, ◌++◌, Option, length, take}
use Rattle.std.specs.Io.KnownBytes.{Consumes, IsAtEnd, Keeps}
use Rattle.units.specs.Limits.{longest_line}
use Rattle.streams.specs.Lines.{HasNoNewline}
use Rattle.one_node.specs.declared.reading.Byte.{Byte}
use Rattle.one_node.specs.declared.reading.Byte.TheVariants as byte
use Rattle.one_node.specs.declared.reading.Byte.TheVariants.{Read}
use Rattle.one_node.specs.declared.reading.Step.{Step}
use Rattle.one_node.specs.declared.reading.Step.TheVariants.{Line, TooLong, Quiet, Ended, Failed}

-- the part that is held of a line that was begun: all of it, or enough of it to show that it is too long
abbrev pub held_of : List ℕ → List ℕ
held_of bytes = take (longest_line + 1) bytes

-- the bytes held before and after, those that the reader had left before and after, and the result of a step
module _ (old new : List ℕ) (before after : Option (List ℕ)) where
  -- these bytes were read, which end no line
  pub record ReadsOn (bytes : List ℕ) : Type 0 where
    pub consumed : Consumes before after bytes
    pub none : HasNoNewline bytes
    pub held : new ≡ held_of (old ++ bytes)

  -- these bytes were read, and the newline of the line that they end
  pub record ReadsLine (bytes : List ℕ) : Type 0 where
    pub consumed : Consumes before after (bytes ++ 10 ∷ [])
    pub none : HasNoNewline bytes
    pub held : new ≡ held_of (old ++ bytes)

  abbrev pub Steps : Step → Type 0
  Steps Line = (bytes : List ℕ) × ReadsLine bytes × (length (old ++ bytes) ≤ longest_line)
  Steps TooLong = (bytes : List ℕ) × ReadsLine bytes × (longest_line < length (old ++ bytes))
  Steps Quiet = (bytes : List ℕ) × ReadsOn bytes
  Steps Ended = (bytes : List ℕ) × ReadsOn bytes × IsAtEnd after
  Steps Failed = (bytes : List ℕ) × ReadsOn bytes

-- one byte was read, or none
abbrev pub ReadsByte : Option (List ℕ) → Option (List ℕ) → Byte → Type 0
ReadsByte before after (Read b) = Consumes before after (b ∷ [])
ReadsByte before after byte.Ended = Keeps before after × IsAtEnd after
ReadsByte before after _ = Keeps before after
