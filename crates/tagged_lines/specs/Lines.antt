-- A line that grows piece by piece. No public contract cites it.
use Rattle.std.specs.Prelude.{◌≡◌, ℕ, ◌+◌, ◌<◌, List, ◌∷◌, ◌++◌, length}
use Rattle.streams.specs.Lines.{HasNoNewline}
use Rattle.tagged_lines.specs.declared.line.Added.{Added}
use Rattle.tagged_lines.specs.declared.line.Added.TheVariants.{More, Whole, TooLong}

-- the bytes, up to their first newline if they have one
pub record IsFront (bytes front after : List ℕ) : Type 0 where
  pub whole : bytes ≡ front ++ after
  pub free : HasNoNewline front

-- how a line changes when bytes are added to it
abbrev pub Adds : ℕ → List ℕ → List ℕ → List ℕ → Added → Type 0
Adds limit old bytes new More = (new ≡ old ++ bytes) × HasNoNewline bytes
Adds limit old bytes new Whole = (front rest : List ℕ) × IsFront bytes front (10 ∷ rest) × (new ≡ old ++ front)
Adds limit old bytes new TooLong = (new ≡ old) × ((front after : List ℕ) × IsFront bytes front after × (limit < length old + length front))
