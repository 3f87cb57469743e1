-- The bytes that were taken from a reader, and the limits of an input.
use Rattle.std.specs.Prelude.{ℕ, ◌≤◌, ◌+◌, List, length, Option}
use Rattle.std.specs.Io.KnownBytes.{Consumes, IsAtEnd}

-- the greatest length of a line of an input in bytes, without its newline
abbrev pub longest_input_line : ℕ
longest_input_line = 1_048_576

-- the greatest length of an input in bytes
abbrev pub longest_input : ℕ
longest_input = 16_777_216

-- the bytes were read from the front, and are all there were, or one more than an input may have
pub record Takes (old new : Option (List ℕ)) (bytes : List ℕ) : Type 0 where
  pub front : Consumes old new bytes
  pub most : length bytes ≤ longest_input + 1
  pub whole : length bytes ≤ longest_input → IsAtEnd new
