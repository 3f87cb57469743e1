-- The lines of a stream: the pieces that byte 10 ends, and the bytes after the last of them.
use Rattle.std.specs.Prelude.{◌≡◌, ◌≢◌, ℕ, ◌+◌, ◌<◌, ◌≤◌, List, [], ◌∷◌, ◌++◌, length, take}
use Rattle.std.specs.List.{AllByRecursion}

-- the lines, each with its newline, and then the rest
abbrev pub stream_of : List (List ℕ) → List ℕ → List ℕ
stream_of [] rest = rest
stream_of (l ∷ ls) rest = l ++ 10 ∷ stream_of ls rest

abbrev pub HasNoNewline : List ℕ → Type 0
HasNoNewline bytes = AllByRecursion (λ b. b ≢ 10) bytes

-- a line: no newline, and not over the limit
abbrev pub IsWithin : ℕ → List ℕ → Type 0
IsWithin limit line = HasNoNewline line × (length line ≤ limit)

-- the bytes are these lines, none over the limit, and a rest that is no line yet and not over it
pub record Splits (limit : ℕ) (bytes : List ℕ) (lines : List (List ℕ)) (rest : List ℕ) : Type 0 where
  pub whole : bytes ≡ stream_of lines rest
  pub each : AllByRecursion (IsWithin limit) lines
  pub rest_within : IsWithin limit rest

-- the bytes are these lines, none over the limit, and then one that is over it
pub record IsOver (limit : ℕ) (bytes : List ℕ) (lines : List (List ℕ)) : Type 0 where
  pub over : List ℕ
  pub whole : bytes ≡ stream_of lines over
  pub each : AllByRecursion (IsWithin limit) lines
  pub long : limit < length over
  pub no_line : HasNoNewline (take (limit + 1) over)
