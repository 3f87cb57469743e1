-- The contents of a splitter.
use Rattle.std.specs.Prelude.{ℕ, List, Bool}

pub record SplitterView : Type 0 where
  -- the greatest length of a line
  pub limit : ℕ
  -- the bytes after the last newline
  pub rest : List ℕ
  -- a line was over the limit
  pub closed : Bool
