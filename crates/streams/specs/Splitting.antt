-- The contents of a splitter after a call, and its result.
use Rattle.std.specs.Prelude.{◌≡◌, ℕ, List, [], ◌∷◌, ◌++◌, true, false, Result, Ok, Err}
use Rattle.streams.specs.Lines.{Splits, IsOver}
use Rattle.streams.specs.declared.splitter.Line.{Line}
use Rattle.streams.specs.declared.splitter.LineFault.{LineFault}
use Rattle.streams.specs.declared.splitter.LineFault.TheVariants.{TooLong, Closed, NoMemory}
use Rattle.streams.specs.declared.splitter.Cut.{Cut}
use Rattle.streams.specs.declared.splitter.Cut.TheVariants.{Whole, Over}
use Rattle.streams.specs.SplitterView.{SplitterView}

-- why a piece wasn't taken, and how the splitter is left
abbrev pub Faults : SplitterView → SplitterView → List ℕ → LineFault → Type 0
Faults old new piece (TooLong lines) = (old.closed ≡ false) × IsOver old.limit (old.rest ++ piece) lines × (new ≡ record old { closed = true })
Faults old new piece Closed = (old.closed ≡ true) × (new ≡ old)
Faults old new piece NoMemory = (old.closed ≡ false) × (new ≡ old)

-- the result of a call with a piece, and how it leaves the splitter: of the bytes held before and the piece, the lines
-- are handed out and the rest is held
abbrev pub Feeds : SplitterView → SplitterView → List ℕ → Result (List Line) LineFault → Type 0
Feeds old new piece (Ok lines) = (old.closed ≡ false) × Splits old.limit (old.rest ++ piece) lines new.rest × (new ≡ record old { rest = new.rest })
Feeds old new piece (Err fault) = Faults old new piece fault

-- ---- what the code follows; no public contract cites what stands below

-- the bytes held after these lines: those after the last line, or more of those that were held before
abbrev pub rest_after : List ℕ → List (List ℕ) → List ℕ → List ℕ
rest_after held [] tail = held ++ tail
rest_after held (l ∷ ls) tail = tail

-- a piece cut after the held bytes: lines and the bytes after them, or lines before one that is over the limit
abbrev pub IsCut : ℕ → List ℕ → List ℕ → Cut → Type 0
IsCut limit held piece (Whole lines tail) = Splits limit (held ++ piece) lines (rest_after held lines tail.now)
IsCut limit held piece (Over lines) = IsOver limit (held ++ piece) lines
