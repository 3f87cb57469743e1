-- The texts of a moment.
use Rattle.std.specs.Prelude.{◌≡◌, ℕ, ◌*◌, List, pos, Ok}
use Rattle.jiff.specs.Words.{parse_timestamp}
use Rattle.status.specs.declared.moment.Moment.{Moment}

-- `jiff` reads the text as the instant that number of whole seconds after the epoch
abbrev pub IsMomentText : List ℕ → Moment → Type 0
IsMomentText text m = parse_timestamp text ≡ Ok (pos (m.seconds * 1_000_000_000))
