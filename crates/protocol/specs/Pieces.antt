-- Blocks as the units in them, one by one.
use Rattle.std.specs.Prelude.{ℕ, zero, suc, ◌-◌, ◌==◌, ◌&&◌, ◌||◌, Bool, false, List, [], ◌∷◌, map, flat_map}
use Rattle.std.specs.List.{list_any}
use Rattle.units.specs.Code.{same_code}
use Rattle.units.specs.Unit.{same_period}
use Rattle.units.specs.declared.block.Kind.{Kind}
use Rattle.units.specs.declared.block.RawBlock.{RawBlock}
use Rattle.units.specs.declared.block.Unit.{Unit as Serial}

-- a unit with its kind
pub record Piece : Type 0 where
  pub unit : Serial
  pub kind : Kind

-- ---- the units of blocks

abbrev pub same_unit : Serial → Serial → Bool
same_unit a b = same_code a.origin b.origin && (same_period a.period b.period && (a.number == b.number))

-- a given number of consecutive numbers, from the first on
abbrev pub up_from : ℕ → ℕ → List ℕ
up_from first zero = []
up_from first (suc count) = first ∷ up_from (suc first) count

abbrev pub piece : RawBlock → ℕ → Piece
piece b n = record { unit = record { origin = b.origin; period = b.period; number = n }; kind = b.kind }

abbrev pub pieces_of : RawBlock → List Piece
pieces_of b = map (piece b) (up_from b.first (suc b.last - b.first))

abbrev pub pieces : List RawBlock → List Piece
pieces blocks = flat_map pieces_of blocks

-- a unit is there twice
abbrev pub repeats : List Piece → Bool
repeats [] = false
repeats (p ∷ ps) = list_any (λ q. same_unit p.unit q.unit) ps || repeats ps
