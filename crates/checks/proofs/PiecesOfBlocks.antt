-- The units of blocks: as units of one of the blocks, and as pieces.
use Rattle.std.proofs.Common.{◌≡◌, zero, suc, List, [], ◌∷◌, Bool, true, false, inl, inr, refl, sym, subst, arith}
use Rattle.std.specs.Prelude.{◌||◌, ◌==◌, nat_lt}
use Rattle.std.specs.Bool.{OnTrue, OnFalse}
use Rattle.std.specs.List.{IsAmong, list_any}
use Rattle.std.proofs.lemmas.Bool.{cases_Bool, le-ltb, ne_eqb}
use Rattle.units.specs.Apart.{AllApart}
use Rattle.units.specs.Limits.{last_unit}
use Rattle.units.specs.Unit.{has_unit}
use Rattle.units.specs.declared.block.Block.{Block}
use Rattle.units.specs.declared.block.Unit.{Unit as Serial}
use Rattle.status.specs.Content.{raws}
use Rattle.accounts.specs.Refusals.{IsUnitOf}
use Rattle.accounts.proofs.Blocks.{first, later}
use Rattle.protocol.specs.Checks.{is_out_of_range}
use Rattle.protocol.specs.Pieces.{Piece, pieces, pieces_of, repeats}
use Rattle.protocol.proofs.RepeatedUnits.{repeats_apart, apart_repeats}
use Rattle.protocol.proofs.UnitsOfBlocks.{block_of_piece, piece_of_block}
use Rattle.units.proofs.Lists.Membership.{In, In_cases, In_left, In_right}
use Rattle.units.proofs.Lists.SomePass.{list_any_in, list_any_not}

-- a unit with a kind
abbrev pub unit_as : Serial → Block → Piece
unit_as s b = record { unit = s; kind = b.raw.kind }

-- the block that has a piece
pub block_with : (blocks : List Block) (p : Piece) → In p (pieces (raws blocks)) → (b : Block) × IsUnitOf blocks b p.unit × (p.kind ≡ b.raw.kind)
block_with [] p i = absurd i
block_with (b ∷ bs) p i =
    elim (In_cases p (pieces_of b.raw) (pieces (raws bs)) i) [
      | inl j ↦ let h = block_of_piece b.raw p j in (b, record { among = first b bs; has = h.0 }, h.1)
      | inr j ↦ let r = block_with bs p j in (r.0, record { among = later b bs r.0 r.1.among; has = r.1.has }, r.2)
    ]

-- a unit of a block is one of the pieces
piece_at : (blocks : List Block) (b : Block) (s : Serial) → IsAmong blocks b → has_unit b.raw s ≡ true → In (unit_as s b) (pieces (raws blocks))
piece_at [] b s m h = absurd (omega (arith, m.1.0))
piece_at (a ∷ bs) b s (zero, (lt, e)) h =
    In_left (unit_as s b) (pieces_of a.raw) (pieces (raws bs)) (subst (λ (c : Block). In (unit_as s b) (pieces_of c.raw)) e (piece_of_block b.raw s h))
piece_at (a ∷ bs) b s (suc i, (lt, e)) h = In_right (unit_as s b) (pieces_of a.raw) (pieces (raws bs)) (piece_at bs b s (i, (omega (arith, lt), e)) h)

pub piece_in : (blocks : List Block) (b : Block) (s : Serial) → IsUnitOf blocks b s → In (unit_as s b) (pieces (raws blocks))
piece_in blocks b s is = piece_at blocks b s is.among is.has

-- a test that a unit of the blocks passes, and one that none passes
pub some_passes : (test : Piece → Bool) (blocks : List Block) (b : Block) (s : Serial) → IsUnitOf blocks b s → test (unit_as s b) ≡ true → list_any test (pieces (raws blocks)) ≡ true
some_passes test blocks b s is yes' = list_any_in test (pieces (raws blocks)) (unit_as s b) (piece_in blocks b s is) yes'

pub none_passes : (test : Piece → Bool) (blocks : List Block) → ((b : Block) (p : Piece) → IsUnitOf blocks b p.unit → p.kind ≡ b.raw.kind → test p ≡ true → ⊥) → list_any test (pieces (raws blocks)) ≡ false
none_passes test blocks no' = list_any_not test (pieces (raws blocks)) (λ p i e. let w = block_with blocks p i in no' w.0 p w.1 w.2 e)

-- what the test of overlaps says
pub repeats_told : (blocks : List Block) (b : Bool) → OnFalse b (AllApart blocks) → OnTrue b (AllApart blocks → ⊥) → b ≡ repeats (pieces (raws blocks))
repeats_told blocks true none some =
    elim (cases_Bool (repeats (pieces (raws blocks)))) [
      | inl y ↦ sym y
      | inr n ↦ absurd (some (apart_repeats blocks n))
    ]
repeats_told blocks false none some = sym (repeats_apart blocks none)

-- the numbers of blocks are in range
none_of_three : (x y z : Bool) → x ≡ false → y ≡ false → z ≡ false → (x || (y || z)) ≡ false
none_of_three x y z e f g = rw (e, f, g) refl

pub raw_in_range : (b : Block) → is_out_of_range b.raw ≡ false
raw_in_range b =
    let r = b.in_range in
    none_of_three (nat_lt b.raw.last b.raw.first) (b.raw.first == 0) (nat_lt last_unit b.raw.last) (le-ltb b.raw.last b.raw.first r.1) (ne_eqb b.raw.first 0 (λ e. omega (arith, r.0, e))) (le-ltb last_unit b.raw.last r.2)

pub raws_in_range : (blocks : List Block) → list_any is_out_of_range (raws blocks) ≡ false
raws_in_range [] = refl
raws_in_range (b ∷ bs) = none_of_two (is_out_of_range b.raw) (list_any is_out_of_range (raws bs)) (raw_in_range b) (raws_in_range bs)
  where
    none_of_two : (x y : Bool) → x ≡ false → y ≡ false → (x || y) ≡ false
    none_of_two x y e f = rw (e, f) refl
