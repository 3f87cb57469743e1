-- Blocks share no unit exactly when no unit is there twice.
use Rattle.std.proofs.Common.{◌≡◌, ℕ, zero, suc, List, [], ◌∷◌, ◌++◌, true, false, true≢false, inl, inr, refl, sym, ap, subst, ◌∙◌, arith, map}
use Rattle.std.specs.Prelude.{◌-◌}
use Rattle.std.specs.List.{list_any, AllByRecursion}
use Rattle.std.proofs.lemmas.Bool.{or_parts}
use Rattle.units.specs.Apart.{AreApart, AllApart, Pairwise}
use Rattle.units.specs.Unit.{has_unit}
use Rattle.units.specs.declared.block.Block.{Block}
use Rattle.units.specs.declared.block.RawBlock.{RawBlock}
use Rattle.units.specs.declared.block.Unit.{Unit as Serial}
use Rattle.status.specs.Content.{raws}
use Rattle.protocol.specs.Pieces.{Piece, piece, pieces, pieces_of, repeats, same_unit, up_from}
use Rattle.units.proofs.Lists.Membership.{In, In_cases, In_left, In_right, In_map}
use Rattle.units.proofs.Lists.SomePass.{list_any_none, list_any_not}
use Rattle.protocol.proofs.UnitsOfBlocks.{unit_of_same, same_unit_refl, In_up, block_of_piece, piece_of_block}

-- ---- two lists of pieces

repeats_right : (ps qs : List Piece) → repeats (ps ++ qs) ≡ false → repeats qs ≡ false
repeats_right [] qs h = h
repeats_right (p ∷ ps) qs h = repeats_right ps qs (or_parts (list_any (λ (r : Piece). same_unit p.unit r.unit) (ps ++ qs)) (repeats (ps ++ qs)) h).1

repeats_across : (ps qs : List Piece) (p q : Piece) → repeats (ps ++ qs) ≡ false → In p ps → In q qs → p.unit ≡ q.unit → ⊥
repeats_across [] qs p q h i j e = i
repeats_across (r ∷ ps) qs p q h (inl x) j e =
    let a = or_parts (list_any (λ (t : Piece). same_unit r.unit t.unit) (ps ++ qs)) (repeats (ps ++ qs)) h in
    let f = list_any_none (λ (t : Piece). same_unit r.unit t.unit) (ps ++ qs) q a.0 (In_right q ps qs j) in
    let same : r.unit ≡ q.unit = ap (λ (t : Piece). t.unit) x ∙ e in
    let g : same_unit r.unit q.unit ≡ true = subst (λ u. same_unit r.unit u ≡ true) same (same_unit_refl r.unit) in
    true≢false (sym g ∙ f)
repeats_across (r ∷ ps) qs p q h (inr i) j e = repeats_across ps qs p q (or_parts (list_any (λ (t : Piece). same_unit r.unit t.unit) (ps ++ qs)) (repeats (ps ++ qs)) h).1 i j e

none_across : (ps qs : List Piece) → repeats ps ≡ false → repeats qs ≡ false → ((p q : Piece) → In p ps → In q qs → p.unit ≡ q.unit → ⊥) → repeats (ps ++ qs) ≡ false
none_across [] qs h k no' = k
none_across (p ∷ ps) qs h k no' =
    let a = or_parts (list_any (λ (t : Piece). same_unit p.unit t.unit) ps) (repeats ps) h in
    let first : list_any (λ (t : Piece). same_unit p.unit t.unit) (ps ++ qs) ≡ false =
    list_any_not (λ (t : Piece). same_unit p.unit t.unit) (ps ++ qs) (λ q i e.
    elim (In_cases q ps qs i) [
      | inl j ↦ true≢false (sym e ∙ list_any_none (λ (t : Piece). same_unit p.unit t.unit) ps q a.0 j)
      | inr j ↦ no' p q (inl refl) j (unit_of_same p.unit q.unit e)
    ]) in
    let rest = none_across ps qs a.1 k (λ q r i j e. no' q r (inr i) j e) in
    rw (first, rest) refl

-- ---- one block

numbers_once : (b : RawBlock) (first count : ℕ) → repeats (map (piece b) (up_from first count)) ≡ false
numbers_once b first zero = refl
numbers_once b first (suc count) =
    let others : list_any (λ (t : Piece). same_unit (piece b first).unit t.unit) (map (piece b) (up_from (suc first) count)) ≡ false =
    list_any_not (λ (t : Piece). same_unit (piece b first).unit t.unit) (map (piece b) (up_from (suc first) count)) (λ q i e.
    let m = In_map (piece b) q (up_from (suc first) count) i in
    let low = (In_up (suc first) count m.0 m.1).0 in
    let same : first ≡ m.0 = ap (λ (s : Serial). s.number) (unit_of_same (piece b first).unit q.unit e) ∙ sym (ap (λ (t : Piece). t.unit.number) m.2) in
    absurd (omega (arith, low, same))) in
    rw (others, numbers_once b (suc first) count) refl

-- ---- all blocks

apart_one : (b : Block) (bs : List Block) → AllByRecursion (λ (o : Block). AreApart b.raw o.raw) bs → (p q : Piece) → In p (pieces_of b.raw) → In q (pieces (raws bs)) → p.unit ≡ q.unit → ⊥
apart_one b [] apart p q i j e = j
apart_one b (o ∷ os) apart p q i j e =
    elim (In_cases q (pieces_of o.raw) (pieces (raws os)) j) [
      | inl k ↦ apart.0 q.unit (subst (λ u. has_unit b.raw u ≡ true) e (block_of_piece b.raw p i).0) (block_of_piece o.raw q k).0
      | inr k ↦ apart_one b os apart.1 p q i k e
    ]

one_apart : (b : Block) (bs : List Block) → ((p q : Piece) → In p (pieces_of b.raw) → In q (pieces (raws bs)) → p.unit ≡ q.unit → ⊥) → AllByRecursion (λ (o : Block). AreApart b.raw o.raw) bs
one_apart b [] no' = tt
one_apart b (o ∷ os) no' = (
  λ s x y. no' (record { unit = s; kind = b.raw.kind }) (record { unit = s; kind = o.raw.kind }) (piece_of_block b.raw s x)
      (In_left (record { unit = s; kind = o.raw.kind }) (pieces_of o.raw) (pieces (raws os)) (piece_of_block o.raw s y)) refl,
  one_apart b os (λ p q i j e. no' p q i (In_right q (pieces_of o.raw) (pieces (raws os)) j) e),
)

pub repeats_apart : (blocks : List Block) → AllApart blocks → repeats (pieces (raws blocks)) ≡ false
repeats_apart [] h = refl
repeats_apart (b ∷ bs) h = none_across (pieces_of b.raw) (pieces (raws bs)) (numbers_once b.raw b.raw.first (suc b.raw.last - b.raw.first)) (repeats_apart bs h.1) (apart_one b bs h.0)

pub apart_repeats : (blocks : List Block) → repeats (pieces (raws blocks)) ≡ false → AllApart blocks
apart_repeats [] h = tt
apart_repeats (b ∷ bs) h = (
  one_apart b bs (λ p q i j e. repeats_across (pieces_of b.raw) (pieces (raws bs)) p q h i j e),
  apart_repeats bs (repeats_right (pieces_of b.raw) (pieces (raws bs)) h),
)

-- blocks as they are written
raw_apart : (b : RawBlock) (bs : List RawBlock) → ((p q : Piece) → In p (pieces_of b) → In q (pieces bs) → p.unit ≡ q.unit → ⊥) → AllByRecursion (AreApart b) bs
raw_apart b [] no' = tt
raw_apart b (c ∷ cs) no' = (
  λ s x y. no' (record { unit = s; kind = b.kind }) (record { unit = s; kind = c.kind }) (piece_of_block b s x)
      (In_left (record { unit = s; kind = c.kind }) (pieces_of c) (pieces cs) (piece_of_block c s y)) refl,
  raw_apart b cs (λ p q i j e. no' p q i (In_right q (pieces_of c) (pieces cs) j) e),
)

pub raws_apart : (blocks : List RawBlock) → repeats (pieces blocks) ≡ false → Pairwise AreApart blocks
raws_apart [] h = tt
raws_apart (b ∷ bs) h = (
  raw_apart b bs (λ p q i j e. repeats_across (pieces_of b) (pieces bs) p q h i j e),
  raws_apart bs (repeats_right (pieces_of b) (pieces bs) h),
)
