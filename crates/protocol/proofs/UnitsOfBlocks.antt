-- Blocks and the units in them, one by one.
use Rattle.std.proofs.Common.{◌≡◌, ℕ, zero, suc, ◌+◌, ◌-◌, ◌<◌, ◌≤◌, List, [], ◌∷◌, Bool, true, false, inl, inr, refl, sym, ap, subst, arith}
use Rattle.std.specs.Prelude.{◌||◌, ◌==◌, nat_le}
use Rattle.std.proofs.lemmas.Bool.{cases_Bool, and_parts, and_from, eq-eqb, eqb-true, eqb-false, le-leb, leb-true}
use Rattle.units.proofs.Same.{code_of_same, period_of_same, same_code-refl, same_period-refl}
use Rattle.units.specs.Code.{same_code}
use Rattle.units.specs.Unit.{has_unit, same_period, period_index, have_unit}
use Rattle.units.specs.declared.block.RawBlock.{RawBlock}
use Rattle.units.specs.declared.block.Unit.{Unit as Serial}
use Rattle.protocol.specs.Pieces.{Piece, piece, pieces, pieces_of, same_unit, up_from}
use Rattle.units.proofs.Lists.Membership.{In, In_cases, In_left, In_right, In_map, map_In}

pub unit_of_same : (a b : Serial) → same_unit a b ≡ true → a ≡ b
unit_of_same a b e =
    let x = and_parts (same_code a.origin b.origin) _ e in
    let y = and_parts (same_period a.period b.period) (a.number == b.number) x.1 in
    let o = code_of_same a.origin b.origin x.0 in
    let p = period_of_same a.period b.period y.0 in
    let n = eqb-true a.number b.number y.1 in
    λ i. record { origin = o i; period = p i; number = n i }

pub same_unit_refl : (s : Serial) → same_unit s s ≡ true
same_unit_refl s = and_from (same_code s.origin s.origin) _ (same_code-refl s.origin) (and_from (same_period s.period s.period) (s.number == s.number) (same_period-refl s.period) (eq-eqb s.number s.number refl))

-- ---- the numbers of a block

pub In_up : (first count n : ℕ) → In n (up_from first count) → (first ≤ n) × (n < first + count)
In_up first zero n h = absurd h
In_up first (suc count) n (inl e) = (omega arith, omega arith)
In_up first (suc count) n (inr h) = let r = In_up (suc first) count n h in (let a = r.0 in omega arith, let b = r.1 in omega arith)

up_In : (first count n : ℕ) → first ≤ n → n < first + count → In n (up_from first count)
up_In first zero n a b = absurd (omega arith)
up_In first (suc count) n a b =
    elim (cases_Bool (first == n)) [
      | inl y ↦ inl (eqb-true first n y)
      | inr m ↦ inr (up_In (suc first) count n (let d = eqb-false first n m in omega arith) (omega arith))
    ]

-- ---- the units of blocks

-- a piece of a block is one of its units
pub block_of_piece : (b : RawBlock) (p : Piece) → In p (pieces_of b) → (has_unit b p.unit ≡ true) × (p.kind ≡ b.kind)
block_of_piece b p h =
    let m = In_map (piece b) p (up_from b.first (suc b.last - b.first)) h in
    let r = In_up b.first (suc b.last - b.first) m.0 m.1 in
    let low = r.0 in
    let high = r.1 in
    let last : m.0 ≤ b.last = omega arith in
    let own : has_unit b (piece b m.0).unit ≡ true =
    and_from (same_code b.origin b.origin) _ (same_code-refl b.origin) (and_from (same_period b.period b.period) _ (eq-eqb (period_index b.period) (period_index b.period) refl)
    (and_from (nat_le b.first m.0) (nat_le m.0 b.last) (le-leb b.first m.0 low) (le-leb m.0 b.last last))) in
    (subst (λ (q : Piece). has_unit b q.unit ≡ true) m.2 own, sym (ap (λ (q : Piece). q.kind) m.2))

-- a unit of a block is one of its pieces
pub piece_of_block : (b : RawBlock) (s : Serial) → has_unit b s ≡ true → In (record { unit = s; kind = b.kind }) (pieces_of b)
piece_of_block b s h =
    let x = and_parts (same_code b.origin s.origin) _ h in
    let y = and_parts (same_period b.period s.period) _ x.1 in
    let z = and_parts (nat_le b.first s.number) (nat_le s.number b.last) y.1 in
    let o = code_of_same b.origin s.origin x.0 in
    let p = period_of_same b.period s.period y.0 in
    let low = leb-true b.first s.number z.0 in
    let high = leb-true s.number b.last z.1 in
    let i = map_In (piece b) s.number (up_from b.first (suc b.last - b.first)) (up_In b.first (suc b.last - b.first) s.number low (omega arith)) in
    let same : piece b s.number ≡ record { unit = s; kind = b.kind } = λ j. record { unit = record { origin = o j; period = p j; number = s.number }; kind = b.kind } in
    subst (λ q. In q (pieces_of b)) same i

-- a unit that blocks cover is the unit of one of their pieces, and of no other
pub piece_of : (blocks : List RawBlock) (s : Serial) → have_unit blocks s ≡ true → (p : Piece) × In p (pieces blocks) × (p.unit ≡ s)
piece_of [] s h = absurd (cc)
piece_of (b ∷ bs) s h =
    elim (cases_Bool (has_unit b s)) [
      | inl y ↦ (record { unit = s; kind = b.kind }, In_left (record { unit = s; kind = b.kind }) (pieces_of b) (pieces bs) (piece_of_block b s y), refl)
      | inr n ↦ let r = piece_of bs s (subst (λ t. (t || have_unit bs s) ≡ true) n h) in (r.0, In_right r.0 (pieces_of b) (pieces bs) r.1, r.2)
    ]

pub covered : (blocks : List RawBlock) (p : Piece) → In p (pieces blocks) → have_unit blocks p.unit ≡ true
covered [] p h = absurd h
covered (b ∷ bs) p h =
    elim (In_cases p (pieces_of b) (pieces bs) h) [
      | inl i ↦ subst (λ t. (t || have_unit bs p.unit) ≡ true) (sym (block_of_piece b p i).0) refl
      | inr i ↦ or_right (has_unit b p.unit) (have_unit bs p.unit) (covered bs p i)
    ]
  where
    or_right : (x y : Bool) → y ≡ true → (x || y) ≡ true
    or_right true y e = refl
    or_right false y e = e
