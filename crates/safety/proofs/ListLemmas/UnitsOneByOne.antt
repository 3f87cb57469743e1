-- Blocks that have each unit equally often have equally many units. The pieces of blocks are their units one by one:
-- there are as many as the blocks have units (`length_pieces`), and each unit is there as often as blocks have it
-- (`tally_blocks`). Two lists of pieces that have each unit equally often are equally long (`length_by_tally`).
use Rattle.std.proofs.Common.{◌≡◌, ℕ, zero, suc, ◌-◌, ◌≤◌, List, [], ◌∷◌, ◌++◌, Bool, true, false, cond, inl, inr, refl, sym, ap, subst, ◌∙◌, arith, map, length, length-append}
use Rattle.std.specs.List.{count_by, sum_by}
use Rattle.std.proofs.lemmas.Bool.{cases_Bool, cond-true, cond-false, true≢false}
use Rattle.std.proofs.lemmas.List.Sums.{sum_by-cons}
use Rattle.units.specs.Unit.{has_unit, have_unit}
use Rattle.units.specs.declared.block.RawBlock.{RawBlock}
use Rattle.units.specs.declared.block.Unit.{Unit as Serial}
use Rattle.protocol.specs.Pieces.{Piece, piece, pieces, pieces_of, repeats, same_unit, up_from}
use Rattle.protocol.proofs.CanonicalBlocks.{repeats_tally}
use Rattle.protocol.proofs.CountsInLists.{count_yes, count_no, number_none, number_append, number_one, number_some}
use Rattle.protocol.proofs.UnitsOfBlocks.{unit_of_same, same_unit_refl, In_up, block_of_piece, piece_of_block}
use Rattle.units.proofs.Lists.Membership.{In_map}
use Rattle.units.proofs.Lists.SomePass.{list_any_not, list_any_some}
use Rattle.safety.specs.NumberOfUnits.{units_of}
use Rattle.safety.proofs.ListLemmas.EquallyLong.{parts}

-- how often a unit is there
abbrev is_at : Serial → Piece → Bool
is_at s p = same_unit p.unit s

abbrev pub tally : Serial → List Piece → ℕ
tally s ps = count_by (is_at s) ps

-- ---- lists of pieces in which each unit is equally often

here : (p : Piece) (ps : List Piece) → 1 ≤ tally p.unit (p ∷ ps)
here p ps = number_one (is_at p.unit) (p ∷ ps) p (inl refl) (same_unit_refl p.unit)

-- one piece less, of the same unit in both
one_less : (s : Serial) (p q : Piece) (ps front back : List Piece) → p.unit ≡ q.unit → tally s (p ∷ ps) ≡ tally s (front ++ q ∷ back) → tally s ps ≡ tally s (front ++ back)
one_less s p q ps front back same e =
    let a = number_append (is_at s) front (q ∷ back) in
    let b = number_append (is_at s) front back in
    elim (cases_Bool (is_at s p)) [
      | inl y ↦ let u = count_yes (is_at s) p ps y in let v = count_yes (is_at s) q back (subst (λ z. same_unit z s ≡ true) same y) in omega arith
      | inr n ↦ let u = count_no (is_at s) p ps n in let v = count_no (is_at s) q back (subst (λ z. same_unit z s ≡ false) same n) in omega arith
    ]

length_by_tally : (ps qs : List Piece) → ((s : Serial) → tally s ps ≡ tally s qs) → length ps ≡ length qs
length_by_tally [] [] h = refl
length_by_tally [] (q ∷ qs) h = absurd (let a = here q qs in let e = h q.unit in omega arith)
length_by_tally (p ∷ ps) qs h =
    let a = here p ps in
    let e = h p.unit in
    let g = number_some (is_at p.unit) qs (omega arith) in
    let cut = parts g.0 qs g.1 in
    let same = unit_of_same g.0.unit p.unit g.2 in
    let rest = length_by_tally ps (cut.0 ++ cut.1) (λ s. one_less s p g.0 ps cut.0 cut.1 (sym same) (h s ∙ ap (tally s) cut.2)) in
    let x = ap length cut.2 in
    let y = length-append cut.0 (g.0 ∷ cut.1) in
    let z = length-append cut.0 cut.1 in
    omega arith

-- ---- the pieces of blocks

tally_from : (b : RawBlock) (s : Serial) (first n : ℕ) → tally s (map (piece b) (up_from first n)) ≤ 1
tally_from b s first zero = omega arith
tally_from b s first (suc n) =
    let r = tally_from b s (suc first) n in
    elim (cases_Bool (is_at s (piece b first))) [
      | inl y ↦
          let u = count_yes (is_at s) (piece b first) (map (piece b) (up_from (suc first) n)) y in
          let e = ap (λ (t : Serial). t.number) (unit_of_same (piece b first).unit s y) in
          let none =
          number_none (is_at s) (map (piece b) (up_from (suc first) n)) (list_any_not (is_at s) (map (piece b) (up_from (suc first) n)) (λ p i t.
          let m = In_map (piece b) p (up_from (suc first) n) i in
          let up = (In_up (suc first) n m.0 m.1).0 in
          let f = ap (λ (q : Piece). q.unit.number) m.2 in
          let g = ap (λ (t : Serial). t.number) (unit_of_same p.unit s t) in
          omega arith)) in
          omega arith
      | inr other ↦ let u = count_no (is_at s) (piece b first) (map (piece b) (up_from (suc first) n)) other in omega arith
    ]

tally_block : (b : RawBlock) (s : Serial) → tally s (pieces_of b) ≡ cond (has_unit b s) 1 0
tally_block b s =
    elim (cases_Bool (has_unit b s)) [
      | inl y ↦
          let one = number_one (is_at s) (pieces_of b) (record { unit = s; kind = b.kind }) (piece_of_block b s y) (same_unit_refl s) in
          let most = tally_from b s b.first (suc b.last - b.first) in
          let e = cond-true {A = ℕ} (has_unit b s) 1 0 y in
          omega arith
      | inr n ↦
          number_none (is_at s) (pieces_of b) (list_any_not (is_at s) (pieces_of b) (λ p i t.
          true≢false (sym (subst (λ z. has_unit b z ≡ true) (unit_of_same p.unit s t) (block_of_piece b p i).0) ∙ n)))
          ∙ sym (cond-false {A = ℕ} (has_unit b s) 1 0 n)
    ]

tally_blocks : (bs : List RawBlock) (s : Serial) → tally s (pieces bs) ≡ count_by (λ b. has_unit b s) bs
tally_blocks [] s = refl
tally_blocks (b ∷ bs) s =
    let r = tally_blocks bs s in
    let a = number_append (is_at s) (pieces_of b) (pieces bs) in
    let c = tally_block b s in
    let d = sum_by-cons (λ (z : RawBlock). cond {A = ℕ} (has_unit z s) 1 0) b bs in
    omega arith

length_map : {X Y : Type 0} (f : X → Y) (xs : List X) → length (map f xs) ≡ length xs
length_map f [] = refl
length_map f (x ∷ xs) = ap suc (length_map f xs)

length_up : (first n : ℕ) → length (up_from first n) ≡ n
length_up first zero = refl
length_up first (suc n) = ap suc (length_up (suc first) n)

length_pieces : (bs : List RawBlock) → length (pieces bs) ≡ sum_by units_of bs
length_pieces [] = refl
length_pieces (b ∷ bs) =
    let r = length_pieces bs in
    let a = length-append (pieces_of b) (pieces bs) in
    let c = length_map (piece b) (up_from b.first (suc b.last - b.first)) in
    let d = length_up b.first (suc b.last - b.first) in
    let e = sum_by-cons units_of b bs in
    omega arith

pub same_units : (bs cs : List RawBlock) → ((s : Serial) → count_by (λ b. has_unit b s) bs ≡ count_by (λ b. has_unit b s) cs) → sum_by units_of bs ≡ sum_by units_of cs
same_units bs cs h =
    sym (length_pieces bs) ∙ length_by_tally (pieces bs) (pieces cs) (λ s. tally_blocks bs s ∙ h s ∙ sym (tally_blocks cs s)) ∙ length_pieces cs

-- ---- blocks without repeats

-- they have a unit once or not at all
pub units_once : (bs : List RawBlock) → repeats (pieces bs) ≡ false → (s : Serial) → count_by (λ b. has_unit b s) bs ≡ cond (have_unit bs s) 1 0
units_once bs none s =
    let most = repeats_tally (pieces bs) none s in
    let e = tally_blocks bs s in
    elim (cases_Bool (have_unit bs s)) [
      | inl y ↦
          let b = list_any_some (λ (z : RawBlock). has_unit z s) bs y in
          let one = number_one (λ (z : RawBlock). has_unit z s) bs b.0 b.1 b.2 in
          let c = cond-true {A = ℕ} (have_unit bs s) 1 0 y in
          omega arith
      | inr n ↦ number_none (λ (z : RawBlock). has_unit z s) bs n ∙ sym (cond-false {A = ℕ} (have_unit bs s) 1 0 n)
    ]
