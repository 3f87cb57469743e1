-- Putting blocks in order and joining neighbours keeps how often each unit stands in them. `tally` counts a unit
-- in a list of pieces. Each step of the canonical form, which puts a block in its place and joins two neighbours,
-- is shown to keep every tally. A list of pieces has no repeats exactly if every tally is at most one, so the
-- canonical form has none if the blocks had none.
use Rattle.std.proofs.Common.{◌≡◌, ℕ, zero, suc, ◌+◌, ◌-◌, ◌≤◌, List, [], ◌∷◌, ◌++◌, Bool, true, false, true≢false, cond, Option, Some, None, ◌⊎◌, inl, inr, refl, sym, ap, subst, ◌∙◌, arith, map, append_assoc}
use Rattle.std.specs.Prelude.{◌||◌, ◌==◌, nat_lt, find}
use Rattle.std.specs.List.{list_any, count_by}
use Rattle.std.proofs.lemmas.Bool.{cases_Bool, cond-true, cond-false, and_parts, or_parts, eqb-true, ltb-false}
use Rattle.units.proofs.Same.{code_of_same, kind_of_same, period_of_same}
use Rattle.units.specs.Code.{same_code}
use Rattle.units.specs.Unit.{same_period, same_kind}
use Rattle.units.specs.declared.block.RawBlock.{RawBlock}
use Rattle.units.specs.declared.block.Unit.{Unit as Serial}
use Rattle.protocol.specs.Checks.{is_out_of_range}
use Rattle.units.specs.Canonical.{canonical, put_block, join_block, in_order, joined, comes_before, goes_on}
use Rattle.units.specs.Unit.{have_unit}
use Rattle.protocol.specs.Pieces.{Piece, piece, pieces, pieces_of, repeats, same_unit, up_from}
use Rattle.units.proofs.Lists.SomePass.{list_any_some, list_any_none, list_any_not}
use Rattle.protocol.proofs.CountsInLists.{count_yes, count_no, number_none, number_append, number_one, number_some}
use Rattle.units.proofs.Lists.Membership.{In, In_cases, In_left, In_right, In_find}
use Rattle.protocol.proofs.UnitsOfBlocks.{unit_of_same, same_unit_refl, piece_of}

abbrev is_at : Serial → Piece → Bool
is_at s p = same_unit p.unit s

abbrev tally : Serial → List Piece → ℕ
tally s ps = count_by (is_at s) ps

pub repeats_tally : (ps : List Piece) → repeats ps ≡ false → (s : Serial) → tally s ps ≤ 1
repeats_tally [] h s = omega arith
repeats_tally (p ∷ ps) h s =
    let a = or_parts (list_any (λ q. same_unit p.unit q.unit) ps) (repeats ps) h in
    let r = repeats_tally ps a.1 s in
    elim (cases_Bool (is_at s p)) [
      | inl y ↦
          let u = count_yes (is_at s) p ps y in
          let z = number_none (is_at s) ps (list_any_not (is_at s) ps (λ q i e.
          let same : q.unit ≡ p.unit = unit_of_same q.unit s e ∙ sym (unit_of_same p.unit s y) in
          let f = list_any_none (λ (q : Piece). same_unit p.unit q.unit) ps q a.0 i in
          let g : same_unit p.unit q.unit ≡ true = subst (λ w. same_unit p.unit w ≡ true) (sym same) (same_unit_refl p.unit) in
          let clash : true ≡ false = sym g ∙ f in cc (clash))) in
          omega arith
      | inr n ↦ let u = count_no (is_at s) p ps n in omega arith
    ]

tally_repeats : (ps : List Piece) → ((s : Serial) → tally s ps ≤ 1) → repeats ps ≡ false
tally_repeats [] h = refl
tally_repeats (p ∷ ps) h =
    elim (cases_Bool (list_any (λ q. same_unit p.unit q.unit) ps)) [
      | inl y ↦ absurd (
          let g = list_any_some (λ (q : Piece). same_unit p.unit q.unit) ps y in
          let e = unit_of_same p.unit g.0.unit g.2 in
          let one = number_one (is_at p.unit) ps g.0 g.1 (subst (λ w. same_unit w p.unit ≡ true) e (same_unit_refl p.unit)) in
          let u = count_yes (is_at p.unit) p ps (same_unit_refl p.unit) in
          let k = h p.unit in
          omega arith)
      | inr n ↦
          let rest = tally_repeats ps (λ s. let k = h s in elim (cases_Bool (is_at s p)) [
            | inl y ↦ let u = count_yes (is_at s) p ps y in omega arith
            | inr m ↦ let u = count_no (is_at s) p ps m in omega arith
          ]) in
          subst (λ b. (b || repeats ps) ≡ false) (sym n) rest
    ]

-- no block ends before it begins
abbrev AllGood : List RawBlock → Type 0
AllGood [] = Unit {0}
AllGood (b ∷ bs) = (b.first ≤ b.last) × AllGood bs

put_good : (b : RawBlock) (bs : List RawBlock) → b.first ≤ b.last → AllGood bs → AllGood (put_block b bs)
put_good b [] g h = (g, tt)
put_good b (c ∷ cs) g h = go (comes_before b c) (put_good b cs g h.1)
  where
    go : (t : Bool) → AllGood (put_block b cs) → AllGood (cond t (b ∷ c ∷ cs) (c ∷ put_block b cs))
    go true r = (g, h)
    go false r = (h.0, r)

order_good : (bs : List RawBlock) → AllGood bs → AllGood (in_order bs)
order_good [] h = tt
order_good (b ∷ bs) h = put_good b (in_order bs) h.0 (order_good bs h.1)

tally_put : (s : Serial) (b : RawBlock) (bs : List RawBlock) → tally s (pieces (put_block b bs)) ≡ tally s (pieces_of b) + tally s (pieces bs)
tally_put s b [] = number_append (is_at s) (pieces_of b) []
tally_put s b (c ∷ cs) = go (comes_before b c) (tally_put s b cs)
  where
    go : (t : Bool) → tally s (pieces (put_block b cs)) ≡ tally s (pieces_of b) + tally s (pieces cs)
        → tally s (pieces (cond t (b ∷ c ∷ cs) (c ∷ put_block b cs))) ≡ tally s (pieces_of b) + tally s (pieces (c ∷ cs))
    go true r = number_append (is_at s) (pieces_of b) (pieces (c ∷ cs))
    go false r = let u = number_append (is_at s) (pieces_of c) (pieces (put_block b cs)) in let v = number_append (is_at s) (pieces_of c) (pieces cs) in omega arith

tally_order : (s : Serial) (bs : List RawBlock) → tally s (pieces (in_order bs)) ≡ tally s (pieces bs)
tally_order s [] = refl
tally_order s (b ∷ bs) = let r = tally_order s bs in let u = tally_put s b (in_order bs) in let v = number_append (is_at s) (pieces_of b) (pieces bs) in omega arith

-- two neighbours joined
up_append : (first n m : ℕ) → up_from first (n + m) ≡ up_from first n ++ up_from (first + n) m
up_append first zero m = let a : 0 + m ≡ m = omega arith in let b : first + 0 ≡ first = omega arith in ap (up_from first) a ∙ ap (λ x. up_from x m) (sym b)
up_append first (suc n) m =
    let a : suc n + m ≡ suc (n + m) = omega arith in
    let b : suc first + n ≡ first + suc n = omega arith in
    ap (up_from first) a ∙ ap (λ xs. first ∷ xs) (up_append (suc first) n m) ∙ ap (λ x. first ∷ (up_from (suc first) n ++ up_from x m)) b

map_both : {A B : Type 0} (g : A → B) (xs ys : List A) → map g (xs ++ ys) ≡ map g xs ++ map g ys
map_both g [] ys = refl
map_both g (x ∷ xs) ys = ap (λ zs. g x ∷ zs) (map_both g xs ys)

join_pieces : (b c : RawBlock) → b.first ≤ b.last → c.first ≤ c.last → goes_on b c ≡ true → pieces_of (record b { last = c.last }) ≡ pieces_of b ++ pieces_of c
join_pieces b c gb gc h =
    let x = and_parts (same_code b.origin c.origin) _ h in
    let y = and_parts (same_period b.period c.period) _ x.1 in
    let z = and_parts (same_kind b.kind c.kind) (suc b.last == c.first) y.1 in
    let o = code_of_same b.origin c.origin x.0 in
    let p = period_of_same b.period c.period y.0 in
    let k = kind_of_same b.kind c.kind z.0 in
    let l = eqb-true (suc b.last) c.first z.1 in
    let n : suc c.last - b.first ≡ (suc b.last - b.first) + (suc c.last - c.first) = omega arith in
    let m : b.first + (suc b.last - b.first) ≡ c.first = omega arith in
    let e = ap (map (piece b)) (ap (up_from b.first) n ∙ up_append b.first (suc b.last - b.first) (suc c.last - c.first)) in
    let f = map_both (piece b) (up_from b.first (suc b.last - b.first)) (up_from (b.first + (suc b.last - b.first)) (suc c.last - c.first)) in
    let g = ap (λ w. map (piece b) (up_from b.first (suc b.last - b.first)) ++ map (piece b) (up_from w (suc c.last - c.first))) m in
    let same : (i : ℕ) → piece b i ≡ piece c i = λ i j. record { unit = record { origin = o j; period = p j; number = i }; kind = k j } in
    e ∙ f ∙ g ∙ ap (λ w. pieces_of b ++ w) (map_same same (up_from c.first (suc c.last - c.first)))
  where
    map_same : ((i : ℕ) → piece b i ≡ piece c i) → (xs : List ℕ) → map (piece b) xs ≡ map (piece c) xs
    map_same same [] = refl
    map_same same (x ∷ xs) = let here = same x in let rest = map_same same xs in cc (here, rest)

join_both : (s : Serial) (b : RawBlock) (bs : List RawBlock) → b.first ≤ b.last → AllGood bs
    → (tally s (pieces (join_block b bs)) ≡ tally s (pieces_of b) + tally s (pieces bs)) × AllGood (join_block b bs)
join_both s b [] g h = (number_append (is_at s) (pieces_of b) [], (g, tt))
join_both s b (c ∷ cs) g h = go (goes_on b c) refl
  where
    go : (t : Bool) → goes_on b c ≡ t
        → (tally s (pieces (cond t (record b { last = c.last } ∷ cs) (b ∷ c ∷ cs))) ≡ tally s (pieces_of b) + tally s (pieces (c ∷ cs))) × AllGood (cond t (record b { last = c.last } ∷ cs) (b ∷ c ∷ cs))
    go true e =
        let j = join_pieces b c g h.0 e in
        let l = eqb-true (suc b.last) c.first (and_parts (same_kind b.kind c.kind) (suc b.last == c.first) (and_parts (same_period b.period c.period) _ (and_parts (same_code b.origin c.origin) _ e).1).1).1 in (
          ap (λ w. tally s (w ++ pieces cs)) j ∙ ap (tally s) (append_assoc (pieces_of b) (pieces_of c) (pieces cs)) ∙ number_append (is_at s) (pieces_of b) (pieces (c ∷ cs)),
          (omega arith, h.1),
        )
    go false e = (number_append (is_at s) (pieces_of b) (pieces (c ∷ cs)), (g, h))

joined_both : (s : Serial) (bs : List RawBlock) → AllGood bs → (tally s (pieces (joined bs)) ≡ tally s (pieces bs)) × AllGood (joined bs)
joined_both s [] h = (refl, tt)
joined_both s (b ∷ bs) h =
    let r = joined_both s bs h.1 in
    let j = join_both s b (joined bs) h.0 r.1 in
    let a = number_append (is_at s) (pieces_of b) (pieces bs) in
    let x = j.0 in
    let y = r.0 in
    (omega arith, j.1)

good_ranges : (bs : List RawBlock) → list_any is_out_of_range bs ≡ false → AllGood bs
good_ranges [] h = tt
good_ranges (b ∷ bs) h =
    let a = or_parts (is_out_of_range b) (list_any is_out_of_range bs) h in
    let c = or_parts (nat_lt b.last b.first) _ a.0 in
    (ltb-false b.last b.first c.0, good_ranges bs a.1)

tally_canonical : (bs : List RawBlock) → list_any is_out_of_range bs ≡ false → (s : Serial) → tally s (pieces (canonical bs)) ≡ tally s (pieces bs)
tally_canonical bs good s = (joined_both s (in_order bs) (order_good bs (good_ranges bs good))).0 ∙ tally_order s bs

pub canonical_no_repeats : (bs : List RawBlock) → list_any is_out_of_range bs ≡ false → repeats (pieces bs) ≡ false → repeats (pieces (canonical bs)) ≡ false
canonical_no_repeats bs good h = tally_repeats (pieces (canonical bs)) (λ s. let a = repeats_tally (pieces bs) h s in let b = tally_canonical bs good s in omega arith)

-- ---- each unit of the canonical form is one of the blocks, with its kind

put_from : (b : RawBlock) (bs : List RawBlock) (p : Piece) → In p (pieces (put_block b bs)) → In p (pieces (b ∷ bs))
put_from b [] p h = h
put_from b (c ∷ cs) p h = go (comes_before b c) (λ i. put_from b cs p i) h
  where
    go : (t : Bool) → (In p (pieces (put_block b cs)) → In p (pieces (b ∷ cs))) → In p (pieces (cond t (b ∷ c ∷ cs) (c ∷ put_block b cs))) → In p (pieces (b ∷ c ∷ cs))
    go true older i = i
    go false older i =
        elim (In_cases p (pieces_of c) (pieces (put_block b cs)) i) [
          | inl j ↦ In_right p (pieces_of b) (pieces (c ∷ cs)) (In_left p (pieces_of c) (pieces cs) j)
          | inr j ↦
              elim (In_cases p (pieces_of b) (pieces cs) (older j)) [
                | inl k ↦ In_left p (pieces_of b) (pieces (c ∷ cs)) k
                | inr k ↦ In_right p (pieces_of b) (pieces (c ∷ cs)) (In_right p (pieces_of c) (pieces cs) k)
              ]
        ]

order_from : (bs : List RawBlock) (p : Piece) → In p (pieces (in_order bs)) → In p (pieces bs)
order_from [] p h = h
order_from (b ∷ bs) p h =
    elim (In_cases p (pieces_of b) (pieces (in_order bs)) (put_from b (in_order bs) p h)) [
      | inl i ↦ In_left p (pieces_of b) (pieces bs) i
      | inr i ↦ In_right p (pieces_of b) (pieces bs) (order_from bs p i)
    ]

join_from : (b : RawBlock) (bs : List RawBlock) (p : Piece) → b.first ≤ b.last → AllGood bs → In p (pieces (join_block b bs)) → In p (pieces (b ∷ bs))
join_from b [] p g good h = h
join_from b (c ∷ cs) p g good h = go (goes_on b c) refl h
  where
    go : (t : Bool) → goes_on b c ≡ t → In p (pieces (cond t (record b { last = c.last } ∷ cs) (b ∷ c ∷ cs))) → In p (pieces (b ∷ c ∷ cs))
    go true e i = subst (In p) (ap (λ w. w ++ pieces cs) (join_pieces b c g good.0 e) ∙ append_assoc (pieces_of b) (pieces_of c) (pieces cs)) i
    go false e i = i

joined_from : (bs : List RawBlock) (p : Piece) → AllGood bs → In p (pieces (joined bs)) → In p (pieces bs)
joined_from [] p good h = h
joined_from (b ∷ bs) p good h =
    elim (In_cases p (pieces_of b) (pieces (joined bs)) (join_from b (joined bs) p good.0 (joined_both p.unit bs good.1).1 h)) [
      | inl i ↦ In_left p (pieces_of b) (pieces bs) i
      | inr i ↦ In_right p (pieces_of b) (pieces bs) (joined_from bs p good.1 i)
    ]

pub canonical_from : (bs : List RawBlock) → list_any is_out_of_range bs ≡ false → (p : Piece) → In p (pieces (canonical bs)) → In p (pieces bs)
canonical_from bs good p h = order_from bs p (joined_from (in_order bs) p (order_good bs (good_ranges bs good)) h)

-- a unit of the canonical form is one of the blocks
pub canonical_piece : (bs : List RawBlock) → list_any is_out_of_range bs ≡ false → (s : Serial) → have_unit (canonical bs) s ≡ true → (p : Piece) × In p (pieces bs) × (p.unit ≡ s)
canonical_piece bs good s h = let p = piece_of (canonical bs) s h in (p.0, canonical_from bs good p.0 p.1, p.2)

-- ---- each unit is found in the canonical form as it is in the blocks

-- where no unit is there twice, no later piece has the unit of the first
alone : (p : Piece) (ps : List Piece) (q : Piece) → repeats (p ∷ ps) ≡ false → In q ps → p.unit ≡ q.unit → ⊥
alone p ps q h i e =
    let f = list_any_none (λ (t : Piece). same_unit p.unit t.unit) ps q (or_parts (list_any (λ (t : Piece). same_unit p.unit t.unit) ps) (repeats ps) h).0 i in
    true≢false (sym (subst (λ u. same_unit p.unit u ≡ true) e (same_unit_refl p.unit)) ∙ f)

-- pieces of one unit are then one
one_piece : (ps : List Piece) (p q : Piece) → repeats ps ≡ false → In p ps → In q ps → p.unit ≡ q.unit → p ≡ q
one_piece [] p q h i j e = absurd i
one_piece (r ∷ rs) p q h (inl x) (inl y) e = sym x ∙ y
one_piece (r ∷ rs) p q h (inl x) (inr j) e = absurd (alone r rs q h j (ap (λ (t : Piece). t.unit) x ∙ e))
one_piece (r ∷ rs) p q h (inr i) (inl y) e = absurd (alone r rs p h i (ap (λ (t : Piece). t.unit) y ∙ sym e))
one_piece (r ∷ rs) p q h (inr i) (inr j) e = one_piece rs p q (or_parts (list_any (λ (t : Piece). same_unit r.unit t.unit) rs) (repeats rs) h).1 i j e

found_none : {X : Type 0} (p : X → Bool) (xs : List X) (x : X) → In x xs → p x ≡ true → find p xs ≡ None → ⊥
found_none p [] x i h e = i
found_none p (y ∷ ys) x i h e = elim (cases_Bool (p y)) [
  | inl t ↦ let hit = sym (cond-true (p y) (Some y) (find p ys) t) ∙ e in cc (hit)
  | inr f ↦ found_none p ys x (later i f) h (sym (cond-false (p y) (Some y) (find p ys) f) ∙ e)
]
  where
    later : (y ≡ x) ⊎ In x ys → p y ≡ false → In x ys
    later (inl same) f = absurd (true≢false (sym (ap p same ∙ h) ∙ f))
    later (inr j) f = j

-- what is found among some pieces is found among others without repeats, if these have the same tallies and all of those
found_alike : (ps qs : List Piece) → repeats qs ≡ false → ((s : Serial) → tally s ps ≡ tally s qs) → ((p : Piece) → In p ps → In p qs)
    → (s : Serial) → find (is_at s) ps ≡ find (is_at s) qs
found_alike ps qs once same from s = go (find (is_at s) ps) (find (is_at s) qs) refl refl
  where
    go : (a b : Option Piece) → find (is_at s) ps ≡ a → find (is_at s) qs ≡ b → a ≡ b
    go None None e f = refl
    go None (Some q) e f =
        let i = In_find (is_at s) qs q f in
        let one = number_one (is_at s) qs q i.0 i.1 in
        let tallies = same s in
        let p = number_some (is_at s) ps (omega arith) in
        absurd (found_none (is_at s) ps p.0 p.1 p.2 e)
    go (Some p) None e f = let i = In_find (is_at s) ps p e in absurd (found_none (is_at s) qs p (from p i.0) i.1 f)
    go (Some p) (Some q) e f =
        let i = In_find (is_at s) ps p e in
        let j = In_find (is_at s) qs q f in
        ap Some (one_piece qs p q once (from p i.0) j.0 (unit_of_same p.unit s i.1 ∙ sym (unit_of_same q.unit s j.1)))

pub canonical_found : (bs : List RawBlock) → list_any is_out_of_range bs ≡ false → repeats (pieces bs) ≡ false
    → (s : Serial) → find (λ (p : Piece). same_unit p.unit s) (pieces (canonical bs)) ≡ find (λ (p : Piece). same_unit p.unit s) (pieces bs)
canonical_found bs good once s = found_alike (pieces (canonical bs)) (pieces bs) once (tally_canonical bs good) (canonical_from bs good) s
