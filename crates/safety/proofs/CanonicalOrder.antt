-- The canonical form of blocks that share no unit is in order and joined.
-- Of two such blocks one is `Ahead`: its last unit comes before the first of the other. Insertion leaves each block ahead
-- of all later ones. Joining keeps that, as a joined block begins where its first one did and ends where its last one did.
-- No block goes on where an earlier one ends: two neighbours that did were joined, and between any others a block stands.
use Rattle.std.proofs.Common.{◌≡◌, ◌⊎◌, ℕ, suc, ◌<◌, ◌≤◌, List, [], ◌∷◌, Bool, true, false, cond, inl, inr, refl, sym, ap, subst, arith}
use Rattle.std.specs.Prelude.{◌==◌, nat_le, nat_lt}
use Rattle.std.specs.List.{list_any, AllByRecursion}
use Rattle.std.specs.Ordering.{is_lt}
use Rattle.std.proofs.lemmas.Bool.{cases_Bool, cases_lt, and_parts, and_from, or_parts, eqb-true, le-leb, ltb-false}
use Rattle.units.proofs.Same.{code_of_same, kind_of_same, period_of_same}
use Rattle.units.proofs.UnitLines.{less_true}
use Rattle.units.proofs.UnitOrder.{IsBelow, IsUpTo, below, less_from_below, rank, same_line, up_to_from_sorted}
use Rattle.units.specs.Apart.{AreApart, Pairwise}
use Rattle.units.specs.Canonical.{canonical, comes_before, goes_on, in_order, join_block, joined, put_block}
use Rattle.units.specs.Code.{same_code}
use Rattle.units.specs.Keys.{first_unit, unit_cmp, unit_numbered}
use Rattle.units.specs.Unit.{has_unit, same_kind, same_period}
use Rattle.units.specs.declared.block.RawBlock.{RawBlock}
use Rattle.units.specs.declared.block.Unit.{Unit as Serial}
use Rattle.protocol.specs.Checks.{is_out_of_range}
use Rattle.protocol.specs.Pieces.{pieces, repeats}
use Rattle.protocol.proofs.RepeatedUnits.{raws_apart}

-- ---- two blocks

-- the block has a unit at least: it doesn't end before it begins
abbrev HasUnits : RawBlock → Type 0
HasUnits b = b.first ≤ b.last

abbrev Ahead : RawBlock → RawBlock → Type 0
Ahead a b = IsBelow (unit_numbered a a.last) (first_unit b)

-- and the second doesn't go on where the first ends
abbrev Parted : RawBlock → RawBlock → Type 0
Parted a b = Ahead a b × (goes_on a b ≡ false)

-- a block of the same origin and period has the unit with that number
has_number : (a b : RawBlock) (n : ℕ) → rank (first_unit a) ≡ rank (first_unit b) → a.first ≤ n → n ≤ a.last → has_unit a (unit_numbered b n) ≡ true
has_number a b n e low high =
    let line = same_line (first_unit a) (first_unit b) e in
    and_from _ _ line.0 (and_from _ _ line.1 (and_from (nat_le a.first n) (nat_le n a.last) (le-leb a.first n low) (le-leb n a.last high)))

-- a block that shares no unit with another one, and doesn't begin after it, is ahead of it
ahead : (a b : RawBlock) → AreApart a b → HasUnits a → HasUnits b → IsUpTo (first_unit a) (first_unit b) → Ahead a b
ahead a b apart x y up = record { line = up.line; number = λ e. number e (cases_lt a.last b.first) }
  where
    number : rank (first_unit b) ≤ rank (first_unit a) → a.last < b.first ⊎ b.first ≤ a.last → a.last < b.first
    number e (inl h) = h
    number e (inr h) =
        let line = up.line in
        let low = up.number e in
        absurd (apart (first_unit b) (has_number a b b.first (omega arith) low h) (has_number b b b.first refl (omega arith) y))

up_from_below : (s t : Serial) → IsBelow s t → IsUpTo s t
up_from_below s t h = record { line = h.line; number = λ e. let n = h.number e in omega arith }

-- the comparison of their first units tells which of two blocks that share no unit is ahead
ahead_before : (b c : RawBlock) → AreApart b c → HasUnits b → HasUnits c → comes_before b c ≡ true → Ahead b c
ahead_before b c apart x y h = ahead b c apart x y (up_from_below (first_unit b) (first_unit c) (below (first_unit b) (first_unit c) (less_true (unit_cmp (first_unit b) (first_unit c)) h)))

ahead_after : (b c : RawBlock) → AreApart b c → HasUnits b → HasUnits c → comes_before b c ≡ false → Ahead c b
ahead_after b c apart x y h = ahead c b (λ s i j. apart s j i) y x (up_to_from_sorted (first_unit c) (first_unit b) h)

ahead_through : (a b c : RawBlock) → Ahead a b → HasUnits b → Ahead b c → Ahead a c
ahead_through a b c h g k =
    let i = h.line in
    let j = k.line in
    record { line = omega arith; number = λ e. let m = h.number (omega arith) in let n = k.number (omega arith) in omega arith }

-- where one goes on as another ends, they are of one origin, period and kind, and the numbers follow
goes_on_parts : (a b : RawBlock) → goes_on a b ≡ true → (record a { first = b.first; last = b.last } ≡ b) × (suc a.last ≡ b.first)
goes_on_parts a b h =
    let x = and_parts (same_code a.origin b.origin) _ h in
    let y = and_parts (same_period a.period b.period) _ x.1 in
    let z = and_parts (same_kind a.kind b.kind) (suc a.last == b.first) y.1 in
    let o = code_of_same a.origin b.origin x.0 in
    let p = period_of_same a.period b.period y.0 in
    let k = kind_of_same a.kind b.kind z.0 in
    ((λ i. record { origin = o i; period = p i; kind = k i; first = b.first; last = b.last }), eqb-true (suc a.last) b.first z.1)

-- none goes on where one ends that has a block between
parted_through : (a b c : RawBlock) → Ahead a b → HasUnits b → Ahead b c → goes_on a c ≡ false
parted_through a b c h g k =
    elim (cases_Bool (goes_on a c)) [
      | inl y ↦
          let parts = goes_on_parts a c y in
          let line = ap (λ (w : RawBlock). rank (first_unit w)) parts.0 in
          let next = parts.1 in
          let i = h.line in
          let j = k.line in
          let m = h.number (omega arith) in
          let n = k.number (omega arith) in
          absurd (omega arith)
      | inr n ↦ n
    ]

-- ---- in order

all_put : (P : RawBlock → Type 0) (b : RawBlock) (bs : List RawBlock) → P b → AllByRecursion P bs → AllByRecursion P (put_block b bs)
all_put P b [] x h = (x, tt)
all_put P b (c ∷ cs) x h = go (comes_before b c) (all_put P b cs x h.1)
  where
    go : (t : Bool) → AllByRecursion P (put_block b cs) → AllByRecursion P (cond t (b ∷ c ∷ cs) (c ∷ put_block b cs))
    go true r = (x, h)
    go false r = (h.0, r)

all_in_order : (P : RawBlock → Type 0) (bs : List RawBlock) → AllByRecursion P bs → AllByRecursion P (in_order bs)
all_in_order P [] h = tt
all_in_order P (b ∷ bs) h = all_put P b (in_order bs) h.0 (all_in_order P bs h.1)

all_through : (a b : RawBlock) → Ahead a b → HasUnits b → (cs : List RawBlock) → AllByRecursion (Ahead b) cs → AllByRecursion (Ahead a) cs
all_through a b h g [] k = tt
all_through a b h g (c ∷ cs) k = (ahead_through a b c h g k.0, all_through a b h g cs k.1)

put_ahead : (b : RawBlock) (bs : List RawBlock) → HasUnits b → AllByRecursion HasUnits bs → AllByRecursion (AreApart b) bs → Pairwise Ahead bs → Pairwise Ahead (put_block b bs)
put_ahead b [] x good apart h = (tt, tt)
put_ahead b (c ∷ cs) x good apart h = go (comes_before b c) refl (put_ahead b cs x good.1 apart.1 h.1)
  where
    go : (t : Bool) → comes_before b c ≡ t → Pairwise Ahead (put_block b cs) → Pairwise Ahead (cond t (b ∷ c ∷ cs) (c ∷ put_block b cs))
    go true e r = let first = ahead_before b c apart.0 x good.0 e in ((first, all_through b c first good.0 cs h.0), h)
    go false e r = (all_put (Ahead c) b cs (ahead_after b c apart.0 x good.0 e) h.0, r)

order_ahead : (bs : List RawBlock) → AllByRecursion HasUnits bs → Pairwise AreApart bs → Pairwise Ahead (in_order bs)
order_ahead [] good apart = tt
order_ahead (b ∷ bs) good apart = put_ahead b (in_order bs) good.0 (all_in_order HasUnits bs good.1) (all_in_order (AreApart b) bs apart.0) (order_ahead bs good.1 apart.1)

-- ---- joined

-- a block ahead of some is ahead of them joined, since joining keeps first units
ahead_joined : (a : RawBlock) (bs : List RawBlock) → AllByRecursion (Ahead a) bs → AllByRecursion (Ahead a) (joined bs)
ahead_joined a [] h = tt
ahead_joined a (b ∷ bs) h = join (joined bs) (ahead_joined a bs h.1)
  where
    join : (cs : List RawBlock) → AllByRecursion (Ahead a) cs → AllByRecursion (Ahead a) (join_block b cs)
    join [] r = (h.0, tt)
    join (c ∷ cs) r = go (goes_on b c)
      where
        go : (t : Bool) → AllByRecursion (Ahead a) (cond t (record b { last = c.last } ∷ cs) (b ∷ c ∷ cs))
        go true = (h.0, r.1)
        go false = (h.0, r)

all_parted : (a b : RawBlock) → Ahead a b → HasUnits b → (cs : List RawBlock) → AllByRecursion (Ahead a) cs → AllByRecursion (Parted b) cs → AllByRecursion (Parted a) cs
all_parted a b h g [] x y = tt
all_parted a b h g (c ∷ cs) x y = ((x.0, parted_through a b c h g y.0.0), all_parted a b h g cs x.1 y.1)

-- a block joined with one that is parted from others is parted from them
joined_parted : (a b : RawBlock) → (record a { first = b.first; last = b.last } ≡ b) → (cs : List RawBlock) → AllByRecursion (Parted b) cs → AllByRecursion (Parted (record a { last = b.last })) cs
joined_parted a b e [] h = tt
joined_parted a b e (c ∷ cs) h = (subst (λ w. Parted w c) (sym e) h.0, joined_parted a b e cs h.1)

join_parted : (b : RawBlock) (bs : List RawBlock) → HasUnits b → AllByRecursion HasUnits bs → AllByRecursion (Ahead b) bs → Pairwise Parted bs
    → Pairwise Parted (join_block b bs) × AllByRecursion HasUnits (join_block b bs)
join_parted b [] x good first h = ((tt, tt), (x, tt))
join_parted b (c ∷ cs) x good first h = go (goes_on b c) refl
  where
    go : (t : Bool) → goes_on b c ≡ t
        → Pairwise Parted (cond t (record b { last = c.last } ∷ cs) (b ∷ c ∷ cs)) × AllByRecursion HasUnits (cond t (record b { last = c.last } ∷ cs) (b ∷ c ∷ cs))
    go true e =
        let parts = goes_on_parts b c e in
        let next = parts.1 in
        let some = good.0 in
        ((joined_parted b c parts.0 cs h.0, h.1), (omega arith, good.1))
    go false e = ((((first.0, e), all_parted b c first.0 good.0 cs first.1 h.0), h), (x, good))

join_all : (bs : List RawBlock) → AllByRecursion HasUnits bs → Pairwise Ahead bs → Pairwise Parted (joined bs) × AllByRecursion HasUnits (joined bs)
join_all [] good h = (tt, tt)
join_all (b ∷ bs) good h =
    let r = join_all bs good.1 h.1 in
    join_parted b (joined bs) good.0 r.1 (ahead_joined b bs h.0) r.0

-- ---- the canonical form

abbrev Follows : RawBlock → RawBlock → Type 0
Follows a b = (comes_before a b ≡ true) × (goes_on a b ≡ false)

follows : (a b : RawBlock) → HasUnits a → Parted a b → Follows a b
follows a b x h =
    let some = x in
    let ends = h.0 in
    (ap is_lt (less_from_below (first_unit a) (first_unit b) (record { line = ends.line; number = λ e. let n = ends.number e in omega arith })), h.1)

all_follow : (a : RawBlock) → HasUnits a → (bs : List RawBlock) → AllByRecursion (Parted a) bs → AllByRecursion (Follows a) bs
all_follow a x [] h = tt
all_follow a x (b ∷ bs) h = (follows a b x h.0, all_follow a x bs h.1)

each_follows : (bs : List RawBlock) → AllByRecursion HasUnits bs → Pairwise Parted bs → Pairwise Follows bs
each_follows [] good h = tt
each_follows (b ∷ bs) good h = (all_follow b good.0 bs h.0, each_follows bs good.1 h.1)

good_ranges : (bs : List RawBlock) → list_any is_out_of_range bs ≡ false → AllByRecursion HasUnits bs
good_ranges [] h = tt
good_ranges (b ∷ bs) h =
    let a = or_parts (is_out_of_range b) (list_any is_out_of_range bs) h in
    let c = or_parts (nat_lt b.last b.first) _ a.0 in
    (ltb-false b.last b.first c.0, good_ranges bs a.1)

pub canonical_in_order : (blocks : List RawBlock) → list_any is_out_of_range blocks ≡ false → repeats (pieces blocks) ≡ false → Pairwise Follows (canonical blocks)
canonical_in_order blocks in_range once =
    let good = good_ranges blocks in_range in
    let both = join_all (in_order blocks) (all_in_order HasUnits blocks good) (order_ahead blocks good (raws_apart blocks once)) in
    each_follows (canonical blocks) both.1 both.0
