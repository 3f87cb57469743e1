-- Blocks that share no unit, as intervals and as a map from units to kinds; how many units they have.
use Rattle.std.proofs.Common.{◌≡◌, ℕ, zero, suc, ◌+◌, ◌^◌, ◌<◌, ◌≤◌, List, [], ◌∷◌, ◌++◌, length, get_or, map, Bool, true, false, true≢false, cond, Option, Some, None, refl, sym, ap, ◌∙◌, subst, arith, inl, inr}
use Rattle.std.specs.FinMap.{get, entries}
use Rattle.std.specs.List.{AllByRecursion, IsAmong, sum_by}
use Rattle.std.specs.Option.{is_some}
use Rattle.std.proofs.lemmas.Bool.{cases_Bool, false_from_ne_true, or_left, or_right}
use Rattle.std.proofs.lemmas.Option.{same_Some}
use Rattle.std.proofs.lemmas.List.Sums.{sum_by-cons}
use Rattle.units.specs.Apart.{AllApart, AreApart}
use Rattle.units.specs.Canonical.{interval_of}
use Rattle.units.specs.Intervals.{AreKept, label_at, labels_of, size}
use Rattle.units.specs.Unit.{has_unit, covers}
use Rattle.units.specs.declared.block.Block.{Block}
use Rattle.units.specs.declared.block.Kind.{Kind}
use Rattle.units.specs.declared.block.Unit.{Unit as Serial}
use Rattle.units.specs.declared.interval.Interval.{Interval}
use Rattle.units.proofs.CountingUnits.{weight, passing_labels, sizes_bound}
use Rattle.units.proofs.Labels.{get-labels_of}
use Rattle.accounts.specs.Holdings.{kind_in}
use Rattle.accounts.specs.Refusals.{IsUnitOf}
use Rattle.accounts.specs.Tables.{units_in}
use Rattle.accounts.proofs.Blocks.{first, later}
use Rattle.accounts.proofs.Counts.{count_of}

abbrev pub intervals_of : List Block → List (Interval Kind)
intervals_of bs = map interval_of bs

abbrev Others : Block → List Block → Type 0
Others b bs = AllByRecursion (λ (c : Block). AreApart b.raw c.raw) bs

-- ---- blocks that share no unit, and intervals that don't

none_labelled : (b : Block) (bs : List Block) (s : Serial) → Others b bs → has_unit b.raw s ≡ true → label_at (intervals_of bs) s ≡ None
none_labelled b [] s apart h = refl
none_labelled b (c ∷ bs) s apart h = rw (false_from_ne_true (has_unit c.raw s) (apart.0 s h)) (none_labelled b bs s apart.1 h)

pub kept_from_apart : (bs : List Block) → AllApart bs → AreKept (intervals_of bs)
kept_from_apart [] apart = tt
kept_from_apart (b ∷ bs) apart = (b.in_range, λ s h. none_labelled b bs s apart.0 h, kept_from_apart bs apart.1)

first_none : (t : Bool) (k : Kind) (o : Option Kind) → cond t (Some k) o ≡ None → (t ≡ false) × (o ≡ None)
first_none true k o e = absurd (cc (e))
first_none false k o e = (refl, e)

others_from : (b : Block) (bs : List Block) → ((s : Serial) → has_unit b.raw s ≡ true → label_at (intervals_of bs) s ≡ None) → Others b bs
others_from b [] none = tt
others_from b (c ∷ bs) none = (
  λ s h k. true≢false (sym k ∙ (first_none (has_unit c.raw s) c.raw.kind (label_at (intervals_of bs) s) (none s h)).0),
  others_from b bs (λ s h. (first_none (has_unit c.raw s) c.raw.kind (label_at (intervals_of bs) s) (none s h)).1),
)

pub apart_from_kept : (bs : List Block) → AreKept (intervals_of bs) → AllApart bs
apart_from_kept [] kept = tt
apart_from_kept (b ∷ bs) kept = (others_from b bs kept.1, apart_from_kept bs kept.2)

-- ---- the kinds of their units

pub kind_labelled : (bs : List Block) (s : Serial) → label_at (intervals_of bs) s ≡ kind_in bs s
kind_labelled [] s = refl
kind_labelled (b ∷ bs) s = elim (cases_Bool (has_unit b.raw s)) [
  | inl yes' ↦ rw yes' refl
  | inr no' ↦ rw no' (kind_labelled bs s)
]

pub there_covered : (bs : List Block) (s : Serial) → is_some (label_at (intervals_of bs) s) ≡ covers bs s
there_covered [] s = refl
there_covered (b ∷ bs) s = elim (cases_Bool (has_unit b.raw s)) [
  | inl yes' ↦ rw yes' refl
  | inr no' ↦ rw no' (there_covered bs s)
]

at : (P : Block → Type 0) (xs : List Block) (i : ℕ) (x : Block) → AllByRecursion P xs → i < length xs → x ≡ get_or xs i x → P x
at P [] i x all lt is = absurd (omega arith)
at P (y ∷ ys) zero x all lt is = subst P (sym is) all.0
at P (y ∷ ys) (suc i) x all lt is = at P ys i x all.1 (omega arith) is

labelled_at : (bs : List Block) (b : Block) (s : Serial) → AllApart bs → (m : IsAmong bs b) → has_unit b.raw s ≡ true → label_at (intervals_of bs) s ≡ Some b.raw.kind
labelled_at [] b s apart m h = absurd (omega (arith, m.1.0))
labelled_at (a ∷ bs) b s apart (zero, (lt, e)) h = rw (ap (λ (c : Block). has_unit c.raw s) (sym e) ∙ h) (ap (λ (c : Block). Some c.raw.kind) (sym e))
labelled_at (a ∷ bs) b s apart (suc i, (lt, e)) h =
    rw (false_from_ne_true (has_unit a.raw s) (λ y. at (λ (c : Block). AreApart a.raw c.raw) bs i b apart.0 (omega (arith, lt)) e s y h)) (labelled_at bs b s apart.1 (i, (omega (arith, lt), e)) h)

-- the kind of a unit is that of its block
pub labelled : (bs : List Block) (b : Block) (s : Serial) → AllApart bs → IsUnitOf bs b s → label_at (intervals_of bs) s ≡ Some b.raw.kind
labelled bs b s apart of = labelled_at bs b s apart of.among of.has

-- ---- how many units they have

pub units_sum : (bs : List Block) → sum_by size (intervals_of bs) ≡ units_in bs
units_sum [] = refl
units_sum (b ∷ bs) = sum_by-cons size (interval_of b) (intervals_of bs) ∙ ap (λ n. size (interval_of b) + n) (units_sum bs) ∙ sym (sum_by-cons (λ c. size (interval_of c)) b bs)

pub units_bound : (bs : List Block) → AllApart bs → units_in bs ≤ 2 ^ 63
units_bound bs apart = let bound = sizes_bound (intervals_of bs) (kept_from_apart bs apart) in let same = units_sum bs in omega arith

no_weight : (is : List (Interval Kind)) → sum_by (weight (λ (k : Kind). false)) is ≡ 0
no_weight [] = refl
no_weight (i ∷ is) = let one = sum_by-cons (weight (λ (k : Kind). false)) i is in let rest = no_weight is in omega (arith, one, rest)

-- all units of the blocks, or none, by the map from units to kinds that they mean
pub kinds_counted : (bs : List Block) → AllApart bs → (b : Bool) → count_of (λ (k : Kind). b) (entries (labels_of (intervals_of bs))) ≡ cond b (units_in bs) 0
kinds_counted bs apart true = passing_labels (λ (k : Kind). true) (intervals_of bs) (kept_from_apart bs apart) ∙ units_sum bs
kinds_counted bs apart false = passing_labels (λ (k : Kind). false) (intervals_of bs) (kept_from_apart bs apart) ∙ no_weight (intervals_of bs)

pub get_kinds : (bs : List Block) (s : Serial) → get (labels_of (intervals_of bs)) s ≡ kind_in bs s
get_kinds bs s = get-labels_of (intervals_of bs) s ∙ kind_labelled bs s

-- ---- one block more

pub among_front : (xs ys : List Block) (x : Block) → IsAmong xs x → IsAmong (xs ++ ys) x
among_front [] ys x m = absurd (omega (arith, m.1.0))
among_front (y ∷ xs) ys x (zero, (lt, e)) = (zero, (omega arith, e))
among_front (y ∷ xs) ys x (suc i, (lt, e)) =
    let rest = among_front xs ys x (i, (omega (arith, lt), e)) in
    (suc rest.0, (omega (arith, rest.1.0), rest.1.1))

pub among_last : (xs : List Block) (x : Block) → IsAmong (xs ++ x ∷ []) x
among_last [] x = (zero, (omega arith, refl))
among_last (y ∷ xs) x = let rest = among_last xs x in (suc rest.0, (omega (arith, rest.1.0), rest.1.1))

-- the block that gives a unit its kind
pub kind_found : (bs : List Block) (s : Serial) (k : Kind) → kind_in bs s ≡ Some k → (b : Block) × IsUnitOf bs b s × (b.raw.kind ≡ k)
kind_found [] s k e = absurd (cc (e))
kind_found (b ∷ bs) s k e = elim (cases_Bool (has_unit b.raw s)) [
  | inl yes' ↦ (b, record { among = first b bs; has = yes' }, same_Some b.raw.kind k (rw yes' at e))
  | inr no' ↦
      let rest = kind_found bs s k (rw no' at e) in
      (rest.0, record { among = later b bs rest.0 rest.1.among; has = rest.1.has }, rest.2)
]

pub kind_covered : (bs : List Block) (s : Serial) → is_some (kind_in bs s) ≡ covers bs s
kind_covered bs s = ap is_some (sym (kind_labelled bs s)) ∙ there_covered bs s

-- ---- blocks of two lists

no_block : (b : Block) (ys : List Block) → ((s : Serial) → has_unit b.raw s ≡ true → covers ys s ≡ true → ⊥) → Others b ys
no_block b [] none = tt
no_block b (y ∷ ys) none = (
  λ s h k. none s h (or_left (has_unit y.raw s) (covers ys s) k),
  no_block b ys (λ s h k. none s h (or_right (has_unit y.raw s) (covers ys s) k)),
)

others_append : (b : Block) (xs ys : List Block) → Others b xs → Others b ys → Others b (xs ++ ys)
others_append b [] ys p q = q
others_append b (x ∷ xs) ys p q = (p.0, others_append b xs ys p.1 q)

pub apart_append : (xs ys : List Block) → AllApart xs → AllApart ys → ((s : Serial) → covers xs s ≡ true → covers ys s ≡ true → ⊥) → AllApart (xs ++ ys)
apart_append [] ys p q none = q
apart_append (x ∷ xs) ys p q none = (
  others_append x xs ys p.0 (no_block x ys (λ s h k. none s (or_left (has_unit x.raw s) (covers xs s) h) k)),
  apart_append xs ys p.1 q (λ s h k. none s (or_right (has_unit x.raw s) (covers xs s) h) k),
)
