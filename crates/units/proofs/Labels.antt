-- The map that intervals mean gives the same labels as the list does.
use Rattle.std.proofs.Common.{◌≡◌, ℕ, ◌+◌, ◌-◌, zero, suc, List, [], ◌∷◌, Bool, true, false, ◌&&◌, cond, eqb, leb, ltb, Some, refl, sym, ap, ◌∙◌, arith}
use Rattle.std.specs.FinMap.{get, get-empty, get-insert}
use Rattle.std.proofs.lemmas.Bool.Decides.{nat_tests}
use Rattle.units.specs.Code.{same_code}
use Rattle.units.specs.Intervals.{has, label_at, numbered, Labels, put_units, size, labels_of}
use Rattle.units.specs.Keys.{unit_cmp}
use Rattle.units.specs.Unit.{same_period}
use Rattle.units.specs.declared.block.Unit.{Unit as Serial}
use Rattle.units.specs.declared.interval.Interval.{Interval}
use Rattle.units.proofs.UnitKeys.{units_total, tied}

no_first : (o p : Bool) (f x : ℕ) → (o && (p && (leb f x && ltb x (f + 0)))) ≡ false
no_first true true f x = grind (arith, nat_tests)
no_first true false f x = refl
no_first false p f x = refl

one_more : {X : Type 0} (o p : Bool) (f x n : ℕ) (y z : X) → cond (o && (p && eqb x (f + n))) y (cond (o && (p && (leb f x && ltb x (f + n)))) y z) ≡ cond (o && (p && (leb f x && ltb x (f + suc n)))) y z
one_more true true f x n y z = grind (arith, nat_tests)
one_more true false f x n y z = refl
one_more false p f x n y z = refl

all_first : (o p : Bool) (f t x : ℕ) → (o && (p && (leb f x && ltb x (f + (t + 1 - f))))) ≡ (o && (p && (leb f x && leb x t)))
all_first true true f t x = grind (arith, nat_tests)
all_first true false f t x = refl
all_first false p f t x = refl

module _ {M : Type 0} where
  -- an interval's first n units
  abbrev has_first : Interval M → ℕ → Serial → Bool
  has_first i n u = same_code i.origin u.origin && (same_period i.period u.period && (leb i.first u.number && ltb u.number (i.first + n)))

  pub get-put_units : (i : Interval M) (n : ℕ) (m : Labels M) (u : Serial) → get (put_units i n m) u ≡ cond (has_first i n u) (Some i.label) (get m u)
  unfolding put_units
  get-put_units i zero m u = ap (λ t. cond t (Some i.label) (get m u)) (sym (no_first (same_code i.origin u.origin) (same_period i.period u.period) i.first u.number))
  get-put_units i (suc n) m u =
      get-insert units_total (put_units i n m) (numbered i (i.first + n)) i.label u
      ∙ ap (λ t. cond t (Some i.label) (get (put_units i n m) u)) (tied u.origin i.origin u.period i.period u.number (i.first + n))
      ∙ ap (cond (same_code i.origin u.origin && (same_period i.period u.period && eqb u.number (i.first + n))) (Some i.label)) (get-put_units i n m u)
      ∙ one_more (same_code i.origin u.origin) (same_period i.period u.period) i.first u.number n (Some i.label) (get m u)

  pub get-labels_of : (is : List (Interval M)) (u : Serial) → get (labels_of is) u ≡ label_at is u
  unfolding labels_of
  get-labels_of [] u = get-empty unit_cmp u
  get-labels_of (i ∷ is) u =
      get-put_units i (size i) (labels_of is) u
      ∙ ap (λ t. cond t (Some i.label) (get (labels_of is) u)) (all_first (same_code i.origin u.origin) (same_period i.period u.period) i.first i.last u.number)
      ∙ ap (cond (has i u) (Some i.label)) (get-labels_of is u)

  -- the label that a map gives a unit, by its intervals
  pub get_view : (is : List (Interval M)) (m : Labels M) → labels_of is ≡ m → (u : Serial) → get m u ≡ label_at is u
  get_view is m e u = ap (λ k. get k u) (sym e) ∙ get-labels_of is u
