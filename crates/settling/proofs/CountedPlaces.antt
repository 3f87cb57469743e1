-- Counts of places, counted further.
use Rattle.std.proofs.Common.{◌≡◌, ◌+◌, ◌-◌, ◌<◌, ◌≤◌, ◌++◌, ℕ, Bool, true, false, cond, List, [], length, take, drop, replicate, append-nil, min, count_by, get_or, refl, ap, sym, subst, ◌∙◌, arith, inl, inr}
use Rattle.std.specs.Prelude.{slice_index_or}
use Rattle.std.specs.List.{sum_by}
use Rattle.std.proofs.lemmas.Bool.{cases_lt}
use Rattle.std.proofs.lemmas.List.Sums.{count_by_more_no, count_by_more_yes, sum_by_more}
use Rattle.std.proofs.lemmas.List.{drop_all, take_all, get_or-replicate, length-replicate}
use Rattle.wire.specs.declared.input.Input.{Input}
use Rattle.settling.specs.Counts.{CountsFrom}
use Rattle.settling.specs.Covering.{IsPlace}
use Rattle.node_state.specs.Views.{StateView, SeatView}

-- the same counts, of equal functions
pub counts_same : (opening : ℕ) (f g : ℕ → ℕ) (counts : List ℕ) → ((p : ℕ) → f p ≡ g p) → CountsFrom opening f counts → CountsFrom opening g counts
counts_same opening f g counts same h k below = h k below ∙ ap (λ n. min 2 n) (same (opening + k))

more_as : {X : Type 0} (p : X → Bool) (xs : List X) (i : ℕ) (d : X) (b : Bool) → i < length xs → p (get_or xs i d) ≡ b → count_by p (take i xs) + cond b 1 0 ≡ count_by p (take (i + 1) xs)
more_as p xs i d true below e = sym (count_by_more_yes p xs i d below e)
more_as p xs i d false below e = omega (arith, count_by_more_no p xs i d below e)

-- one element more
pub one_counted : {X : Type 0} (p : X → Bool) (xs : List X) (i n : ℕ) (d : X) → i < length xs → (n + count_by p (take i xs)) + cond (p (get_or xs i d)) 1 0 ≡ n + count_by p (take (i + 1) xs)
one_counted p xs i n d below = let more = more_as p xs i d (p (get_or xs i d)) below refl in omega (arith, more)

-- one list of tickets more
pub one_summed : {X : Type 0} (f : X → ℕ) (xs : List X) (i n : ℕ) (d : X) → i < length xs → (n + sum_by f (take i xs)) + f (get_or xs i d) ≡ n + sum_by f (take (i + 1) xs)
one_summed f xs i n d below = let more = sum_by_more f xs i d below in omega (arith, more)

-- a property of all places below `opening + k`, and of that place, is one of all below `opening + (k + 1)`
pub up_to_next : (P : ℕ → Type 0) (opening k : ℕ) → ((place : ℕ) → opening ≤ place → place < opening + k → P place) → P (opening + k) → (place : ℕ) → opening ≤ place → place < opening + (k + 1) → P place
up_to_next P opening k earlier here place low high =
    elim (cases_lt place (opening + k)) [ inl below ↦ earlier place low below | inr last ↦ let same : opening + k ≡ place = omega arith in subst P same here ]

pub named_there : (opening k : ℕ) (times : ℕ → ℕ) (counts : List ℕ) → CountsFrom opening times counts → k < length counts → 0 < slice_index_or counts k 0 → 0 < times (opening + k)
named_there opening k times counts h below some = let here = h k below in omega (arith, here, some)

pub never_there : (opening k : ℕ) (times : ℕ → ℕ) (counts : List ℕ) → CountsFrom opening times counts → k < length counts → slice_index_or counts k 0 ≡ 0 → times (opening + k) ≡ 0
never_there opening k times counts h below none = let here = h k below in omega (arith, here, none)

pub once_there : (opening k : ℕ) (times : ℕ → ℕ) (counts : List ℕ) → CountsFrom opening times counts → k < length counts → slice_index_or counts k 0 ≤ 1 → times (opening + k) ≤ 1
once_there opening k times counts h below few = let here = h k below in omega (arith, here, few)

pub twice_there : (opening k : ℕ) (times : ℕ → ℕ) (counts : List ℕ) → CountsFrom opening times counts → k < length counts → 1 < slice_index_or counts k 0 → 1 < times (opening + k)
twice_there opening k times counts h below many = let here = h k below in omega (arith, here, many)

-- a slice that was written back into a list, and the list afterwards
pub written_back : (new items : List ℕ) (len : ℕ) → length new ≡ length items → len ≡ length items → take len (new ++ drop (length new) items) ≡ new
written_back new items len same whole =
    let rest : drop (length new) items ≡ [] = drop_all (length new) items (omega arith) in
    ap (λ (l : List ℕ). take len (new ++ l)) rest ∙ (ap (take len) (append-nil new) ∙ take_all len new (omega arith))

-- nothing is counted yet
pub none_counted : (opening n : ℕ) → CountsFrom opening (λ p. 0) (replicate n 0)
none_counted opening n k below = get_or-replicate n k 0 0 (let size : length (replicate {A = ℕ} n 0) ≡ n = length-replicate {A = ℕ} n 0 in omega (arith, below, size))

-- ---- counts of all places since the opening

module _ (held : StateView) (seats : List SeatView) (opening : ℕ) (counts : List ℕ) (journal : List Input) (opens : opening ≡ held.opening) (within : held.opening ≤ length held.journal) (whole : journal ≡ held.journal)
    (all : length counts ≡ length journal - opening) where
  last : opening + length counts ≡ length held.journal
  last = let long : length journal ≡ length held.journal = ap length whole in omega (arith, opens, within, all, long)

  pub each_place : (P : ℕ → Type 0) → ((place : ℕ) → opening ≤ place → place < opening + length counts → P place) → (place : ℕ) → IsPlace held place → P place
  each_place P h place is = h place (omega (arith, opens, is.0)) (omega (arith, last, is.1))

  pub one_place : (place : ℕ) → opening ≤ place → place < opening + length counts → IsPlace held place
  one_place place low high = (omega (arith, opens, low), omega (arith, last, high))
