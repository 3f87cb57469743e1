-- The number of unit holdings that pass a test: that it is in the range of numbers, and how counts of two maps compare,
-- unit by unit.
use Rattle.std.proofs.Common.{◌≡◌, ℕ, ◌+◌, ◌^◌, ◌≤◌, List, [], ◌∷◌, Bool, true, false, ◌&&◌, not, cond, Option, Some, None, IsSome, is_some, refl, sym, ap, ◌∙◌, arith}
use Rattle.std.specs.Cmp.{tied_itself}
use Rattle.std.specs.FinMap.{FinMap, get, get-entries, entries, entries_sorted}
use Rattle.std.specs.FinMap.Entries.{find}
use Rattle.std.specs.List.{AllByRecursion}
use Rattle.std.specs.Ordering.{eq_by_cmp, is_eq}
use Rattle.std.proofs.lemmas.List.Sums.{count_by-le-length}
use Rattle.units.specs.Keys.{unit_cmp}
use Rattle.units.specs.Limits.{last_unit}
use Rattle.units.specs.declared.block.Unit.{Unit as Serial}
use Rattle.units.proofs.CountingUnits.{few}
use Rattle.units.proofs.UnitKeys.{units_total, exact_units}
use Rattle.status.specs.declared.id.TransactionId.{TransactionId}
use Rattle.accounts.specs.Holdings.{is_reserved_by}
use Rattle.accounts.specs.Tables.{UnitHoldings, is_in, is_share, AreInRange}
use Rattle.accounts.specs.declared.unit_holding.UnitHolding.{UnitHolding}
use Rattle.accounts.proofs.Counts.{tally, count_of, counts_add}
use Rattle.accounts.proofs.OneUnit.{share_within}

abbrev pub count : (UnitHolding → Bool) → UnitHoldings → ℕ
count passes unit_holdings = count_of passes (entries unit_holdings)

pub adds : {Y Z : Type 0} (p : UnitHolding → Bool) (q : Y → Bool) (r : Z → Bool) (m : UnitHoldings) (n : FinMap unit_cmp Y) (l : FinMap unit_cmp Z) → ((s : Serial) → tally p (get m s) ≡ tally q (get n s) + tally r (get l s)) → count p m ≡ count_of q (entries n) + count_of r (entries l)
adds p q r m n l h = counts_add unit_cmp units_total exact_units p q r m n l h

no_tally : {X : Type 0} (o : Option X) → tally (λ x. false) o ≡ 0
no_tally None = refl
no_tally (Some x) = refl

pub none_counted : (m : UnitHoldings) → count (λ unit_holding. false) m ≡ 0
none_counted m =
    let twice = adds (λ unit_holding. false) (λ unit_holding. false) (λ unit_holding. false) m m m (λ s. rw (no_tally (get m s)) refl) in
    omega (arith, twice)

pub same : (p q : UnitHolding → Bool) (m n : UnitHoldings) → ((s : Serial) → tally p (get m s) ≡ tally q (get n s)) → count p m ≡ count q n
same p q m n h =
    let one = adds p q (λ unit_holding. false) m n n (λ s. let e = h s in let z = no_tally (get n s) in omega (arith, e, z)) in
    let zero = none_counted n in
    omega (arith, one, zero)

pub nothing : (p : UnitHolding → Bool) (m : UnitHoldings) → ((s : Serial) → tally p (get m s) ≡ 0) → count p m ≡ 0
nothing p m h = same p (λ unit_holding. false) m m (λ s. h s ∙ sym (no_tally (get m s))) ∙ none_counted m

abbrev IsSmall : Serial → Type 0
IsSmall u = u.number ≤ last_unit

found : (t : Bool) (x : UnitHolding) (o : Option UnitHolding) → IsSome o → IsSome (cond t (Some x) o)
found true x o h = refl
found false x o h = h

all_small : (es : List (Serial × UnitHolding)) → ((s : Serial) → IsSome (find unit_cmp s es) → IsSmall s) → AllByRecursion (λ e. IsSmall e.0) es
all_small [] h = tt
all_small (e ∷ es) h = (
  h e.0 (ap (λ r. is_some (cond (is_eq r) (Some e.1) (find unit_cmp e.0 es))) (tied_itself units_total e.0)),
  all_small es (λ s i. h s (found (eq_by_cmp unit_cmp s e.0) e.1 (find unit_cmp s es) i)),
)

-- the number of units is in the range of numbers
pub count_bound : (p : UnitHolding → Bool) (unit_holdings : UnitHoldings) → AreInRange unit_holdings → count p unit_holdings ≤ 2 ^ 63
count_bound p unit_holdings range =
    let small = all_small (entries unit_holdings) (λ s i. range s (ap is_some (get-entries unit_holdings s) ∙ i)) in
    let bound = few (entries unit_holdings) (entries_sorted unit_holdings) small in
    let within = count_by-le-length (λ (e : Serial × UnitHolding). p e.1) (entries unit_holdings) in
    omega (arith, bound, within)

pub shares_within : (n : ℕ) (id : TransactionId) (unit_holdings : UnitHoldings) → count (is_share n id) unit_holdings ≤ count (is_in n) unit_holdings
shares_within n id unit_holdings =
    let split = adds (is_in n) (is_share n id) (λ unit_holding. is_in n unit_holding && not (is_reserved_by id unit_holding)) unit_holdings unit_holdings unit_holdings (λ s. share_within n id (get unit_holdings s)) in
    omega (arith, split)
