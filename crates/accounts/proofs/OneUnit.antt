-- The changes of one unit's holding, by tests: whether a transaction reserves it, and whether it counts.
use Rattle.std.proofs.Common.{◌≡◌, ℕ, ◌+◌, Bool, true, false, ◌&&◌, ◌||◌, not, is_some, cond, eqb, Option, Some, None, refl, sym, ap, ◌∙◌, inl, inr, arith}
use Rattle.std.specs.Option.{option_map, option_or}
use Rattle.std.proofs.lemmas.Bool.{cases_Bool}
use Rattle.units.specs.Intervals.{labels_that}
use Rattle.units.specs.declared.block.Kind.{Kind}
use Rattle.status.specs.Id.{same_id}
use Rattle.status.specs.declared.id.TransactionId.{TransactionId}
use Rattle.status.proofs.Ids.{id_of_same}
use Rattle.accounts.specs.Holdings.{is_free_in, is_reserved_by, released}
use Rattle.accounts.specs.Tables.{is_in, is_share, unit_holding_in, reserves}
use Rattle.accounts.specs.declared.unit_holding.UnitHolding.{UnitHolding}
use Rattle.accounts.proofs.Counts.{tally}

-- ---- tests of unit holdings by parts

abbrev bit : Bool → ℕ
bit t = cond t 1 0

-- the transaction let go, and another one
let_go : (id q other : TransactionId) → same_id other id ≡ true → cond (same_id id q) false (same_id other q) ≡ false
let_go id q other e = ap (λ t. cond t false (same_id other q)) (ap (λ x. same_id x q) (sym (id_of_same other id e))) ∙ same (same_id other q)
  where
    same : (t : Bool) → cond t false t ≡ false
    same true = refl
    same false = refl

stays : (id q other : TransactionId) → same_id other id ≡ false → same_id other q ≡ cond (same_id id q) false (same_id other q)
stays id q other e = elim (cases_Bool (same_id id q)) [
  | inl yes' ↦ rw yes' (ap (same_id other) (sym (id_of_same id q yes')) ∙ e)
  | inr no' ↦ rw no' refl
]

twice : (t : Bool) → false ≡ cond t false false
twice true = refl
twice false = refl

-- the count of a unit holding for an account and a transaction
share_tally : (n : ℕ) (q : TransactionId) (o : Option UnitHolding) → tally (is_share n q) o ≡ cond (reserves q o) (tally (is_in n) o) 0
share_tally n q None = refl
share_tally n q (Some unit_holding) = split (eqb unit_holding.account n) (is_reserved_by q unit_holding)
  where
    split : (a b : Bool) → bit (a && b) ≡ cond b (bit a) 0
    split true true = refl
    split true false = refl
    split false true = refl
    split false false = refl

-- a transaction's units of an account are of its units
pub share_within : (n : ℕ) (id : TransactionId) (o : Option UnitHolding) → tally (is_in n) o ≡ tally (is_share n id) o + tally (λ unit_holding. is_in n unit_holding && not (is_reserved_by id unit_holding)) o
share_within n id None = refl
share_within n id (Some unit_holding) = split (eqb unit_holding.account n) (is_reserved_by id unit_holding)
  where
    split : (a b : Bool) → cond a 1 0 ≡ cond (a && b) 1 0 + cond (a && not b) 1 0
    split true true = refl
    split true false = refl
    split false true = refl
    split false false = refl

abbrev unit_holding_with : ℕ → Kind → Option TransactionId → UnitHolding
unit_holding_with account kind reserving = unit_holding_in account reserving kind

-- ---- released

module _ (id : TransactionId) where
  released_reserves_unit_holding : (q : TransactionId) (a : ℕ) (k : Kind) (r : Option TransactionId) → reserves q (Some (released id (unit_holding_with a k r))) ≡ cond (same_id id q) false (reserves q (Some (unit_holding_with a k r)))
  released_reserves_unit_holding q a k None = twice (same_id id q)
  released_reserves_unit_holding q a k (Some other) = elim (cases_Bool (same_id other id)) [
    | inl yes' ↦ rw yes' (sym (let_go id q other yes'))
    | inr no' ↦ rw no' (stays id q other no')
  ]

  pub released_reserves : (q : TransactionId) (o : Option UnitHolding) → reserves q (option_map (released id) o) ≡ cond (same_id id q) false (reserves q o)
  released_reserves q None = twice (same_id id q)
  released_reserves q (Some unit_holding) = released_reserves_unit_holding q unit_holding.account unit_holding.kind unit_holding.reserving

  released_in_unit_holding : (n a : ℕ) (k : Kind) (r : Option TransactionId) → tally (is_in n) (Some (released id (unit_holding_with a k r))) ≡ tally (is_in n) (Some (unit_holding_with a k r))
  released_in_unit_holding n a k None = refl
  released_in_unit_holding n a k (Some other) = elim (cases_Bool (same_id other id)) [
    | inl yes' ↦ rw yes' refl
    | inr no' ↦ rw no' refl
  ]

  pub released_in : (n : ℕ) (o : Option UnitHolding) → tally (is_in n) (option_map (released id) o) ≡ tally (is_in n) o
  released_in n None = refl
  released_in n (Some unit_holding) = released_in_unit_holding n unit_holding.account unit_holding.kind unit_holding.reserving

  released_free_unit_holding : (n a : ℕ) (k : Kind) (r : Option TransactionId) → tally (is_free_in n) (Some (released id (unit_holding_with a k r))) ≡ tally (is_free_in n) (Some (unit_holding_with a k r)) + tally (is_share n id) (Some (unit_holding_with a k r))
  released_free_unit_holding n a k None = none (eqb a n)
    where
      none : (t : Bool) → cond (t && true) 1 0 ≡ cond (t && true) 1 0 + cond (t && false) 1 0
      none true = refl
      none false = refl
  released_free_unit_holding n a k (Some other) = elim (cases_Bool (same_id other id)) [
    | inl yes' ↦ rw yes' (freed (eqb a n))
    | inr no' ↦ rw no' (other_still (eqb a n))
  ]
    where
      freed : (t : Bool) → cond (t && true) 1 0 ≡ cond (t && false) 1 0 + cond (t && true) 1 0
      freed true = refl
      freed false = refl

      other_still : (t : Bool) → cond (t && false) 1 0 ≡ cond (t && false) 1 0 + cond (t && false) 1 0
      other_still true = refl
      other_still false = refl

  pub released_free : (n : ℕ) (o : Option UnitHolding) → tally (is_free_in n) (option_map (released id) o) ≡ tally (is_free_in n) o + tally (is_share n id) o
  released_free n None = refl
  released_free n (Some unit_holding) = released_free_unit_holding n unit_holding.account unit_holding.kind unit_holding.reserving

  pub released_share : (n : ℕ) (q : TransactionId) (o : Option UnitHolding) → tally (is_share n q) (option_map (released id) o) ≡ cond (same_id id q) 0 (tally (is_share n q) o)
  released_share n q o =
      share_tally n q (option_map (released id) o)
      ∙ ap (λ t. cond t (tally (is_in n) (option_map (released id) o)) 0) (released_reserves q o)
      ∙ ap (λ m. cond (cond (same_id id q) false (reserves q o)) m 0) (released_in n o)
      ∙ nested (same_id id q) (reserves q o) (tally (is_in n) o)
      ∙ ap (cond (same_id id q) 0) (sym (share_tally n q o))
    where
      nested : (s t : Bool) (m : ℕ) → cond (cond s false t) m 0 ≡ cond s 0 (cond t m 0)
      nested true t m = refl
      nested false t m = refl

  released_twice_unit_holding : (a : ℕ) (k : Kind) (r : Option TransactionId) → released id (released id (unit_holding_with a k r)) ≡ released id (unit_holding_with a k r)
  released_twice_unit_holding a k None = refl
  released_twice_unit_holding a k (Some other) = elim (cases_Bool (same_id other id)) [
    | inl yes' ↦ rw yes' refl
    | inr no' ↦ rw (no', no') refl
  ]

  pub released_twice : (unit_holding : UnitHolding) → released id (released id unit_holding) ≡ released id unit_holding
  released_twice unit_holding = released_twice_unit_holding unit_holding.account unit_holding.kind unit_holding.reserving

  pub released_other : (unit_holding : UnitHolding) → is_reserved_by id unit_holding ≡ false → released id unit_holding ≡ unit_holding
  released_other unit_holding e = ap (λ t. cond t (record unit_holding { reserving = None }) unit_holding) e

  pub released_none : (o : Option UnitHolding) → reserves id o ≡ false → o ≡ option_map (released id) o
  released_none None e = refl
  released_none (Some unit_holding) e = ap Some (sym (released_other unit_holding e))

  -- ---- taken out

  abbrev pub others : Option UnitHolding → Option UnitHolding
  others o = labels_that (λ unit_holding. not (is_reserved_by id unit_holding)) o

  pub others_none : (o : Option UnitHolding) → reserves id o ≡ false → o ≡ others o
  others_none None e = refl
  others_none (Some unit_holding) e = sym (ap (λ t. cond (not t) (Some unit_holding) None) e)

  taken_reserves_unit_holding : (q : TransactionId) (a : ℕ) (k : Kind) (r : Option TransactionId) → reserves q (others (Some (unit_holding_with a k r))) ≡ cond (same_id id q) false (reserves q (Some (unit_holding_with a k r)))
  taken_reserves_unit_holding q a k None = twice (same_id id q)
  taken_reserves_unit_holding q a k (Some other) = elim (cases_Bool (same_id other id)) [
    | inl yes' ↦ rw yes' (sym (let_go id q other yes'))
    | inr no' ↦ rw no' (stays id q other no')
  ]

  pub taken_reserves : (q : TransactionId) (o : Option UnitHolding) → reserves q (others o) ≡ cond (same_id id q) false (reserves q o)
  taken_reserves q None = twice (same_id id q)
  taken_reserves q (Some unit_holding) = taken_reserves_unit_holding q unit_holding.account unit_holding.kind unit_holding.reserving

  pub taken_in : (n : ℕ) (o : Option UnitHolding) → tally (is_in n) o ≡ tally (is_in n) (others o) + tally (is_share n id) o
  taken_in n None = refl
  taken_in n (Some unit_holding) = elim (is_reserved_by id unit_holding) as (λ b. cond (eqb unit_holding.account n) 1 0 ≡ tally (is_in n) (cond (not b) (Some unit_holding) None) + cond (eqb unit_holding.account n && b) 1 0) [
    | true ↦ gone (eqb unit_holding.account n)
    | false ↦ here (eqb unit_holding.account n)
  ]
    where
      gone : (t : Bool) → cond t 1 0 ≡ 0 + cond (t && true) 1 0
      gone true = refl
      gone false = refl

      here : (t : Bool) → cond t 1 0 ≡ cond t 1 0 + cond (t && false) 1 0
      here true = refl
      here false = refl

  taken_free_unit_holding : (n a : ℕ) (k : Kind) (r : Option TransactionId) → tally (is_free_in n) (others (Some (unit_holding_with a k r))) ≡ tally (is_free_in n) (Some (unit_holding_with a k r))
  taken_free_unit_holding n a k None = refl
  taken_free_unit_holding n a k (Some other) = elim (cases_Bool (same_id other id)) [
    | inl yes' ↦ rw yes' (none (eqb a n))
    | inr no' ↦ rw no' refl
  ]
    where
      none : (t : Bool) → ◌≡◌ {A = ℕ} 0 (bit (t && false))
      none true = refl
      none false = refl

  pub taken_free : (n : ℕ) (o : Option UnitHolding) → tally (is_free_in n) (others o) ≡ tally (is_free_in n) o
  taken_free n None = refl
  taken_free n (Some unit_holding) = taken_free_unit_holding n unit_holding.account unit_holding.kind unit_holding.reserving

  no_share : (t s : Bool) → bit (t && false) ≡ cond s 0 (bit (t && false))
  no_share true true = refl
  no_share true false = refl
  no_share false true = refl
  no_share false false = refl

  nothing : (t : Bool) → ◌≡◌ {A = ℕ} 0 (bit (t && false))
  nothing true = refl
  nothing false = refl

  taken_share_unit_holding : (n : ℕ) (q : TransactionId) (a : ℕ) (k : Kind) (r : Option TransactionId) → tally (is_share n q) (others (Some (unit_holding_with a k r))) ≡ cond (same_id id q) 0 (tally (is_share n q) (Some (unit_holding_with a k r)))
  taken_share_unit_holding n q a k None = no_share (eqb a n) (same_id id q)
  taken_share_unit_holding n q a k (Some other) = elim (cases_Bool (same_id other id)) [
    | inl yes' ↦ rw yes' (elim (cases_Bool (same_id id q)) [
      | inl one ↦ rw one refl
      | inr two ↦
          let apart : same_id other q ≡ false = ap (λ x. same_id x q) (id_of_same other id yes') ∙ two in
          rw (two, apart) (nothing (eqb a n))
    ])
    | inr no' ↦ rw no' (elim (cases_Bool (same_id id q)) [
      | inl one ↦
          let apart : same_id other q ≡ false = ap (same_id other) (sym (id_of_same id q one)) ∙ no' in
          rw (one, apart) (sym (nothing (eqb a n)))
      | inr two ↦ rw two refl
    ])
  ]

  pub taken_share : (n : ℕ) (q : TransactionId) (o : Option UnitHolding) → tally (is_share n q) (others o) ≡ cond (same_id id q) 0 (tally (is_share n q) o)
  taken_share n q None = none (same_id id q)
    where
      none : (t : Bool) → ◌≡◌ {A = ℕ} 0 (cond t 0 0)
      none true = refl
      none false = refl
  taken_share n q (Some unit_holding) = taken_share_unit_holding n q unit_holding.account unit_holding.kind unit_holding.reserving

-- ---- put into an account, where a block gives the unit a kind

abbrev pub put : ℕ → Option TransactionId → Option Kind → Option UnitHolding → Option UnitHolding
put account reserving k o = option_or (option_map (unit_holding_in account reserving) k) o

abbrev pub in_account : ℕ → ℕ → Kind → Bool
in_account account n k = eqb account n

free_test : (t : Bool) → bit (t && true) ≡ 0 + bit t
free_test true = refl
free_test false = refl

zero_test : (t : Bool) → bit (t && false) ≡ 0
zero_test true = refl
zero_test false = refl

bare_test : (t : Bool) → bit t ≡ 0 + bit t
bare_test true = refl
bare_test false = refl

module _ (a : ℕ) (k : Option Kind) (o : Option UnitHolding) (absent : (kind : Kind) → k ≡ Some kind → o ≡ None) where
  pub credited_in : (n : ℕ) → tally (is_in n) (put a None k o) ≡ tally (is_in n) o + tally (in_account a n) k
  credited_in n = elim k as (λ x. k ≡ x → tally (is_in n) (put a None x o) ≡ tally (is_in n) o + tally (in_account a n) x) [
    | None ↦ λ e. omega arith
    | Some kind ↦ λ e. rw (absent kind e) (bare_test (eqb a n))
  ] refl

  pub credited_free : (n : ℕ) → tally (is_free_in n) (put a None k o) ≡ tally (is_free_in n) o + tally (in_account a n) k
  credited_free n = elim k as (λ x. k ≡ x → tally (is_free_in n) (put a None x o) ≡ tally (is_free_in n) o + tally (in_account a n) x) [
    | None ↦ λ e. omega arith
    | Some kind ↦ λ e. rw (absent kind e) (free_test (eqb a n))
  ] refl

  pub credited_reserves : (q : TransactionId) → reserves q (put a None k o) ≡ reserves q o
  credited_reserves q = elim k as (λ x. k ≡ x → reserves q (put a None x o) ≡ reserves q o) [
    | None ↦ λ e. refl
    | Some kind ↦ λ e. rw (absent kind e) refl
  ] refl

  pub credited_share : (n : ℕ) (q : TransactionId) → tally (is_share n q) (put a None k o) ≡ tally (is_share n q) o
  credited_share n q = elim k as (λ x. k ≡ x → tally (is_share n q) (put a None x o) ≡ tally (is_share n q) o) [
    | None ↦ λ e. refl
    | Some kind ↦ λ e. rw (absent kind e) (zero_test (eqb a n))
  ] refl

module _ (a : ℕ) (id : TransactionId) (k : Option Kind) (o : Option UnitHolding) (held : (kind : Kind) → k ≡ Some kind → o ≡ Some (unit_holding_in a None kind)) where
  pub reserved_in : (n : ℕ) → tally (is_in n) (put a (Some id) k o) ≡ tally (is_in n) o
  reserved_in n = elim k as (λ x. k ≡ x → tally (is_in n) (put a (Some id) x o) ≡ tally (is_in n) o) [
    | None ↦ λ e. refl
    | Some kind ↦ λ e. rw (held kind e) refl
  ] refl

  pub reserved_free : (n : ℕ) → tally (is_free_in n) o ≡ tally (is_free_in n) (put a (Some id) k o) + tally (in_account a n) k
  reserved_free n = elim k as (λ x. k ≡ x → tally (is_free_in n) o ≡ tally (is_free_in n) (put a (Some id) x o) + tally (in_account a n) x) [
    | None ↦ λ e. omega arith
    | Some kind ↦ λ e. rw (held kind e) (free (eqb a n))
  ] refl
    where
      free : (t : Bool) → cond (t && true) 1 0 ≡ cond (t && false) 1 0 + cond t 1 0
      free true = refl
      free false = refl

  pub reserved_reserves : (q : TransactionId) → reserves q (put a (Some id) k o) ≡ cond (same_id id q) (reserves q o || is_some k) (reserves q o)
  reserved_reserves q = elim k as (λ x. k ≡ x → reserves q (put a (Some id) x o) ≡ cond (same_id id q) (reserves q o || is_some x) (reserves q o)) [
    | None ↦ λ e. none (same_id id q) (reserves q o)
    | Some kind ↦ λ e. rw (held kind e) (some (same_id id q))
  ] refl
    where
      none : (s t : Bool) → t ≡ cond s (t || false) t
      none true true = refl
      none true false = refl
      none false t = refl

      some : (s : Bool) → s ≡ cond s true false
      some true = refl
      some false = refl

  pub reserved_share : (n : ℕ) (q : TransactionId) → tally (is_share n q) (put a (Some id) k o) ≡ tally (is_share n q) o + tally (λ (x : Kind). eqb a n && same_id id q) k
  reserved_share n q = elim k as (λ x. k ≡ x → tally (is_share n q) (put a (Some id) x o) ≡ tally (is_share n q) o + tally (λ (x : Kind). eqb a n && same_id id q) x) [
    | None ↦ λ e. omega arith
    | Some kind ↦ λ e. rw (held kind e) (share (eqb a n) (same_id id q))
  ] refl
    where
      share : (s t : Bool) → cond (s && t) 1 0 ≡ cond (s && false) 1 0 + cond (s && t) 1 0
      share true true = refl
      share true false = refl
      share false t = refl
