-- The tables of holdings beside their unit holdings stay in step with them through each change. Each call is seen unit
-- by unit (`OneUnit`); the counts follow by `Counts.counts_add`, where a list of blocks counts as the map from units to
-- kinds that it means.
use Rattle.std.proofs.Common.{◌≡◌, ◌⊎◌, ℕ, ◌+◌, ◌-◌, ◌^◌, ◌<◌, ◌≤◌, List, [], ◌∷◌, ◌++◌, Bool, true, false, ◌&&◌, ◌||◌, true≢false, cond, eqb, Option, Some, None, IsSome, is_some, refl, sym, ap, ◌∙◌, subst, arith, inl, inr}
use Rattle.std.specs.BTreeMap as tree
use Rattle.std.specs.BTreeMap.{BTreeMap}
use Rattle.std.specs.FinMap.{FinMap, get}
use Rattle.std.specs.Option.{option_map}
use Rattle.std.specs.Ordering.{nat_cmp}
use Rattle.std.proofs.Math.Bool.{and-true, and-false}
use Rattle.std.proofs.lemmas.Bool.{cases_Bool, eqb-true, eq-eqb}
use Rattle.std.proofs.lemmas.List.Folds.{list_any-append}
use Rattle.std.proofs.lemmas.List.Sums.{sum_by-append, sum_by-cons}
use Rattle.units.specs.Apart.{AllApart}
use Rattle.units.specs.Intervals.{labels_of}
use Rattle.units.specs.Keys.{unit_cmp}
use Rattle.units.specs.Limits.{last_unit}
use Rattle.units.specs.Unit.{has_unit, covers}
use Rattle.units.specs.declared.block.Block.{Block}
use Rattle.units.specs.declared.block.Kind.{Kind}
use Rattle.units.specs.declared.block.Unit.{Unit as Serial}
use Rattle.units.proofs.Walking.{number_of}
use Rattle.status.specs.Id.{id_cmp, same_id}
use Rattle.status.specs.declared.id.TransactionId.{TransactionId}
use Rattle.status.proofs.Ids.{id_of_same, same_id-refl}
use Rattle.accounts.specs.Holdings.{is_free_in, is_reserved_by, kind_in, released}
use Rattle.accounts.specs.Reservations.{AreGiven}
use Rattle.accounts.specs.Tables.{blocks_in, shares_in, free_in, held_in, held_at, free_at, with_units, with_fewer_free, with_more_free, with_fewer, units_in, share_of, blocks_of, shares_of, unit_holding_in, UnitHoldings, is_in, is_share, reserves, IsListed, AreInRange, AreInStep}
use Rattle.accounts.specs.declared.account.Account.{Account}
use Rattle.accounts.specs.declared.unit_holding.UnitHolding.{UnitHolding}
use Rattle.accounts.specs.declared.reservation.Reservation.{Reservation}
use Rattle.accounts.specs.declared.reservation.Share.{Share}
use Rattle.accounts.proofs.AccountStatuses.{turned}
use Rattle.accounts.proofs.Counts.{tally}
use Rattle.accounts.proofs.Parts.{intervals_of, kinds_counted, get_kinds, kind_found, kind_covered, apart_append}
use Rattle.accounts.proofs.OneUnit.{released_reserves, released_in, released_free, released_share, others, taken_reserves, taken_in, taken_free, taken_share, put, in_account, credited_in, credited_free, credited_reserves, credited_share, reserved_in, reserved_free, reserved_reserves, reserved_share}
use Rattle.accounts.proofs.Shares.{left}
use Rattle.accounts.proofs.UnitHoldingCounts.{count, adds, same, nothing, count_bound, shares_within}

-- ---- a transaction's reservation is let go

module _ (accounts accounts' : BTreeMap ℕ Account) (unit_holdings unit_holdings' : UnitHoldings) (res res' : BTreeMap TransactionId Reservation) (id : TransactionId) (kept : AreInStep accounts unit_holdings res)
    (gone : (q : TransactionId) → tree.get id_cmp res' q ≡ cond (same_id id q) None (tree.get id_cmp res q)) where
  no_blocks : (q : TransactionId) → same_id id q ≡ true → blocks_of res' q ≡ []
  no_blocks q e = ap blocks_in (gone q ∙ ap (λ t. cond t None (tree.get id_cmp res q)) e)

  no_shares : (q : TransactionId) → same_id id q ≡ true → shares_of res' q ≡ []
  no_shares q e = ap shares_in (gone q ∙ ap (λ t. cond t None (tree.get id_cmp res q)) e)

  other_blocks : (q : TransactionId) → same_id id q ≡ false → blocks_of res' q ≡ blocks_of res q
  other_blocks q e = ap blocks_in (gone q ∙ ap (λ t. cond t None (tree.get id_cmp res q)) e)

  other_shares : (q : TransactionId) → same_id id q ≡ false → shares_of res' q ≡ shares_of res q
  other_shares q e = ap shares_in (gone q ∙ ap (λ t. cond t None (tree.get id_cmp res q)) e)

  let_go : ((q : TransactionId) (s : Serial) → reserves q (get unit_holdings' s) ≡ cond (same_id id q) false (reserves q (get unit_holdings s)))
      → ((n : ℕ) (q : TransactionId) (s : Serial) → tally (is_share n q) (get unit_holdings' s) ≡ cond (same_id id q) 0 (tally (is_share n q) (get unit_holdings s)))
      → (q : TransactionId) → IsListed unit_holdings' q (blocks_of res' q) (shares_of res' q)
  let_go by_unit by_share q = elim (cases_Bool (same_id id q)) [
    | inl yes' ↦ record {
      exact = λ s. by_unit q s ∙ ap (λ t. cond t false (reserves q (get unit_holdings s))) yes' ∙ ap (λ bs. covers bs s) (sym (no_blocks q yes'));
      apart = subst AllApart (sym (no_blocks q yes')) tt;
      shared = λ n.
          ap (λ ss. share_of ss n) (no_shares q yes')
          ∙ sym (nothing (is_share n q) unit_holdings' (λ s. by_share n q s ∙ ap (λ t. cond t 0 (tally (is_share n q) (get unit_holdings s))) yes'));
    }
    | inr no' ↦ record {
      exact = λ s. by_unit q s ∙ ap (λ t. cond t false (reserves q (get unit_holdings s))) no' ∙ (kept.listed q).exact s ∙ ap (λ bs. covers bs s) (sym (other_blocks q no'));
      apart = subst AllApart (sym (other_blocks q no')) (kept.listed q).apart;
      shared = λ n.
          ap (λ ss. share_of ss n) (other_shares q no')
          ∙ (kept.listed q).shared n
          ∙ same (is_share n q) (is_share n q) unit_holdings unit_holdings' (λ s. sym (by_share n q s ∙ ap (λ t. cond t 0 (tally (is_share n q) (get unit_holdings s))) no'));
    }
  ]

freed_held : (m : ℕ) (o : Option Account) → held_in (option_map (with_more_free m) o) ≡ held_in o
freed_held m None = refl
freed_held m (Some a) = refl

freed_free : (m : ℕ) (o : Option Account) → m ≤ held_in o → free_in (option_map (with_more_free m) o) ≡ free_in o + m
freed_free m None le = omega arith
freed_free m (Some a) le = refl

fewer_free : (m : ℕ) (o : Option Account) → free_in (option_map (with_fewer m) o) ≡ free_in o
fewer_free m None = refl
fewer_free m (Some a) = refl

module _ (accounts : BTreeMap ℕ Account) (unit_holdings : UnitHoldings) (res : BTreeMap TransactionId Reservation) (id : TransactionId) (kept : AreInStep accounts unit_holdings res) where
  -- a unit that is held is reserved by others or by none, or is in the blocks
  pub reserved_in_blocks : (s : Serial) (unit_holding : UnitHolding) → get unit_holdings s ≡ Some unit_holding → (is_reserved_by id unit_holding ≡ false) ⊎ (covers (blocks_of res id) s ≡ true)
  reserved_in_blocks s unit_holding e = elim (cases_Bool (is_reserved_by id unit_holding)) [
    | inl yes' ↦ inr (sym ((kept.listed id).exact s) ∙ ap (reserves id) e ∙ yes')
    | inr no' ↦ inl no'
  ]

  -- no account has fewer units than the transaction reserves of it
  pub share_held : (n : ℕ) → share_of (shares_of res id) n ≤ held_at accounts n
  share_held n =
      let shared = (kept.listed id).shared n in
      let held = kept.counted.held n in
      let within = shares_within n id unit_holdings in
      omega (arith, shared, held, within)

  module _ (unit_holdings' : UnitHoldings) (changed : (s : Serial) → get unit_holdings' s ≡ option_map (released id) (get unit_holdings s)) where
    some_before : (o : Option UnitHolding) → IsSome (option_map (released id) o) → IsSome o
    some_before None h = h
    some_before (Some x) h = refl

    range' : AreInRange unit_holdings'
    range' s h = kept.in_range s (some_before (get unit_holdings s) (ap is_some (sym (changed s)) ∙ h))

    free_after : (n : ℕ) → count (is_free_in n) unit_holdings' ≡ count (is_free_in n) unit_holdings + count (is_share n id) unit_holdings
    free_after n = adds (is_free_in n) (is_free_in n) (is_share n id) unit_holdings' unit_holdings unit_holdings (λ s. ap (tally (is_free_in n)) (changed s) ∙ released_free id n (get unit_holdings s))

    -- the freed units have room
    pub freed_fits : (n : ℕ) → free_at accounts n + share_of (shares_of res id) n < 2 ^ 64
    freed_fits n =
        let after = free_after n in
        let bound = count_bound (is_free_in n) unit_holdings' range' in
        let free = kept.counted.free n in
        let shared = (kept.listed id).shared n in
        omega (arith, after, bound, free, shared)

    pub kept_released : (accounts' : BTreeMap ℕ Account) (res' : BTreeMap TransactionId Reservation)
        → ((q : TransactionId) → tree.get id_cmp res' q ≡ cond (same_id id q) None (tree.get id_cmp res q))
        → ((n : ℕ) → tree.get nat_cmp accounts' n ≡ option_map (with_more_free (share_of (shares_of res id) n)) (tree.get nat_cmp accounts n))
        → AreInStep accounts' unit_holdings' res'
    kept_released accounts' res' gone freed = record {
      counted = record {
        held = λ n.
            ap held_in (freed n) ∙ freed_held (share_of (shares_of res id) n) (tree.get nat_cmp accounts n)
            ∙ kept.counted.held n
            ∙ same (is_in n) (is_in n) unit_holdings unit_holdings' (λ s. sym (ap (tally (is_in n)) (changed s) ∙ released_in id n (get unit_holdings s)));
        free = λ n.
            ap free_in (freed n) ∙ freed_free (share_of (shares_of res id) n) (tree.get nat_cmp accounts n) (share_held n)
            ∙ ap (λ m. m + share_of (shares_of res id) n) (kept.counted.free n)
            ∙ ap (λ m. count (is_free_in n) unit_holdings + m) ((kept.listed id).shared n)
            ∙ sym (free_after n);
      };
      listed = let_go accounts accounts' unit_holdings unit_holdings' res res' id kept gone
          (λ q s. ap (reserves q) (changed s) ∙ released_reserves id q (get unit_holdings s))
          (λ n q s. ap (tally (is_share n q)) (changed s) ∙ released_share id n q (get unit_holdings s));
      in_range = range';
    }

  module _ (unit_holdings' : UnitHoldings) (changed : (s : Serial) → get unit_holdings' s ≡ others id (get unit_holdings s)) where
    some_left : (o : Option UnitHolding) → IsSome (others id o) → IsSome o
    some_left None h = h
    some_left (Some x) h = refl

    held_after : (n : ℕ) → count (is_in n) unit_holdings ≡ count (is_in n) unit_holdings' + count (is_share n id) unit_holdings
    held_after n = adds (is_in n) (is_in n) (is_share n id) unit_holdings unit_holdings' unit_holdings (λ s. taken_in id n (get unit_holdings s) ∙ ap (λ o. tally (is_in n) o + tally (is_share n id) (get unit_holdings s)) (sym (changed s)))

    pub kept_removed : (accounts' : BTreeMap ℕ Account) (res' : BTreeMap TransactionId Reservation)
        → ((q : TransactionId) → tree.get id_cmp res' q ≡ cond (same_id id q) None (tree.get id_cmp res q))
        → ((n : ℕ) → tree.get nat_cmp accounts' n ≡ option_map (with_fewer (share_of (shares_of res id) n)) (tree.get nat_cmp accounts n))
        → AreInStep accounts' unit_holdings' res'
    kept_removed accounts' res' gone taken = record {
      counted = record {
        held = λ n.
            let now = ap held_in (taken n) ∙ left (share_of (shares_of res id) n) (tree.get nat_cmp accounts n) in
            let before = kept.counted.held n in
            let after = held_after n in
            let shared = (kept.listed id).shared n in
            omega (arith, now, before, after, shared);
        free = λ n.
            ap free_in (taken n) ∙ fewer_free (share_of (shares_of res id) n) (tree.get nat_cmp accounts n)
            ∙ kept.counted.free n
            ∙ same (is_free_in n) (is_free_in n) unit_holdings unit_holdings' (λ s. sym (ap (tally (is_free_in n)) (changed s) ∙ taken_free id n (get unit_holdings s)));
      };
      listed = let_go accounts accounts' unit_holdings unit_holdings' res res' id kept gone
          (λ q s. ap (reserves q) (changed s) ∙ taken_reserves id q (get unit_holdings s))
          (λ n q s. ap (tally (is_share n q)) (changed s) ∙ taken_share id n q (get unit_holdings s));
      in_range = λ s h. kept.in_range s (some_left (get unit_holdings s) (ap is_some (sym (changed s)) ∙ h));
    }

-- ---- units are put into an account

same_number : (n : ℕ) → eqb n n ≡ true
same_number n = eq-eqb n n refl

more_held : (t : Bool) (m : ℕ) (o : Option Account) → (t ≡ true → IsSome o) → held_in (cond t (option_map (with_units m) o) o) ≡ held_in o + cond t m 0
more_held true m None known = absurd (true≢false (sym (known refl)))
more_held true m (Some a) known = refl
more_held false m o known = omega arith

more_free : (t : Bool) (m : ℕ) (o : Option Account) → (t ≡ true → IsSome o) → free_in (cond t (option_map (with_units m) o) o) ≡ free_in o + cond t m 0
more_free true m None known = absurd (true≢false (sym (known refl)))
more_free true m (Some a) known = refl
more_free false m o known = omega arith

in_blocks : (blocks : List Block) (s : Serial) (k : Kind) → kind_in blocks s ≡ Some k → s.number ≤ last_unit
in_blocks blocks s k e =
    let w = kind_found blocks s k e in
    let range = w.0.in_range in
    let high = (number_of w.0.raw s w.1.has).1 in
    omega (arith, range, high)

module _ (accounts : BTreeMap ℕ Account) (unit_holdings : UnitHoldings) (res : BTreeMap TransactionId Reservation) (kept : AreInStep accounts unit_holdings res) (a : ℕ) (blocks : List Block) (apart : AllApart blocks) (unit_holdings' : UnitHoldings) where
  kinds : FinMap unit_cmp Kind
  kinds = labels_of (intervals_of blocks)

  range_put : (r : Option TransactionId) → ((s : Serial) → get unit_holdings' s ≡ put a r (kind_in blocks s) (get unit_holdings s)) → AreInRange unit_holdings'
  range_put r changed s h = elim (kind_in blocks s) as (λ k. kind_in blocks s ≡ k → IsSome (put a r k (get unit_holdings s)) → s.number ≤ last_unit) [
    | None ↦ λ e i. kept.in_range s i
    | Some k ↦ λ e i. in_blocks blocks s k e
  ] refl (ap is_some (sym (changed s)) ∙ h)

  abbrev Credited : Type 0
  Credited = (s : Serial) → get unit_holdings' s ≡ put a None (kind_in blocks s) (get unit_holdings s)

  abbrev Absent : Type 0
  Absent = (s : Serial) (k : Kind) → kind_in blocks s ≡ Some k → get unit_holdings s ≡ None

  held_credited : Credited → Absent → (n : ℕ) → count (is_in n) unit_holdings' ≡ count (is_in n) unit_holdings + cond (eqb a n) (units_in blocks) 0
  unfolding kinds
  held_credited changed absent n =
      adds (is_in n) (is_in n) (in_account a n) unit_holdings' unit_holdings kinds (λ s. ap (tally (is_in n)) (changed s) ∙ credited_in a (kind_in blocks s) (get unit_holdings s) (absent s) n ∙ ap (λ k. tally (is_in n) (get unit_holdings s) + tally (in_account a n) k) (sym (get_kinds blocks s)))
      ∙ ap (λ m. count (is_in n) unit_holdings + m) (kinds_counted blocks apart (eqb a n))

  free_credited : Credited → Absent → (n : ℕ) → count (is_free_in n) unit_holdings' ≡ count (is_free_in n) unit_holdings + cond (eqb a n) (units_in blocks) 0
  unfolding kinds
  free_credited changed absent n =
      adds (is_free_in n) (is_free_in n) (in_account a n) unit_holdings' unit_holdings kinds (λ s. ap (tally (is_free_in n)) (changed s) ∙ credited_free a (kind_in blocks s) (get unit_holdings s) (absent s) n ∙ ap (λ k. tally (is_free_in n) (get unit_holdings s) + tally (in_account a n) k) (sym (get_kinds blocks s)))
      ∙ ap (λ m. count (is_free_in n) unit_holdings + m) (kinds_counted blocks apart (eqb a n))

  all_here : cond (eqb a a) (units_in blocks) 0 ≡ units_in blocks
  all_here = ap (λ t. cond t (units_in blocks) 0) (same_number a)

  -- there is room in the account's counts
  pub held_fits : Credited → Absent → held_at accounts a + units_in blocks < 2 ^ 64
  held_fits changed absent =
      let after = held_credited changed absent a in
      let bound = count_bound (is_in a) unit_holdings' (range_put None changed) in
      let held = kept.counted.held a in
      let here = all_here in
      omega (arith, after, bound, held, here)

  pub free_fits : Credited → Absent → free_at accounts a + units_in blocks < 2 ^ 64
  free_fits changed absent =
      let after = free_credited changed absent a in
      let bound = count_bound (is_free_in a) unit_holdings' (range_put None changed) in
      let free = kept.counted.free a in
      let here = all_here in
      omega (arith, after, bound, free, here)

  pub kept_credited : Credited → Absent → IsSome (tree.get nat_cmp accounts a) → (accounts' : BTreeMap ℕ Account)
      → ((n : ℕ) → tree.get nat_cmp accounts' n ≡ cond (eqb n a) (option_map (with_units (units_in blocks)) (tree.get nat_cmp accounts n)) (tree.get nat_cmp accounts n))
      → AreInStep accounts' unit_holdings' res
  kept_credited changed absent known accounts' more =
      let there = λ (n : ℕ) (e : eqb n a ≡ true). ap (λ m. is_some (tree.get nat_cmp accounts m)) (eqb-true n a e) ∙ known in
      record {
        counted = record {
          held = λ n.
              let now = ap held_in (more n) ∙ more_held (eqb n a) (units_in blocks) (tree.get nat_cmp accounts n) (there n) ∙ ap (λ t. held_at accounts n + cond t (units_in blocks) 0) (turned n a) in
              let before = kept.counted.held n in
              let after = held_credited changed absent n in
              omega (arith, now, before, after);
          free = λ n.
              let now = ap free_in (more n) ∙ more_free (eqb n a) (units_in blocks) (tree.get nat_cmp accounts n) (there n) ∙ ap (λ t. free_at accounts n + cond t (units_in blocks) 0) (turned n a) in
              let before = kept.counted.free n in
              let after = free_credited changed absent n in
              omega (arith, now, before, after);
        };
        listed = λ q. record {
          exact = λ s. ap (reserves q) (changed s) ∙ credited_reserves a (kind_in blocks s) (get unit_holdings s) (absent s) q ∙ (kept.listed q).exact s;
          apart = (kept.listed q).apart;
          shared = λ n. (kept.listed q).shared n ∙ same (is_share n q) (is_share n q) unit_holdings unit_holdings' (λ s. sym (ap (tally (is_share n q)) (changed s) ∙ credited_share a (kind_in blocks s) (get unit_holdings s) (absent s) n q));
        };
        in_range = range_put None changed;
      }

  -- ---- units are reserved

  module _ (id : TransactionId) where
    abbrev Reserved : Type 0
    Reserved = (s : Serial) → get unit_holdings' s ≡ put a (Some id) (kind_in blocks s) (get unit_holdings s)

    abbrev AreFree : Type 0
    AreFree = (s : Serial) (k : Kind) → kind_in blocks s ≡ Some k → get unit_holdings s ≡ Some (unit_holding_in a None k)

    free_reserved : Reserved → AreFree → (n : ℕ) → count (is_free_in n) unit_holdings ≡ count (is_free_in n) unit_holdings' + cond (eqb a n) (units_in blocks) 0
    unfolding kinds
    free_reserved changed free n =
        adds (is_free_in n) (is_free_in n) (in_account a n) unit_holdings unit_holdings' kinds (λ s.
        reserved_free a id (kind_in blocks s) (get unit_holdings s) (free s) n
        ∙ ap (λ o. tally (is_free_in n) o + tally (in_account a n) (kind_in blocks s)) (sym (changed s))
        ∙ ap (λ k. tally (is_free_in n) (get unit_holdings' s) + tally (in_account a n) k) (sym (get_kinds blocks s)))
        ∙ ap (λ m. count (is_free_in n) unit_holdings' + m) (kinds_counted blocks apart (eqb a n))

    share_reserved : Reserved → AreFree → (n : ℕ) (q : TransactionId) → count (is_share n q) unit_holdings' ≡ count (is_share n q) unit_holdings + cond (eqb a n && same_id id q) (units_in blocks) 0
    unfolding kinds
    share_reserved changed free n q =
        adds (is_share n q) (is_share n q) (λ k. eqb a n && same_id id q) unit_holdings' unit_holdings kinds (λ s.
        ap (tally (is_share n q)) (changed s)
        ∙ reserved_share a id (kind_in blocks s) (get unit_holdings s) (free s) n q
        ∙ ap (λ k. tally (is_share n q) (get unit_holdings s) + tally (λ (x : Kind). eqb a n && same_id id q) k) (sym (get_kinds blocks s)))
        ∙ ap (λ m. count (is_share n q) unit_holdings + m) (kinds_counted blocks apart (eqb a n && same_id id q))

    -- the account has that many free units
    pub enough_free : Reserved → AreFree → units_in blocks ≤ free_at accounts a
    enough_free changed free =
        let split = free_reserved changed free a in
        let before = kept.counted.free a in
        let here = all_here in
        omega (arith, split, before, here)

    less_held : (t : Bool) (m : ℕ) (o : Option Account) → held_in (cond t (option_map (with_fewer_free m) o) o) ≡ held_in o
    less_held true m None = refl
    less_held true m (Some x) = refl
    less_held false m o = refl

    less_free : (t : Bool) (m : ℕ) (o : Option Account) → free_in (cond t (option_map (with_fewer_free m) o) o) ≡ free_in o - cond t m 0
    less_free true m None = omega arith
    less_free true m (Some x) = refl
    less_free false m o = omega arith

    -- a unit that the transaction reserves isn't free
    not_both : AreFree → (s : Serial) → covers (blocks_of res id) s ≡ true → covers blocks s ≡ true → ⊥
    not_both free s h e = elim (kind_in blocks s) as (λ k. kind_in blocks s ≡ k → is_some k ≡ true → ⊥) [
      | None ↦ λ k i. true≢false (sym i)
      | Some kind ↦ λ k i. true≢false (sym h ∙ sym ((kept.listed id).exact s) ∙ ap (reserves id) (free s kind k))
    ] refl (kind_covered blocks s ∙ e)

    module _ (res' : BTreeMap TransactionId Reservation) (given : AreGiven id (blocks_of res id ++ blocks) (shares_of res id ++ record { account = a; count = units_in blocks } ∷ []) res res') where
      listed_here : Reserved → AreFree → IsListed unit_holdings' id (blocks_of res' id) (shares_of res' id)
      listed_here changed free = record {
        exact = λ s.
            ap (reserves id) (changed s)
            ∙ reserved_reserves a id (kind_in blocks s) (get unit_holdings s) (free s) id
            ∙ ap (λ t. cond t (reserves id (get unit_holdings s) || is_some (kind_in blocks s)) (reserves id (get unit_holdings s))) (same_id-refl id)
            ∙ ap (λ t. t || is_some (kind_in blocks s)) ((kept.listed id).exact s)
            ∙ ap (λ t. covers (blocks_of res id) s || t) (kind_covered blocks s)
            ∙ sym (list_any-append (λ (b : Block). has_unit b.raw s) (blocks_of res id) blocks)
            ∙ ap (λ bs. covers bs s) (sym given.blocks_are);
        apart = subst AllApart (sym given.blocks_are) (apart_append (blocks_of res id) blocks (kept.listed id).apart apart (not_both free));
        shared = λ n.
            let share : Share = record { account = a; count = units_in blocks } in
            let f = λ (x : Share). cond (eqb x.account n) x.count 0 in
            let all = ap (λ ss. share_of ss n) given.shares_are ∙ sum_by-append f (shares_of res id) (share ∷ []) in
            let one = sum_by-cons f share [] in
            let before = (kept.listed id).shared n in
            let after = share_reserved changed free n id ∙ ap (λ t. count (is_share n id) unit_holdings + cond (eqb a n && t) (units_in blocks) 0) (same_id-refl id) ∙ ap (λ t. count (is_share n id) unit_holdings + cond t (units_in blocks) 0) (and-true (eqb a n)) in
            omega (arith, all, one, before, after);
      }

      listed_other : Reserved → AreFree → (q : TransactionId) → same_id id q ≡ false → IsListed unit_holdings' q (blocks_of res' q) (shares_of res' q)
      listed_other changed free q other =
          let at = given.others q other in
          record {
            exact = λ s.
                ap (reserves q) (changed s)
                ∙ reserved_reserves a id (kind_in blocks s) (get unit_holdings s) (free s) q
                ∙ ap (λ t. cond t (reserves q (get unit_holdings s) || is_some (kind_in blocks s)) (reserves q (get unit_holdings s))) other
                ∙ (kept.listed q).exact s
                ∙ ap (λ bs. covers bs s) (sym (ap blocks_in at));
            apart = subst AllApart (sym (ap blocks_in at)) (kept.listed q).apart;
            shared = λ n.
                let all = ap (λ ss. share_of ss n) (ap shares_in at) in
                let before = (kept.listed q).shared n in
                let after = share_reserved changed free n q ∙ ap (λ t. count (is_share n q) unit_holdings + cond (eqb a n && t) (units_in blocks) 0) other ∙ ap (λ t. count (is_share n q) unit_holdings + cond t (units_in blocks) 0) (and-false (eqb a n)) in
                omega (arith, all, before, after);
          }

      pub kept_reserved : Reserved → AreFree → (accounts' : BTreeMap ℕ Account)
          → ((n : ℕ) → tree.get nat_cmp accounts' n ≡ cond (eqb n a) (option_map (with_fewer_free (units_in blocks)) (tree.get nat_cmp accounts n)) (tree.get nat_cmp accounts n))
          → AreInStep accounts' unit_holdings' res'
      kept_reserved changed free accounts' fewer = record {
        counted = record {
          held = λ n.
              ap held_in (fewer n) ∙ less_held (eqb n a) (units_in blocks) (tree.get nat_cmp accounts n)
              ∙ kept.counted.held n
              ∙ same (is_in n) (is_in n) unit_holdings unit_holdings' (λ s. sym (ap (tally (is_in n)) (changed s) ∙ reserved_in a id (kind_in blocks s) (get unit_holdings s) (free s) n));
          free = λ n.
              let now = ap free_in (fewer n) ∙ less_free (eqb n a) (units_in blocks) (tree.get nat_cmp accounts n) ∙ ap (λ t. free_at accounts n - cond t (units_in blocks) 0) (turned n a) in
              let before = kept.counted.free n in
              let split = free_reserved changed free n in
              omega (arith, now, before, split);
        };
        listed = λ q. elim (cases_Bool (same_id id q)) [
          | inl yes' ↦ subst (λ x. IsListed unit_holdings' x (blocks_of res' x) (shares_of res' x)) (id_of_same id q yes') (listed_here changed free)
          | inr no' ↦ listed_other changed free q no'
        ];
        in_range = range_put (Some id) changed;
      }

-- a table in which each transaction reserves the same
pub kept_same : (accounts : BTreeMap ℕ Account) (unit_holdings unit_holdings' : UnitHoldings) (res res' : BTreeMap TransactionId Reservation) (id : TransactionId) → AreInStep accounts unit_holdings res → unit_holdings' ≡ unit_holdings → AreGiven id (blocks_of res id) (shares_of res id) res res' → AreInStep accounts unit_holdings' res'
kept_same accounts unit_holdings unit_holdings' res res' id kept e given =
    subst (λ m. AreInStep accounts m res') (sym e) (record {
      counted = kept.counted;
      listed = λ q. record {
        exact = λ s. (kept.listed q).exact s ∙ ap (λ bs. covers bs s) (sym (blocks q));
        apart = subst AllApart (sym (blocks q)) (kept.listed q).apart;
        shared = λ n. ap (λ ss. share_of ss n) (shares q) ∙ (kept.listed q).shared n;
      };
      in_range = kept.in_range;
    })
  where
    blocks : (q : TransactionId) → blocks_of res' q ≡ blocks_of res q
    blocks q = elim (cases_Bool (same_id id q)) [
      | inl yes' ↦ subst (λ x. blocks_of res' x ≡ blocks_of res x) (id_of_same id q yes') given.blocks_are
      | inr no' ↦ ap blocks_in (given.others q no')
    ]

    shares : (q : TransactionId) → shares_of res' q ≡ shares_of res q
    shares q = elim (cases_Bool (same_id id q)) [
      | inl yes' ↦ subst (λ x. shares_of res' x ≡ shares_of res x) (id_of_same id q yes') given.shares_are
      | inr no' ↦ ap shares_in (given.others q no')
    ]

-- a transaction that reserves nothing
module _ (accounts : BTreeMap ℕ Account) (unit_holdings : UnitHoldings) (res : BTreeMap TransactionId Reservation) (id : TransactionId) (kept : AreInStep accounts unit_holdings res) (none : tree.get id_cmp res id ≡ None) where
  pub none_reserved : (s : Serial) → reserves id (get unit_holdings s) ≡ false
  none_reserved s = (kept.listed id).exact s ∙ ap (λ o. covers (blocks_in o) s) none

  pub kept_none : (res' : BTreeMap TransactionId Reservation) → ((q : TransactionId) → tree.get id_cmp res' q ≡ cond (same_id id q) None (tree.get id_cmp res q)) → AreInStep accounts unit_holdings res'
  kept_none res' gone = kept_same accounts unit_holdings unit_holdings res res' id kept refl (record {
    blocks_are = ap blocks_in (gone id ∙ ap (λ t. cond t None (tree.get id_cmp res id)) (same_id-refl id) ∙ sym none);
    shares_are = ap shares_in (gone id ∙ ap (λ t. cond t None (tree.get id_cmp res id)) (same_id-refl id) ∙ sym none);
    others = λ q other. gone q ∙ ap (λ t. cond t None (tree.get id_cmp res q)) other;
  })

-- what was added for a transaction and taken back
pub taken_back : (res res' res'' : BTreeMap TransactionId Reservation) (id : TransactionId) (blocks : List Block) (shares : List Share) → AreGiven id blocks shares res res' → AreGiven id (blocks_of res id) (shares_of res id) res' res'' → AreGiven id (blocks_of res id) (shares_of res id) res res''
taken_back res res' res'' id blocks shares given back = record { blocks_are = back.blocks_are; shares_are = back.shares_are; others = λ q other. back.others q other ∙ given.others q other }

-- nothing held, nothing reserved
pub kept_empty : (accounts : BTreeMap ℕ Account) (unit_holdings : UnitHoldings) (res : BTreeMap TransactionId Reservation) → ((n : ℕ) → (held_at accounts n ≡ 0) × (free_at accounts n ≡ 0)) → ((s : Serial) → get unit_holdings s ≡ None) → ((q : TransactionId) → tree.get id_cmp res q ≡ None) → AreInStep accounts unit_holdings res
kept_empty accounts unit_holdings res zero' none empty' = record {
  counted = record {
    held = λ n. (zero' n).0 ∙ sym (nothing (is_in n) unit_holdings (λ s. ap (tally (is_in n)) (none s)));
    free = λ n. (zero' n).1 ∙ sym (nothing (is_free_in n) unit_holdings (λ s. ap (tally (is_free_in n)) (none s)));
  };
  listed = λ q.
      let at = empty' q in
      record {
        exact = λ s. ap (reserves q) (none s) ∙ ap (λ o. covers (blocks_in o) s) (sym at);
        apart = subst (λ o. AllApart (blocks_in o)) (sym at) tt;
        shared = λ n. ap (λ o. share_of (shares_in o) n) at ∙ sym (nothing (is_share n q) unit_holdings (λ s. ap (tally (is_share n q)) (none s)));
      };
  in_range = λ s h. absurd (true≢false (sym h ∙ ap is_some (none s)));
}
