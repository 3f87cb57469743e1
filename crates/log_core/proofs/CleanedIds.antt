-- The transactions that a clean-up cancels, read off the set of those that stand Checked: they are those of its front,
-- up to the first one that hasn't stood Checked for a day, and no two of these are of one transaction.
use Rattle.std.proofs.Common.{List, Ordering, [], ap, arith, false, get_or, inl, inr, map, refl, subst, sym, true, ℕ, ◌++◌, ◌+◌, ◌∙◌, ◌∷◌, ◌≡◌, ◌≤◌}
use Rattle.std.specs.BTreeMap.{is_at}
use Rattle.std.specs.BTreeSet.{IsOrdered}
use Rattle.std.specs.Cmp.{IsTotalOrder}
use Rattle.std.specs.List.{AllByRecursion, IsDistinct, list_any}
use Rattle.std.specs.List.Sorted.{IsSorted, IsStrictlySortedBy}
use Rattle.std.specs.Ordering.{nat_cmp, ordering_reverse}
use Rattle.std.specs.Prelude.{IsPermutation}
use Rattle.std.specs.declared.cmp.Ordering.TheVariants.{Greater, Less}
use Rattle.std.proofs.lemmas.Bool.{false_from_ne_true}
use Rattle.std.proofs.lemmas.List.Sorted.{Contains-permutation, IsPermutation-sym}
use Rattle.std.proofs.lemmas.Map.Keys.{IsDistinct-IsPermutation, apart_from_distinct}
use Rattle.std.proofs.lemmas.Map.Lookups.{CmpEqualImpliesEq, exact_pairs, exact_unsigned}
use Rattle.units.specs.Apart.{Pairwise}
use Rattle.units.specs.Limits.{clean_up_age}
use Rattle.units.specs.declared.code.Node.TheVariants.{Itl}
use Rattle.status.proofs.IdOrder.{exact_ids, ids_total}
use Rattle.status.proofs.Ids.{id_of_same, same_id-refl}
use Rattle.status.specs.Id.{id_cmp, same_id}
use Rattle.status.specs.declared.id.TransactionId.{TransactionId}
use Rattle.status.specs.declared.moment.Moment.{Moment}
use Rattle.wire.proofs.OneRecord.{moment_same}
use Rattle.wire.specs.declared.input.Input.{Input}
use Rattle.scheme.proofs.Climbs.{all_from_neighbours}
use Rattle.scheme.specs.declared.registries.Scheme.{Scheme}
use Rattle.protocol.specs.AtLog as log
use Rattle.protocol.specs.History.{Entry, Transition, newest, transitions_of}
use Rattle.protocol.specs.Verdict.{history}
use Rattle.units.proofs.Lists.Comparisons.{compared_then}
use Rattle.units.proofs.Lists.Membership.{In, In_cases, In_left, In_map, map_In}
use Rattle.units.proofs.Lists.OneValue.{clash, one_some}
use Rattle.units.proofs.Lists.Positions.{In_contains, contains_in}
use Rattle.units.proofs.Lists.SomePass.{list_any_in, list_any_some}
use Rattle.units.proofs.UnitLines.{own_reverse, eq_true}
use Rattle.safety.proofs.MovesAndHistories.LongerHistories.{made_history}
use Rattle.safety.proofs.MovesAndHistories.NewestTransitions.{Made, newest_id}
use Rattle.safety.proofs.MovesAndHistories.TableMoves.{LogMove, cancels, checks, forestalls, passes}
use Rattle.safety.proofs.OneLog.LogInputs.{each_log_move}
use Rattle.log_core.specs.Kept.{IsKept, waiting_cmp}
use Rattle.log_core.specs.Readings.{is_checked_since}
use Rattle.log_core.specs.contracts.waiting.WaitingOrd.TheImpl.Laws.{total-law as waiting-total}
use Rattle.log_core.specs.declared.tables.Tables.{Tables}
use Rattle.log_core.specs.declared.waiting.Waiting.{Waiting}
use Rattle.safety.proofs.OneLog.CleanedInOrder.{ids_turned}
use Rattle.log_core.proofs.CancelledTransactions.{same_id_sym}
use Rattle.log_core.proofs.CleanedUp.{HasExpired, checked_newest, expired_so}
use Rattle.log_core.proofs.KnownEffects.{all_in}

-- it has stood Checked for a day at that moment
abbrev pub IsAged : ℕ → Waiting → Type 0
IsAged moment w = w.since.seconds + clean_up_age ≤ moment

-- ---- the order of the set

waiting_total : IsTotalOrder waiting_cmp
waiting_total = waiting-total

waiting_same : (a b : Waiting) → a.since.seconds ≡ b.since.seconds → a.id ≡ b.id → a ≡ b
waiting_same a b seconds id = let since = moment_same a.since b.since seconds in λ i. record { since = since i; id = id i }

exact_waiting : CmpEqualImpliesEq waiting_cmp
exact_waiting a b h =
    let k = exact_pairs nat_cmp id_cmp exact_unsigned exact_ids (a.since.seconds, a.id) (b.since.seconds, b.id) h in
    waiting_same a b (ap (λ x. x.0) k) (ap (λ x. x.1) k)

earlier : (a b : Waiting) → waiting_cmp a b ≡ Less → a.since.seconds ≤ b.since.seconds
earlier a b =
    compared_then (λ r. r ≡ Less → a.since.seconds ≤ b.since.seconds) a.since.seconds b.since.seconds (id_cmp a.id b.id) (λ l h. omega arith) (λ e h. omega arith) (λ g h. absurd (cc (h)))

not_before_itself : (a : Waiting) → waiting_cmp a a ≡ Less → ⊥
not_before_itself a h = let turned : Less ≡ Greater = sym h ∙ waiting_total.antisymm a a ∙ ap ordering_reverse h in cc (turned)

in_contains : (keys : List Waiting) (w : Waiting) → In w keys → list_any (is_at (waiting_cmp w)) keys ≡ true
in_contains keys w i = list_any_in (is_at (waiting_cmp w)) keys w i (own_reverse (waiting_cmp w w) (waiting_total.antisymm w w))

contains_is_in : (keys : List Waiting) (w : Waiting) → list_any (is_at (waiting_cmp w)) keys ≡ true → In w keys
contains_is_in keys w h =
    let k = list_any_some (is_at (waiting_cmp w)) keys h in
    subst (λ z. In z keys) (sym (exact_waiting w k.0 (eq_true (waiting_cmp w k.0) k.2))) k.1

-- ---- lists in order, in two parts

module _ {K : Type 0} (cmp : K → K → Ordering) where
  sorted_right : (front rest : List K) → IsStrictlySortedBy cmp (front ++ rest) → IsStrictlySortedBy cmp rest
  unfolding IsStrictlySortedBy
  sorted_right [] rest h = h
  sorted_right (x ∷ xs) rest h = sorted_right xs rest h.1

  sorted_left : (front rest : List K) → IsStrictlySortedBy cmp (front ++ rest) → IsStrictlySortedBy cmp front
  unfolding IsStrictlySortedBy
  sorted_left [] rest h = tt
  sorted_left (x ∷ xs) rest h = (below x xs rest h.0, sorted_left xs rest h.1)
    where
      below : (x : K) (ys zs : List K) → AllByRecursion (λ z. cmp x z ≡ Less) (ys ++ zs) → AllByRecursion (λ z. cmp x z ≡ Less) ys
      below x [] zs g = tt
      below x (y ∷ ys) zs g = (g.0, below x ys zs g.1)

  first_below : (x : K) (xs : List K) (y : K) → IsStrictlySortedBy cmp (x ∷ xs) → In y xs → cmp x y ≡ Less
  unfolding IsStrictlySortedBy
  first_below x xs y h i = all_in (λ z. cmp x z ≡ Less) xs y h.0 i

  sorted_tail : (x : K) (xs : List K) → IsStrictlySortedBy cmp (x ∷ xs) → IsStrictlySortedBy cmp xs
  unfolding IsStrictlySortedBy
  sorted_tail x xs h = h.1

-- ---- identifiers without repeats

-- sorted without repeats, each is below all after it
pub ids_ascending : (ids : List TransactionId) → IsSorted id_cmp ids → IsDistinct same_id ids → Pairwise (λ a b. id_cmp a b ≡ Less) ids
ids_ascending ids sorted distinct =
    all_from_neighbours (λ a b. id_cmp a b ≡ Less) ids_total.trans ids
    (λ k d l.
    ids_turned (get_or ids (k + 1) d) (get_or ids k d) (sorted k d (omega arith) l)
    (λ same. clash (same_id (get_or ids k d) (get_or ids (k + 1) d)) (subst (λ u. same_id u (get_or ids (k + 1) d) ≡ true) same (same_id-refl (get_or ids (k + 1) d))) (apart_from_distinct same_id ids k (k + 1) d distinct (omega arith) l)))

-- ---- each transition of the log is of a moment

abbrev OfMoments : List Transition → Type 0
OfMoments xs = (x : Transition) → In x xs → (m : Moment) × (m.seconds ≡ x.moment)

module _ (scheme : Scheme) where
  move_moment : (es : List Entry) (input : Input) (x : Transition) → LogMove scheme es input x → (m : Moment) × (m.seconds ≡ x.moment)
  move_moment es input x (checks p moment found f s is none member) = (moment, refl)
  move_moment es input x (passes n moment q k new was content member right move) = (moment, refl)
  move_moment es input x (cancels given moment t q k why was content stood) = (moment, refl)
  move_moment es input x (forestalls r moment f member none) = (moment, refl)

  moments_more : (x : Transition) (xs : List Transition) → (m : Moment) × (m.seconds ≡ x.moment) → OfMoments xs → OfMoments (x ∷ xs)
  moments_more x xs m old y (inl e) = (m.0, m.1 ∙ ap (λ (z : Transition). z.moment) e)
  moments_more x xs m old y (inr i) = old y i

  of_moments : (es : List Entry) → Made scheme Itl es → OfMoments (transitions_of es)
  of_moments =
      each_log_move scheme OfMoments (λ x i. absurd i) (λ es input x made move old. moments_more x (transitions_of es) (move_moment es input x move) old)
      (λ es input x front made move gone all old new. moments_more x (front ++ transitions_of es) (move_moment es input x move) new)

-- ---- of the tables

module _ (scheme : Scheme) (tables : Tables) (kept : IsKept scheme tables) where
  abbrev xs : List Transition
  xs = transitions_of (history scheme Itl tables.records.inputs)

  made_so : Made scheme Itl (history scheme Itl tables.records.inputs)
  made_so = made_history scheme Itl tables.records.inputs

  since_so : (w : Waiting) → In w tables.checked.keys → is_checked_since xs w.since.seconds w.id ≡ true
  since_so w i = sym (kept.kept.checked w) ∙ in_contains tables.checked.keys w i

  -- a transaction is in the set once
  waiting_once : (a b : Waiting) → In a tables.checked.keys → In b tables.checked.keys → a.id ≡ b.id → a ≡ b
  waiting_once a b i j same =
      let x = checked_newest xs a.since.seconds a.id (since_so a i) in
      let y = checked_newest xs b.since.seconds b.id (since_so b j) in
      let one : x.0 ≡ y.0 = one_some x.0 y.0 (sym x.1 ∙ ap (newest xs) same ∙ y.1) in
      waiting_same a b (sym x.3 ∙ ap (λ (z : Transition). z.moment) one ∙ y.3) same

  distinct_ids : (front : List Waiting) → IsStrictlySortedBy waiting_cmp front → ((w : Waiting) → In w front → In w tables.checked.keys) → IsDistinct same_id (map (λ (w : Waiting). w.id) front)
  unfolding IsDistinct
  distinct_ids [] sorted inside = tt
  distinct_ids (w ∷ ws) sorted inside = (
    each_other ws (λ v i. false_from_ne_true (same_id w.id v.id) (λ y.
        let same = waiting_once w v (inside w (inl refl)) (inside v (inr i)) (id_of_same w.id v.id y) in
        not_before_itself w (subst (λ z. waiting_cmp w z ≡ Less) (sym same) (first_below waiting_cmp w ws v sorted i)))),
    distinct_ids ws (sorted_tail waiting_cmp w ws sorted) (λ v i. inside v (inr i)),
  )
    where
      each_other : (vs : List Waiting) → ((v : Waiting) → In v vs → same_id w.id v.id ≡ false) → AllByRecursion (λ t. same_id w.id t ≡ false) (map (λ (v : Waiting). v.id) vs)
      each_other [] h = tt
      each_other (v ∷ vs) h = (h v (inl refl), each_other vs (λ z i. h z (inr i)))

  module _ (moment : ℕ) (front rest : List Waiting) (parts : tables.checked.keys ≡ front ++ rest) (ordered : IsOrdered waiting_cmp tables.checked) (aged : AllByRecursion (IsAged moment) front)
      (young : (w : Waiting) (more : List Waiting) → rest ≡ w ∷ more → IsAged moment w → ⊥) where
    in_front : (w : Waiting) → In w front → In w tables.checked.keys
    in_front w i = subst (In w) (sym parts) (In_left w front rest i)

    front_expired : (t : TransactionId) → In t (map (λ (w : Waiting). w.id) front) → HasExpired xs moment t
    front_expired t i =
        let w = In_map (λ (z : Waiting). z.id) t front i in
        subst (HasExpired xs moment) w.2 (w.0.since.seconds, since_so w.0 (in_front w.0 w.1), all_in (IsAged moment) front w.0 aged w.1)

    -- an entry after the front has not stood Checked for a day
    behind : (ws : List Waiting) → rest ≡ ws → IsStrictlySortedBy waiting_cmp ws → (w : Waiting) → In w ws → IsAged moment w → ⊥
    behind [] e sorted w i old = i
    behind (v ∷ vs) e sorted w (inl same) old = young v vs e (subst (IsAged moment) (sym same) old)
    behind (v ∷ vs) e sorted w (inr i) old = let before = earlier v w (first_below waiting_cmp v vs w sorted i) in young v vs e (omega arith)

    expired_front : (t : TransactionId) → HasExpired xs moment t → In t (map (λ (w : Waiting). w.id) front)
    expired_front t h =
        let x = checked_newest xs h.0 t h.1 in
        let m = of_moments scheme (history scheme Itl tables.records.inputs) made_so x.0 (newest_id xs t x.0 x.1).0 in
        let seconds : m.0.seconds ≡ h.0 = m.1 ∙ x.3 in
        let w : Waiting = record { since = m.0; id = t } in
        let has = kept.kept.checked w ∙ subst (λ n. is_checked_since xs n t ≡ true) (sym seconds) h.1 in
        let old : IsAged moment w = subst (λ n. n + clean_up_age ≤ moment) (sym seconds) h.2 in
        elim (In_cases w front rest (subst (In w) parts (contains_is_in tables.checked.keys w has))) [
          | inl i ↦ map_In (λ (z : Waiting). z.id) w front i
          | inr i ↦ absurd (behind rest refl (sorted_right waiting_cmp front rest (subst (IsStrictlySortedBy waiting_cmp) parts ordered)) w i old)
        ]

    -- sorted, the identifiers of the front are those of the transitions
    pub expired_ids : (ids : List TransactionId) → IsPermutation (map (λ w. w.id) front) ids → IsSorted id_cmp ids → map (λ x. x.id) (log.expired (transitions_of (history scheme Itl tables.records.inputs)) moment) ≡ ids
    expired_ids ids moves sorted =
        let held = map (λ (w : Waiting). w.id) front in
        let distinct = IsDistinct-IsPermutation same_id same_id_sym held ids moves (distinct_ids front (sorted_left waiting_cmp front rest (subst (IsStrictlySortedBy waiting_cmp) parts ordered)) in_front) in
        expired_so scheme (history scheme Itl tables.records.inputs) made_so moment ids (ids_ascending ids sorted distinct)
        (λ t. (
          (λ has. front_expired t (In_contains held t (Contains-permutation ids held t (IsPermutation-sym held ids moves) has))),
          (λ h. Contains-permutation held ids t moves (contains_in held t (expired_front t h))),
        ))
