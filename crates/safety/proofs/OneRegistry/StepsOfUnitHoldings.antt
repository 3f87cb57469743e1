-- How each transition of a registry changes the unit holdings: a proposal reserves its units, an initiator's end
-- releases or removes them, an acquirer's completion credits them, and all other transitions leave each unit holding
-- as it is. Each lemma states the unit holding in the form in which the calls of `Holdings` do. The strategy: what is
-- held and where follows from counts and positions, and who reserves from which transfers wait with the unit (`Waits`).
use Rattle.std.proofs.Common.{Bool, List, None, Option, Some, ap, cond, false, not, refl, subst, sym, true, ◌+◌, ◌==◌, ◌∙◌, ◌∷◌, ◌≡◌, arith, inl, inr, ◌&&◌, [], ◌||◌}
use Rattle.units.specs.declared.code.Code.{Code}
use Rattle.accounts.specs.declared.unit_holding.UnitHolding.{UnitHolding}
use Rattle.protocol.specs.History.{Position, Transition, at_start, credits, gives, holds, newest, position, position_in, carries, has_serial, credited_position, reserver}
use Rattle.scheme.specs.declared.registries.Scheme.{Scheme}
use Rattle.units.specs.declared.block.Unit.{Unit as Serial}
use Rattle.safety.proofs.OneRegistry.SoundHistories.{Sound}
use Rattle.status.specs.declared.id.TransactionId.{TransactionId}
use Rattle.safety.proofs.OneRegistry.UnitsCountedOnce.{waits_older, Waits, free_content}
use Rattle.units.proofs.Lists.FirstIndices.{none_from_test}
use Rattle.units.proofs.Lists.OneValue.{clash, one_some}
use Rattle.std.proofs.lemmas.Bool.{ne_eqb, cond-false, cond-true, false_from_ne_true, and_from, and_left, and_right, cases_Bool, eq-eqb, eqb-false}
use Rattle.std.specs.List.{count_by}
use Rattle.protocol.proofs.CountsInLists.{count_no, count_yes}
use Rattle.status.proofs.Ids.{id_of_same, same_id-refl}
use Rattle.accounts.specs.Holdings.{is_reserved_by, is_the, released, reserved as reserved_by, free_unit_holding, kind_in}
use Rattle.protocol.specs.Held.{unit_holding_at, unit_holding_in}
use Rattle.units.specs.Intervals.{labels_that}
use Rattle.std.specs.Prelude.{option_map, find}
use Rattle.safety.proofs.OneRegistry.UnitHoldingsOfUnits.{reserver_same, unit_holding_of_unheld, none_waits, reserver_none, reserver_waits, waits_reserver, unheld_reserver}
use Rattle.safety.proofs.ListLemmas.FirstFound.{any_found}
use Rattle.units.specs.Code.{same_code}
use Rattle.status.specs.Id.{same_id}
use Rattle.status.specs.declared.status.Status.TheVariants.{Completed, Proposed}
use Rattle.status.specs.Status.{same_status}
use Rattle.units.specs.declared.block.Block.{Block}
use Rattle.status.specs.Content.{Content, raws}
use Rattle.units.specs.declared.block.Kind.{Kind}
use Rattle.units.specs.declared.block.RawBlock.{RawBlock}
use Rattle.units.specs.Unit.{covers, has_unit, have_unit}
use Rattle.protocol.specs.AtRegistry.{holds_some}
use Rattle.std.specs.Option.{option_or}

-- ---- a unit holding by its three parts

abbrev pub unit_holding_of : Bool → Option TransactionId → Option Position → Option UnitHolding
unit_holding_of held reserving q = cond held (option_map (unit_holding_in reserving) q) None

pub newly_reserved : (h : Bool) (r : Option TransactionId) (q : Option Position) (t : TransactionId) → unit_holding_of h (Some t) q ≡ option_map (reserved_by t) (unit_holding_of h r q)
newly_reserved true r None t = refl
newly_reserved true r (Some q) t = refl
newly_reserved false r q t = refl

-- who reserves once the transaction has let go
abbrev let_go : TransactionId → Option TransactionId → Option TransactionId
let_go t None = None
let_go t (Some u) = cond (same_id u t) None (Some u)

unit_holding_released : (r : Option TransactionId) (q : Position) (t : TransactionId) → unit_holding_in (let_go t r) q ≡ released t (unit_holding_in r q)
unit_holding_released None q t = refl
unit_holding_released (Some u) q t = go (same_id u t)
  where
    go : (b : Bool) → unit_holding_in (cond b None (Some u)) q ≡ cond b (unit_holding_in None q) (unit_holding_in (Some u) q)
    go true = refl
    go false = refl

newly_released : (h : Bool) (r : Option TransactionId) (q : Option Position) (t : TransactionId) → unit_holding_of h (let_go t r) q ≡ option_map (released t) (unit_holding_of h r q)
newly_released true r None t = refl
newly_released true r (Some q) t = ap (λ (unit_holding : UnitHolding). Some unit_holding) (unit_holding_released r q t)
newly_released false r q t = refl

stays : (r : Option TransactionId) (q : Position) (t : TransactionId) → is_the t r ≡ false → Some (unit_holding_in r q) ≡ labels_that (λ unit_holding. not (is_reserved_by t unit_holding)) (Some (unit_holding_in r q))
stays r q t other = sym (cond-true (not (is_the t r)) (Some (unit_holding_in r q)) None (ap not other))

-- those that the transaction doesn't reserve stay
others_stay : (h : Bool) (r : Option TransactionId) (q : Option Position) (t : TransactionId) → is_the t r ≡ false → unit_holding_of h r q ≡ labels_that (λ unit_holding. not (is_reserved_by t unit_holding)) (unit_holding_of h r q)
others_stay true r None t other = refl
others_stay true r (Some q) t other = stays r q t other
others_stay false r q t other = refl

goes : (r : Option TransactionId) (q : Position) (t : TransactionId) → is_the t r ≡ true → None ≡ labels_that (λ unit_holding. not (is_reserved_by t unit_holding)) (Some (unit_holding_in r q))
goes r q t own = sym (cond-false (not (is_the t r)) (Some (unit_holding_in r q)) None (ap not own))

-- those that it reserves go
own_go : (h : Bool) (r : Option TransactionId) (q : Option Position) (t : TransactionId) → is_the t r ≡ true → None ≡ labels_that (λ unit_holding. not (is_reserved_by t unit_holding)) (unit_holding_of h r q)
own_go true r None t own = refl
own_go true r (Some q) t own = goes r q t own
own_go false r q t own = refl

-- ---- blocks and the raw blocks of a content

pub covers_raws : (blocks : List Block) (s : Serial) → have_unit (raws blocks) s ≡ covers blocks s
covers_raws [] s = refl
covers_raws (b ∷ bs) s = ap (λ t. has_unit b.raw s || t) (covers_raws bs s)

find_raws : (blocks : List Block) (s : Serial) → find (λ (b : RawBlock). has_unit b s) (raws blocks) ≡ option_map (λ (b : Block). b.raw) (find (λ (b : Block). has_unit b.raw s) blocks)
find_raws [] s = refl
find_raws (b ∷ bs) s = go (has_unit b.raw s) (find_raws bs s)
  where
    go : (t : Bool) → find (λ (b : RawBlock). has_unit b s) (raws bs) ≡ option_map (λ (b : Block). b.raw) (find (λ (b : Block). has_unit b.raw s) bs)
        → cond t (Some b.raw) (find (λ (b : RawBlock). has_unit b s) (raws bs)) ≡ option_map (λ (b : Block). b.raw) (cond t (Some b) (find (λ (b : Block). has_unit b.raw s) bs))
    go true e = refl
    go false e = e

kind_uncovered : (blocks : List Block) (s : Serial) → covers blocks s ≡ false → kind_in blocks s ≡ None
kind_uncovered blocks s h = none_from_test (kind_in blocks s) (sym (any_found (λ (b : Block). has_unit b.raw s) (λ (b : Block). b.raw.kind) blocks) ∙ h)

-- a unit of the content, as it was credited
credited_unit_holding : (k : Content) (blocks : List Block) → raws blocks ≡ k.units → (s : Serial) → option_map (unit_holding_in None) (credited_position s k) ≡ option_map (free_unit_holding k.to_account) (kind_in blocks s)
credited_unit_holding k blocks units s =
    let put = λ (o : Option RawBlock). option_map (unit_holding_in None) (option_map (λ (b : RawBlock). record { account = k.to_account; kind = b.kind }) o) in
    ap put (ap (find (λ (b : RawBlock). has_unit b s)) (sym units) ∙ find_raws blocks s) ∙ go (find (λ (b : Block). has_unit b.raw s) blocks)
  where
    go : (o : Option Block) → option_map (unit_holding_in None) (option_map (λ (b : RawBlock). record { account = k.to_account; kind = b.kind }) (option_map (λ (b : Block). b.raw) o)) ≡ option_map (free_unit_holding k.to_account) (option_map (λ (b : Block). b.raw.kind) o)
    go None = refl
    go (Some b) = refl

pub or_none : {X : Type 0} (o : Option X) → option_or o None ≡ o
or_none None = refl
or_none (Some x) = refl

module _ (scheme : Scheme) (c : Code) (s : Serial) where
  -- ---- the parts after one more transition

  -- one that neither gives the unit nor takes it in
  same_hold : (x : Transition) (xs : List Transition) → gives c s x ≡ false → credits c s x ≡ false → holds scheme c (x ∷ xs) s ≡ holds scheme c xs s
  same_hold x xs given credited =
      ap (λ n. (at_start scheme c s + n) == (count_by (gives c s) (x ∷ xs) + 1)) (count_no (credits c s) x xs credited)
      ∙ ap (λ n. (at_start scheme c s + count_by (credits c s) xs) == (n + 1)) (count_no (gives c s) x xs given)

  same_position : (x : Transition) (xs : List Transition) → credits c s x ≡ false → position scheme c (x ∷ xs) s ≡ position scheme c xs s
  same_position x xs credited = cond-false (credits c s x) (position_in s x.content) (position scheme c xs s) credited

  pub moved_unit_holding : (x : Transition) (xs : List Transition) (r : Option TransactionId) → gives c s x ≡ false → credits c s x ≡ false → reserver c (x ∷ xs) s ≡ r
      → unit_holding_at scheme c (x ∷ xs) s ≡ unit_holding_of (holds scheme c xs s) r (position scheme c xs s)
  moved_unit_holding x xs r given credited by = λ i. unit_holding_of (same_hold x xs given credited i) (by i) (same_position x xs credited i)

  -- a transfer of another transaction waits as before
  pub waits_on : (x : Transition) (xs : List Transition) (t : TransactionId) → same_id x.id t ≡ false → Waits c s xs t → Waits c s (x ∷ xs) t
  waits_on x xs t other w = record { last = w.last; is = cond-false (same_id x.id t) (Some x) (newest xs t) other ∙ w.is; new = w.new; own = w.own; has = w.has }

  -- of a transaction of another registry
  foreign_reserver : (x : Transition) (xs : List Transition) → Sound scheme c (x ∷ xs) → Sound scheme c xs → same_code x.id.code c ≡ false → reserver c (x ∷ xs) s ≡ reserver c xs s
  foreign_reserver x xs sound old foreign = reserver_same scheme c s (x ∷ xs) xs sound old before after
    where
      other : (t : TransactionId) → same_code t.code c ≡ true → same_id x.id t ≡ false
      other t own = false_from_ne_true (same_id x.id t) (λ y. clash (same_code t.code c) own (subst (λ (z : TransactionId). same_code z.code c ≡ false) (id_of_same x.id t y) foreign))

      before : (t : TransactionId) → Waits c s (x ∷ xs) t → Waits c s xs t
      before t w = record { last = w.last; is = sym (cond-false (same_id x.id t) (Some x) (newest xs t) (other t w.own)) ∙ w.is; new = w.new; own = w.own; has = w.has }

      after : (t : TransactionId) → Waits c s xs t → Waits c s (x ∷ xs) t
      after t w = waits_on x xs t (other t w.own) w

  -- of another registry's, and no unit moves
  pub foreign_unit_holding : (x : Transition) (xs : List Transition) → Sound scheme c (x ∷ xs) → Sound scheme c xs → same_code x.id.code c ≡ false → gives c s x ≡ false → credits c s x ≡ false
      → unit_holding_at scheme c (x ∷ xs) s ≡ unit_holding_at scheme c xs s
  foreign_unit_holding x xs sound old foreign given credited = moved_unit_holding x xs (reserver c xs s) given credited (foreign_reserver x xs sound old foreign)

  -- ---- an initiator's transfer comes to its end

  -- the transition that ends a transfer of the registry's own
  abbrev pub Ends : Transition → List Transition → Transition → Type 0
  Ends x xs q = (newest xs x.id ≡ Some q) × (q.new ≡ Proposed) × (same_code x.id.code c ≡ true) × (x.content ≡ q.content) × (x.new ≡ Proposed → ⊥)

  ended_credits : (x : Transition) → same_code x.id.code c ≡ true → credits c s x ≡ false
  ended_credits x own = and_right (same_status x.new Completed) (not (same_code x.id.code c) && carries x s) (and_left (not (same_code x.id.code c)) (carries x s) (ap not own))

  -- it waited with the unit, if it has it
  ended_waited : (x : Transition) (xs : List Transition) (q : Transition) → Ends x xs q → carries x s ≡ true → Waits c s xs x.id
  ended_waited x xs q end has = record { last = q; is = end.0; new = end.1; own = end.2; has = subst (λ k. has_serial k s ≡ true) end.3 has }

  -- who reserves the unit then
  ended_reserver : (x : Transition) (xs : List Transition) → Sound scheme c (x ∷ xs) → Sound scheme c xs → (x.new ≡ Proposed → ⊥) → (o : Option TransactionId) → reserver c xs s ≡ o → reserver c (x ∷ xs) s ≡ let_go x.id o
  ended_reserver x xs sound old other None e = reserver_none scheme c s (x ∷ xs) sound (λ u w. none_waits scheme c s xs u e (waits_older scheme c s x xs u other w).0)
  ended_reserver x xs sound old other (Some u) e =
      let was = reserver_waits scheme c s xs u old e in
      elim (cases_Bool (same_id u x.id)) [
        | inl y ↦
            reserver_none scheme c s (x ∷ xs) sound
            (λ v w.
            let older = waits_older scheme c s x xs v other w in
            let same : x.id ≡ v = sym (id_of_same u x.id y) ∙ (old.local s).one u v was older.0 in
            clash (same_id x.id v) (subst (λ z. same_id x.id z ≡ true) same (same_id-refl x.id)) older.1)
            ∙ sym (cond-true (same_id u x.id) None (Some u) y)
        | inr n ↦
            waits_reserver scheme c s (x ∷ xs) u sound
            (waits_on x xs u (false_from_ne_true (same_id x.id u) (λ z. clash (same_id u x.id) (subst (λ w. same_id w x.id ≡ true) (id_of_same x.id u z) (same_id-refl x.id)) n)) was)
            ∙ sym (cond-false (same_id u x.id) None (Some u) n)
      ]

  pub released_unit_holding : (x : Transition) (xs : List Transition) (q : Transition) → Sound scheme c (x ∷ xs) → Sound scheme c xs → Ends x xs q → same_status x.new Completed ≡ false
      → unit_holding_at scheme c (x ∷ xs) s ≡ option_map (released x.id) (unit_holding_at scheme c xs s)
  released_unit_holding x xs q sound old end unfinished =
      let given = and_left (same_status x.new Completed) (same_code x.id.code c && carries x s) unfinished in
      moved_unit_holding x xs (let_go x.id (reserver c xs s)) given (ended_credits x end.2) (ended_reserver x xs sound old end.4 (reserver c xs s) refl)
      ∙ newly_released (holds scheme c xs s) (reserver c xs s) (position scheme c xs s) x.id

  -- the unit is gone
  given_hold : (x : Transition) (xs : List Transition) → Sound scheme c xs → gives c s x ≡ true → credits c s x ≡ false → holds scheme c (x ∷ xs) s ≡ false
  given_hold x xs old given credited =
      let o = count_yes (gives c s) x xs given in
      let i = count_no (credits c s) x xs credited in
      let high = (old.local s).high in
      ne_eqb (at_start scheme c s + count_by (credits c s) (x ∷ xs)) (count_by (gives c s) (x ∷ xs) + 1) (λ e. omega arith)

  unreserved : (x : Transition) (xs : List Transition) → Sound scheme c xs → (Waits c s xs x.id → ⊥) → (o : Option TransactionId) → reserver c xs s ≡ o → (is_the x.id o ≡ false) × (let_go x.id o ≡ o)
  unreserved x xs old none None e = (refl, refl)
  unreserved x xs old none (Some u) e =
      let other = false_from_ne_true (same_id u x.id) (λ y. none (subst (Waits c s xs) (id_of_same u x.id y) (reserver_waits scheme c s xs u old e))) in
      (other, cond-false (same_id u x.id) None (Some u) other)

  pub removed_unit_holding : (x : Transition) (xs : List Transition) (q : Transition) → Sound scheme c (x ∷ xs) → Sound scheme c xs → Ends x xs q → same_status x.new Completed ≡ true
      → unit_holding_at scheme c (x ∷ xs) s ≡ labels_that (λ unit_holding. not (is_reserved_by x.id unit_holding)) (unit_holding_at scheme c xs s)
  removed_unit_holding x xs q sound old end done =
      elim (cases_Bool (carries x s)) [
        | inl y ↦
            let given = and_from (same_status x.new Completed) (same_code x.id.code c && carries x s) done (and_from (same_code x.id.code c) (carries x s) end.2 y) in
            let by = waits_reserver scheme c s xs x.id old (ended_waited x xs q end y) in
            let own : is_the x.id (reserver c xs s) ≡ true = ap (is_the x.id) by ∙ same_id-refl x.id in
            unit_holding_of_unheld scheme c s (x ∷ xs) (given_hold x xs old given (ended_credits x end.2)) ∙ own_go (holds scheme c xs s) (reserver c xs s) (position scheme c xs s) x.id own
        | inr n ↦
            let given = and_right (same_status x.new Completed) (same_code x.id.code c && carries x s) (and_right (same_code x.id.code c) (carries x s) n) in
            let none = λ (w : Waits c s xs x.id).
            let last : w.last ≡ q = one_some w.last q (sym w.is ∙ end.0) in
            let has : carries x s ≡ true = subst (λ k. has_serial k s ≡ true) (ap (λ (z : Transition). z.content) last ∙ sym end.3) w.has in
            clash {X = ⊥} (carries x s) has n in
            let free = unreserved x xs old none (reserver c xs s) refl in
            moved_unit_holding x xs (reserver c xs s) given (ended_credits x end.2) (ended_reserver x xs sound old end.4 (reserver c xs s) refl ∙ free.1)
            ∙ others_stay (holds scheme c xs s) (reserver c xs s) (position scheme c xs s) x.id free.0
      ]

  -- ---- an acquirer takes units in

  taken_hold : (x : Transition) (xs : List Transition) → Sound scheme c xs → gives c s x ≡ false → credits c s x ≡ true → holds scheme c xs s ≡ false → holds scheme c (x ∷ xs) s ≡ true
  taken_hold x xs old given credited free =
      let o = count_no (gives c s) x xs given in
      let i = count_yes (credits c s) x xs credited in
      let low = (old.local s).low in
      let high = (old.local s).high in
      let apart = eqb-false (at_start scheme c s + count_by (credits c s) xs) (count_by (gives c s) xs + 1) free in
      eq-eqb (at_start scheme c s + count_by (credits c s) (x ∷ xs)) (count_by (gives c s) (x ∷ xs) + 1) (omega arith)

  pub taken_unit_holding : (x : Transition) (xs : List Transition) (k : Content) (blocks : List Block) → Sound scheme c (x ∷ xs) → Sound scheme c xs → same_code x.id.code c ≡ false → same_status x.new Completed ≡ true → x.content ≡ Some k
      → holds_some scheme c xs (Some k) ≡ false → raws blocks ≡ k.units → unit_holding_at scheme c (x ∷ xs) s ≡ option_or (option_map (free_unit_holding k.to_account) (kind_in blocks s)) (unit_holding_at scheme c xs s)
  taken_unit_holding x xs k blocks sound old foreign done content none units =
      let given : gives c s x ≡ false = and_right (same_status x.new Completed) (same_code x.id.code c && carries x s) (and_left (same_code x.id.code c) (carries x s) foreign) in
      let carried : carries x s ≡ have_unit k.units s = ap (λ o. has_serial o s) content in
      elim (cases_Bool (have_unit k.units s)) [
        | inl y ↦
            let credited : credits c s x ≡ true =
            and_from (same_status x.new Completed) (not (same_code x.id.code c) && carries x s) done (and_from (not (same_code x.id.code c)) (carries x s) (ap not foreign) (carried ∙ y)) in
            let free = free_content scheme c s xs (Some k) y none in
            let hold = taken_hold x xs old given credited free in
            let by : reserver c (x ∷ xs) s ≡ None = foreign_reserver x xs sound old foreign ∙ unheld_reserver scheme c s xs old free in
            let at : position scheme c (x ∷ xs) s ≡ credited_position s k = cond-true (credits c s x) (position_in s x.content) (position scheme c xs s) credited ∙ ap (position_in s) content in
            (λ i. unit_holding_of (hold i) (by i) (at i)) ∙ credited_unit_holding k blocks units s ∙ sym (or_none (option_map (free_unit_holding k.to_account) (kind_in blocks s)))
            ∙ ap (option_or (option_map (free_unit_holding k.to_account) (kind_in blocks s))) (sym (unit_holding_of_unheld scheme c s xs free))
        | inr n ↦
            let credited : credits c s x ≡ false =
            and_right (same_status x.new Completed) (not (same_code x.id.code c) && carries x s) (and_right (not (same_code x.id.code c)) (carries x s) (carried ∙ n)) in
            foreign_unit_holding x xs sound old foreign given credited
            ∙ ap (λ (o : Option Kind). option_or (option_map (free_unit_holding k.to_account) o) (unit_holding_at scheme c xs s)) (sym (kind_uncovered blocks s (sym (covers_raws blocks s) ∙ ap (λ us. have_unit us s) units ∙ n)))
      ]
