-- The unit holding of a unit after a history: which transfer reserves it, that a unit that is reserved is held, and
-- that one that is held has a position.
use Rattle.std.proofs.Common.{List, None, Option, Some, [], ◌&&◌, ◌+◌, ◌∙◌, ◌∷◌, ◌≡◌, ◌≤◌, ap, arith, cond, false, inl, inr, not, refl, subst, sym, true}
use Rattle.units.specs.declared.code.Code.{Code}
use Rattle.status.specs.declared.status.Status.TheVariants.{Completed, Proposed}
use Rattle.status.specs.Content.{Content}
use Rattle.scheme.specs.declared.members.Holder.{Holder}
use Rattle.units.proofs.Lists.Membership.{In, In_find}
use Rattle.accounts.specs.declared.unit_holding.UnitHolding.{UnitHolding}
use Rattle.protocol.specs.History.{Position, Transition, at_start, credited_position, has_serial, is_status, is_with, position_in, stands_at, carries, credits, gives, holds, position, reserved, reserver, reserves}
use Rattle.scheme.specs.declared.registries.Scheme.{Scheme}
use Rattle.units.specs.declared.block.Unit.{Unit as Serial}
use Rattle.safety.proofs.OneRegistry.SoundHistories.{Sound}
use Rattle.status.specs.declared.id.TransactionId.{TransactionId}
use Rattle.safety.proofs.OneRegistry.UnitsCountedOnce.{Waits, reserved_waits}
use Rattle.std.proofs.lemmas.Bool.{and_parts, cases_Bool, cond-false, cond-true, eq-eqb, eqb-true}
use Rattle.std.specs.List.{count_by}
use Rattle.protocol.proofs.CountsInLists.{count_no}
use Rattle.units.specs.Unit.{has_unit}
use Rattle.std.specs.Prelude.{is_some, option_map, find}
use Rattle.protocol.specs.Held.{unit_holding_at, unit_holding_in}
use Rattle.safety.proofs.MovesAndHistories.TableMoves.{newest_some}
use Rattle.units.proofs.Lists.OneValue.{one_some, clash}
use Rattle.safety.proofs.ListLemmas.FirstFound.{any_found, mapped, some_is}
use Rattle.units.specs.Code.{same_code}
use Rattle.status.specs.Status.{same_status}
use Rattle.safety.proofs.ListLemmas.TestsOfSameness.{status_of_same}
use Rattle.protocol.specs.Registries.{allotted}

-- ---- where a unit is

-- blocks with the unit give it a position
carried_position : (s : Serial) (k : Option Content) → has_serial k s ≡ true → (q : Position) × (position_in s k ≡ Some q)
carried_position s None e = absurd (cc (e))
carried_position s (Some k) e = some_is (credited_position s k) (sym (any_found (λ b. has_unit b s) (λ b. record { account = k.to_account; kind = b.kind }) k.units) ∙ e)

allotted_position : (c : Code) (h : Option Holder) → 1 ≤ cond (is_with c h) 1 0 + 0 → (q : Position) × (option_map (λ (h : Holder). record { account = h.account; kind = h.kind }) h ≡ Some q)
allotted_position c None e = absurd (omega arith)
allotted_position c (Some h) e = (record { account = h.account; kind = h.kind }, refl)

module _ (scheme : Scheme) (c : Code) (s : Serial) where
  -- a unit that was allotted or came has a position
  came_position : (xs : List Transition) → 1 ≤ at_start scheme c s + count_by (credits c s) xs → (q : Position) × (position scheme c xs s ≡ Some q)
  came_position [] e = allotted_position c (allotted scheme s) e
  came_position (x ∷ xs) e =
      elim (cases_Bool (credits c s x)) [
        | inl y ↦
            let carried = (and_parts (not (same_code x.id.code c)) (carries x s) (and_parts (same_status x.new Completed) (not (same_code x.id.code c) && carries x s) y).1).1 in
            let q = carried_position s x.content carried in
            (q.0, cond-true (credits c s x) (position_in s x.content) (position scheme c xs s) y ∙ q.1)
        | inr n ↦
            let same = count_no (credits c s) x xs n in
            let q = came_position xs (omega arith) in
            (q.0, cond-false (credits c s x) (position_in s x.content) (position scheme c xs s) n ∙ q.1)
      ]

  -- a unit that is held has a position
  pub held_position : (xs : List Transition) → holds scheme c xs s ≡ true → (q : Position) × (position scheme c xs s ≡ Some q)
  held_position xs h =
      let e = eqb-true (at_start scheme c s + count_by (credits c s) xs) (count_by (gives c s) xs + 1) h in
      came_position xs (omega arith)

  -- ---- the transfer that reserves it

  -- it is reserved exactly when a transfer reserves it
  pub reserved_some : (xs : List Transition) → reserved c xs s ≡ is_some (reserver c xs s)
  reserved_some xs = any_found (reserves c xs s) (λ (x : Transition). x.id) xs

  -- the transfer that is found waits with the unit
  waiting : (xs : List Transition) (x : Transition) → Sound scheme c xs → In x xs → reserves c xs s x ≡ true → Waits c s xs x.id
  waiting xs x sound i h =
      let own = and_parts (same_code x.id.code c) (stands_at xs x.id Proposed && carries x s) h in
      let rest = and_parts (stands_at xs x.id Proposed) (carries x s) own.1 in
      let last = newest_some xs x i in
      let status : same_status last.0.new Proposed ≡ true = subst (λ o. is_status (option_map (λ (y : Transition). y.new) o) Proposed ≡ true) last.1 rest.0 in
      record {
        last = last.0;
        is = last.1;
        new = status_of_same last.0.new Proposed status;
        own = own.0;
        has = subst (λ k. has_serial k s ≡ true) (sym (sound.contents x last.0 i last.1)) rest.1;
      }

  pub reserver_waits : (xs : List Transition) (t : TransactionId) → Sound scheme c xs → reserver c xs s ≡ Some t → Waits c s xs t
  reserver_waits xs t sound h =
      let x = mapped (λ (y : Transition). y.id) (find (reserves c xs s) xs) t h in
      let g = In_find (reserves c xs s) xs x.0 x.1 in
      subst (Waits c s xs) x.2 (waiting xs x.0 sound g.0 g.1)

  pub reserver_none : (xs : List Transition) → Sound scheme c xs → ((t : TransactionId) → Waits c s xs t → ⊥) → reserver c xs s ≡ None
  reserver_none xs sound none = go (reserver c xs s) refl
    where
      go : (o : Option TransactionId) → reserver c xs s ≡ o → o ≡ None
      go None e = refl
      go (Some t) e = absurd (none t (reserver_waits xs t sound e))

  pub waits_reserver : (xs : List Transition) (t : TransactionId) → Sound scheme c xs → Waits c s xs t → reserver c xs s ≡ Some t
  waits_reserver xs t sound w =
      let u = some_is (reserver c xs s) (sym (reserved_some xs) ∙ reserved_waits scheme c s xs t w) in
      u.1 ∙ ap (λ (z : TransactionId). Some z) ((sound.local s).one u.0 t (reserver_waits xs u.0 sound u.1) w)

  pub none_waits : (xs : List Transition) (t : TransactionId) → reserver c xs s ≡ None → Waits c s xs t → ⊥
  none_waits xs t none w = clash (reserved c xs s) (reserved_waits scheme c s xs t w) (reserved_some xs ∙ ap is_some none)

  -- where the same transfers wait with the unit, the same one reserves it
  pub reserver_same : (xs ys : List Transition) → Sound scheme c xs → Sound scheme c ys → ((t : TransactionId) → Waits c s xs t → Waits c s ys t) → ((t : TransactionId) → Waits c s ys t → Waits c s xs t)
      → reserver c xs s ≡ reserver c ys s
  reserver_same xs ys sound also to from = go (reserver c ys s) refl
    where
      go : (o : Option TransactionId) → reserver c ys s ≡ o → reserver c xs s ≡ o
      go None e = reserver_none xs sound (λ t w. none_waits ys t e (to t w))
      go (Some t) e = waits_reserver xs t sound (from t (reserver_waits ys t also e))

  -- a unit with which a transfer waits is held
  pub waits_held : (xs : List Transition) (t : TransactionId) → Sound scheme c xs → Waits c s xs t → holds scheme c xs s ≡ true
  waits_held xs t sound w =
      let l = sound.local s in
      let low = l.kept t w in
      let high = l.high in
      eq-eqb (at_start scheme c s + count_by (credits c s) xs) (count_by (gives c s) xs + 1) (omega arith)

  -- a unit that is reserved is held
  pub reserved_held : (xs : List Transition) → Sound scheme c xs → reserved c xs s ≡ true → holds scheme c xs s ≡ true
  reserved_held xs sound h =
      let t = some_is (reserver c xs s) (sym (reserved_some xs) ∙ h) in
      waits_held xs t.0 sound (reserver_waits xs t.0 sound t.1)

  pub unheld_reserver : (xs : List Transition) → Sound scheme c xs → holds scheme c xs s ≡ false → reserver c xs s ≡ None
  unheld_reserver xs sound none = reserver_none xs sound (λ t w. clash (holds scheme c xs s) (waits_held xs t sound w) none)

  -- ---- the unit holding

  pub unit_holding_of_held : (xs : List Transition) (q : Position) → holds scheme c xs s ≡ true → position scheme c xs s ≡ Some q → unit_holding_at scheme c xs s ≡ Some (unit_holding_in (reserver c xs s) q)
  unit_holding_of_held xs q h e = cond-true (holds scheme c xs s) (option_map (unit_holding_in (reserver c xs s)) (position scheme c xs s)) None h ∙ ap (option_map (unit_holding_in (reserver c xs s))) e

  pub unit_holding_of_unheld : (xs : List Transition) → holds scheme c xs s ≡ false → unit_holding_at scheme c xs s ≡ None
  unit_holding_of_unheld xs h = cond-false (holds scheme c xs s) (option_map (unit_holding_in (reserver c xs s)) (position scheme c xs s)) None h

  -- a unit has a unit holding exactly when it is held
  pub unit_holding_is_held : (xs : List Transition) → is_some (unit_holding_at scheme c xs s) ≡ holds scheme c xs s
  unit_holding_is_held xs =
      elim (cases_Bool (holds scheme c xs s)) [
        | inl y ↦ let q = held_position xs y in ap is_some (unit_holding_of_held xs q.0 y q.1) ∙ sym y
        | inr n ↦ ap is_some (unit_holding_of_unheld xs n) ∙ sym n
      ]

  -- what a unit holding says
  pub unit_holding_parts : (xs : List Transition) (unit_holding : UnitHolding) → unit_holding_at scheme c xs s ≡ Some unit_holding → (holds scheme c xs s ≡ true) × ((q : Position) × (position scheme c xs s ≡ Some q) × (unit_holding_in (reserver c xs s) q ≡ unit_holding))
  unit_holding_parts xs unit_holding h =
      let y : holds scheme c xs s ≡ true = sym (unit_holding_is_held xs) ∙ ap is_some h in
      let q = held_position xs y in
      (y, (q.0, q.1, one_some (unit_holding_in (reserver c xs s) q.0) unit_holding (sym (unit_holding_of_held xs q.0 y q.1) ∙ h)))
