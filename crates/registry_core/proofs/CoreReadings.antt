-- A registry's tables, seen from outside: its unit holdings and accounts, and inputs that it never records.
use Rattle.std.specs.FinMap as map
use Rattle.std.proofs.Common.{◌≡◌, ℕ, ◌+◌, ◌≤◌, Bool, true, false, cond, Option, Some, None, List, Err, inl, inr, refl, sym, ap, subst, ◌∙◌, arith}
use Rattle.std.specs.List.{count_by}
use Rattle.std.specs.Prelude.{IfSome, ◌&&◌, not, is_some, option_and_then}
use Rattle.std.proofs.lemmas.Bool.{cases_Bool, eqb-true, eqb-false}
use Rattle.units.specs.RefusalCodes.{no_row}
use Rattle.units.specs.declared.block.Unit.{Unit as Serial}
use Rattle.units.specs.declared.code.Code.{Code}
use Rattle.units.specs.declared.code.Node.TheVariants.{Registry}
use Rattle.status.specs.declared.id.TransactionId.{TransactionId}
use Rattle.status.specs.declared.moment.Moment.{Moment}
use Rattle.accounts.specs.declared.unit_holding.UnitHolding.{UnitHolding}
use Rattle.wire.specs.declared.input.Input.{Input}
use Rattle.wire.specs.declared.input.Input.TheVariants.{CleanUp, Eligible}
use Rattle.scheme.specs.declared.registries.Scheme.{Scheme}
use Rattle.protocol.specs.Cores.{IsExpectedOrNoMemory, answer}
use Rattle.protocol.specs.History.{Transition, at_start, credits, gives, holds, reserved, spendable, reserver}
use Rattle.protocol.specs.Verdict.{verdict}
use Rattle.safety.proofs.OneRegistry.UnitsCountedOnce.{Waits, counted_once}
use Rattle.registry_core.specs.Kept.{IsKept}
use Rattle.protocol.specs.Held.{unit_holding_at, account_status_at}
use Rattle.registry_core.specs.Registry.{IsReserving, RegistryCoreView as Core, moves, past}
use Rattle.registry_core.specs.declared.tables.Tables.{Tables}
use Rattle.safety.proofs.OneRegistry.UnitHoldingsOfUnits.{waits_reserver, held_position, unit_holding_is_held, unit_holding_of_held, unit_holding_of_unheld, reserved_some, reserver_waits, unheld_reserver, waits_held}
use Rattle.safety.proofs.OneRegistry.SoundHistories.{Sound, sound_history}
use Rattle.safety.proofs.MovesAndHistories.NewestTransitions.{Made}
use Rattle.safety.proofs.OneRegistry.RecordedEntries.{entered_made, replays_entered}

abbrev pub seen : Scheme → Code → Tables → Core
seen scheme c tables = record { scheme = scheme; code = c; journal = tables.records.inputs }

-- ---- one unit

if_some : {X : Type 0} (o : Option X) (P : X → Type 0) → ((x : X) → o ≡ Some x → P x) → IfSome o P
if_some None P h = tt
if_some (Some x) P h = h x refl

not_not : (b : Bool) → b ≡ not (not b)
not_not true = refl
not_not false = refl

once_counted : (scheme : Scheme) (c : Code) (xs : List Transition) (s : Serial)
    → (count_by (gives c s) xs ≤ at_start scheme c s + count_by (credits c s) xs) × (at_start scheme c s + count_by (credits c s) xs ≤ count_by (gives c s) xs + 1)
    → at_start scheme c s + count_by (credits c s) xs ≡ count_by (gives c s) xs + cond (holds scheme c xs s) 1 0
once_counted scheme c xs s h =
    elim (cases_Bool (holds scheme c xs s)) [
      | inl y ↦ eqb-true (at_start scheme c s + count_by (credits c s) xs) (count_by (gives c s) xs + 1) y ∙ ap (λ b. count_by (gives c s) xs + cond b 1 0) (sym y)
      | inr n ↦
          let low = h.0 in
          let high = h.1 in
          let other = eqb-false (at_start scheme c s + count_by (credits c s) xs) (count_by (gives c s) xs + 1) n in
          let same : at_start scheme c s + count_by (credits c s) xs ≡ count_by (gives c s) xs + 0 = omega arith in
          same ∙ ap (λ b. count_by (gives c s) xs + cond b 1 0) (sym n)
    ]

unit_holding_reserver : (scheme : Scheme) (c : Code) (xs : List Transition) (s : Serial) → Sound scheme c xs → option_and_then (λ (unit_holding : UnitHolding). unit_holding.reserving) (unit_holding_at scheme c xs s) ≡ reserver c xs s
unit_holding_reserver scheme c xs s sound =
    elim (cases_Bool (holds scheme c xs s)) [
      | inl y ↦ let q = held_position scheme c s xs y in ap (option_and_then (λ (unit_holding : UnitHolding). unit_holding.reserving)) (unit_holding_of_held scheme c s xs q.0 y q.1)
      | inr n ↦ ap (option_and_then (λ (unit_holding : UnitHolding). unit_holding.reserving)) (unit_holding_of_unheld scheme c s xs n) ∙ sym (unheld_reserver scheme c s xs sound n)
    ]

-- ---- of a registry

module _ (scheme : Scheme) (c : Code) (tables : Tables) (kept : IsKept scheme c tables) (r : Core) (is : seen scheme c tables ≡ r) where
  -- ---- its units and accounts

  pub unit_holding_so : (s : Serial) → map.get tables.holdings.unit_holdings s ≡ unit_holding_at r.scheme r.code (moves r) s
  unit_holding_so s = kept.kept.unit_holdings s ∙ ap (λ (q : Core). unit_holding_at q.scheme q.code (moves q) s) is

  pub account_status_so : (n : ℕ) → map.get tables.holdings.accounts n ≡ account_status_at r.scheme r.code (past r) n
  account_status_so n = kept.kept.accounts n ∙ ap (λ (q : Core). account_status_at q.scheme q.code (past q) n) is

  pub held_so : (s : Serial) → is_some (map.get tables.holdings.unit_holdings s) ≡ holds r.scheme r.code (moves r) s
  held_so s = ap is_some (unit_holding_so s) ∙ unit_holding_is_held r.scheme r.code s (moves r)

  recorded : Made r.scheme (Registry r.code) (past r)
  recorded = subst (λ (q : Core). Made q.scheme (Registry q.code) (past q)) is (entered_made scheme c (past (seen scheme c tables)) (replays_entered scheme c tables.records.inputs kept.records.replays))

  pub once_so : (s : Serial) → at_start r.scheme r.code s + count_by (credits r.code s) (moves r) ≡ count_by (gives r.code s) (moves r) + cond (holds r.scheme r.code (moves r) s) 1 0
  once_so s = once_counted r.scheme r.code (moves r) s (counted_once r.scheme r.code (past r) recorded s)

  pub reserver_so : (s : Serial) → option_and_then (λ (unit_holding : UnitHolding). unit_holding.reserving) (map.get tables.holdings.unit_holdings s) ≡ reserver r.code (moves r) s
  reserver_so s = ap (option_and_then (λ (unit_holding : UnitHolding). unit_holding.reserving)) (unit_holding_so s) ∙ unit_holding_reserver r.scheme r.code (moves r) s (sound_history r.scheme r.code (past r) recorded)

  waits_so : (s : Serial) (t : TransactionId) → reserver r.code (moves r) s ≡ Some t → Waits r.code s (moves r) t
  waits_so s t e = reserver_waits r.scheme r.code s (moves r) t (sound_history r.scheme r.code (past r) recorded) e

  pub reserver_reserves : (s : Serial) (o : Option TransactionId) → o ≡ reserver r.code (moves r) s → IfSome o (IsReserving r s)
  reserver_reserves s o e = if_some o _ (λ t h. let w = waits_so s t (sym e ∙ h) in (w.own, (w.last, w.is, w.new, w.has)))

  pub reserver_only : (s : Serial) (o : Option TransactionId) → o ≡ reserver r.code (moves r) s → (t : TransactionId) → IsReserving r s t → o ≡ Some t
  reserver_only s o e t (own, (x, is_last, new, has)) =
      e
      ∙ waits_reserver r.scheme r.code s (moves r) t (sound_history r.scheme r.code (past r) recorded)
      (record { last = x; is = is_last; new = new; own = own; has = has })

  pub reserver_held : (s : Serial) (o : Option TransactionId) → o ≡ reserver r.code (moves r) s → IfSome o (λ t. holds r.scheme r.code (moves r) s ≡ true)
  reserver_held s o e = if_some o _ (λ t h. waits_held r.scheme r.code s (moves r) t (sound_history r.scheme r.code (past r) recorded) (waits_so s t (sym e ∙ h)))

-- a unit that is held is spendable exactly when none reserves it
pub free_spendable : (r : Core) (s : Serial) (free : Bool) → holds r.scheme r.code (moves r) s ≡ true → not free ≡ is_some (reserver r.code (moves r) s) → free ≡ spendable r.scheme r.code (moves r) s
free_spendable r s free held reserved_is =
    not_not free ∙ ap not (reserved_is ∙ sym (reserved_some r.scheme r.code s (moves r))) ∙ ap (λ b. b && not (reserved r.code (moves r) s)) (sym held)

-- ---- inputs that no registry records

pub clean_up_refused : (r : Core) (input : Input) (moment : Moment) → input ≡ CleanUp moment → IsExpectedOrNoMemory (Err (record { code = no_row })) (answer r.scheme (Registry r.code) r.journal input)
unfolding verdict
clean_up_refused r input moment is = inl (sym (ap (answer r.scheme (Registry r.code) r.journal) is))

pub eligible_refused : (r : Core) (input : Input) (d : Code) (may : Bool) → input ≡ Eligible d may → IsExpectedOrNoMemory (Err (record { code = no_row })) (answer r.scheme (Registry r.code) r.journal input)
unfolding verdict
eligible_refused r input d may is = inl (sym (ap (answer r.scheme (Registry r.code) r.journal) is))
