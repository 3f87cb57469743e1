-- The tables are readings of the longer history as they were of the shorter one: after an order on a registry's
-- eligibility, after an acknowledgement, and after any effect.
use Rattle.std.specs.FinMap as finite
use Rattle.std.specs.BTreeMap as tree
use Rattle.std.specs.BTreeSet.{contains}
use Rattle.std.proofs.Common.{Bool, List, None, Option, Some, [], ap, cond, false, refl, sym, true, ◌++◌, ◌∙◌, ◌∷◌, ◌≡◌}
use Rattle.std.specs.Prelude.{if◌then◌else◌}
use Rattle.std.specs.Option.{option_or}
use Rattle.units.specs.Code.{same_code}
use Rattle.units.specs.Keys.{code_cmp}
use Rattle.units.specs.declared.code.Code.{Code}
use Rattle.units.specs.declared.code.Node.TheVariants.{Itl}
use Rattle.wire.specs.declared.input.Input.{Input}
use Rattle.wire.specs.declared.input.Input.TheVariants.{Ack, Eligible}
use Rattle.wire.specs.declared.input.Number.{Number}
use Rattle.scheme.specs.declared.registries.Scheme.{Scheme}
use Rattle.protocol.specs.Deciding.{IsRecorded}
use Rattle.protocol.specs.History.{Entry, Transition}
use Rattle.protocol.specs.Verdict.{history}
use Rattle.log_core.specs.Effects.{AreEffects, CarriedOut, IsOrdered, transfer_state_in}
use Rattle.log_core.specs.Kept.{AreKept, IsKept, waiting_cmp}
use Rattle.log_core.specs.Readings.{last_order}
use Rattle.log_core.specs.Taking.{verdict_by_rules}
use Rattle.log_core.specs.Transfers.{IsAllowed, transfer_state_of}
use Rattle.log_core.specs.declared.effect.LogEffect.{LogEffect}
use Rattle.log_core.specs.declared.effect.LogEffect.TheVariants as effects
use Rattle.log_core.specs.declared.effect.LogEffect.TheVariants.{Transfers}
use Rattle.log_core.specs.declared.tables.Tables.{Tables}
use Rattle.log_core.proofs.KeptByMoves.{kept_moved, kept_recorded}
use Rattle.log_core.proofs.KeptUnits.{entry}

module _ (scheme : Scheme) (es : List Entry) (tables tables' : Tables) (kept : AreKept scheme es tables) where
  -- one record more without a transition
  unmoved_kept : (input : Input) → tables'.register.allotments ≡ tables.register.allotments → tables'.register.book ≡ tables.register.book
      → tables'.register.under_way ≡ tables.register.under_way → ((c : Code) → tree.get code_cmp tables'.register.orders c ≡ last_order (entry input [] ∷ es) c) → tables'.transfers ≡ tables.transfers
      → tables'.checked ≡ tables.checked → AreKept scheme (entry input [] ∷ es) tables'
  unmoved_kept input allotments book under_way orders transfers checked =
      record {
        allotments = λ s. ap (λ m. finite.get m s) allotments ∙ kept.allotments s;
        book = λ s. ap (λ m. finite.get m s) book ∙ kept.book s;
        under_way = λ s. ap (λ m. finite.get m s) under_way ∙ kept.under_way s;
        orders = orders;
        transfers = λ t. ap (λ m. transfer_state_of m t) transfers ∙ kept.transfers t;
        checked = λ w. ap (λ c. contains waiting_cmp c w) checked ∙ kept.checked w;
      }

-- the last order after one for that registry
ordered : (b may : Bool) (o : Option Bool) → cond b (Some may) o ≡ option_or (cond b (Some may) None) o
ordered true may o = refl
ordered false may o = refl

pub kept_eligible : (scheme : Scheme) (tables tables' : Tables) (input : Input) (c : Code) (may : Bool) → IsKept scheme tables → input ≡ Eligible c may → verdict_by_rules scheme tables input ≡ IsRecorded [] → IsOrdered c may tables tables'
    → tables'.records.inputs ≡ tables.records.inputs ++ input ∷ [] → AreKept scheme (history scheme Itl tables'.records.inputs) tables'
kept_eligible scheme tables tables' input c may kept is entered done journal =
    let es = history scheme Itl tables.records.inputs in
    kept_recorded scheme tables tables' input [] entered journal
    (unmoved_kept scheme es tables tables' kept.kept input done.allotments done.book done.under_way
    (λ d. done.orders d ∙ ap (λ (o : Option Bool). if same_code c d then Some may else o) (kept.kept.orders d) ∙ ordered (same_code c d) may (last_order es d)
    ∙ ap (λ (i : Input). last_order (entry i [] ∷ es) d) (sym is)) done.transfers done.checked)

pub kept_acknowledged : (scheme : Scheme) (tables tables' : Tables) (key : Number) → IsKept scheme tables → verdict_by_rules scheme tables (Ack key) ≡ IsRecorded [] → tables'.register ≡ tables.register → tables'.transfers ≡ tables.transfers
    → tables'.checked ≡ tables.checked → tables'.records.inputs ≡ tables.records.inputs ++ Ack key ∷ [] → AreKept scheme (history scheme Itl tables'.records.inputs) tables'
kept_acknowledged scheme tables tables' key kept entered register transfers checked journal =
    let es = history scheme Itl tables.records.inputs in
    kept_recorded scheme tables tables' (Ack key) [] entered journal
    (unmoved_kept scheme es tables tables' kept.kept (Ack key) (ap (λ r. r.allotments) register) (ap (λ r. r.book) register) (ap (λ r. r.under_way) register)
    (λ c. ap (λ r. tree.get code_cmp r.orders c) register ∙ kept.kept.orders c) transfers checked)

-- ---- any effect

pub kept_carried : (scheme : Scheme) (tables tables' : Tables) (input : Input) (xs : List Transition) (effect : LogEffect) → IsKept scheme tables → verdict_by_rules scheme tables input ≡ IsRecorded xs → AreEffects input xs effect
    → IsAllowed (transfer_state_in tables) effect → CarriedOut effect tables tables' → tables'.records.inputs ≡ tables.records.inputs ++ input ∷ [] → AreKept scheme (history scheme Itl tables'.records.inputs) tables'
kept_carried scheme tables tables' input xs (Transfers effect moment) kept enters h allowed carried journal = kept_moved scheme tables tables' input xs effect moment.seconds kept enters h.0 h.1 allowed carried journal
kept_carried scheme tables tables' input xs (effects.Eligible registry may) kept enters h allowed carried journal =
    kept_eligible scheme tables tables' input registry may kept h.0 (enters ∙ ap (λ (l : List Transition). IsRecorded l) h.1) carried journal
