-- The effect that a record asks for may be carried out.
use Rattle.std.specs.BTreeSet.{contains}
use Rattle.std.specs.FinMap as finite
use Rattle.std.proofs.Common.{◌≡◌, ℕ, List, Some, refl, ap, subst, ◌∙◌}
use Rattle.std.specs.BTreeMap as tree
use Rattle.std.specs.Prelude.{if◌then◌else◌}
use Rattle.units.specs.Code.{same_code}
use Rattle.units.specs.Keys.{code_cmp}
use Rattle.status.specs.declared.status.Status.TheVariants.{Checked}
use Rattle.wire.specs.declared.input.Input.{Input}
use Rattle.wire.specs.declared.input.Input.TheVariants.{CleanUp, Received}
use Rattle.wire.specs.declared.message.Message.{Message}
use Rattle.records.specs.Sending.{Sends}
use Rattle.protocol.specs.Outgoing.{did}
use Rattle.scheme.specs.declared.registries.Scheme.{Scheme}
use Rattle.protocol.specs.Deciding.{IsRecorded}
use Rattle.protocol.specs.History.{Transition}
use Rattle.safety.proofs.ListLemmas.TestsOfSameness.{status_of_same}
use Rattle.log_core.specs.Effects.{AreEffects, Carried, CarriedOut, IsEffect, owner_after, transfer_state_after, transfer_state_in, under_way_after, waits_after}
use Rattle.log_core.specs.Kept.{IsKept, waiting_cmp}
use Rattle.log_core.specs.Taking.{IsMessageOrCleanUp, verdict_by_rules}
use Rattle.log_core.specs.Transfers.{AreApart, IsAllowed, MayCarry, transfer_state_of}
use Rattle.log_core.specs.declared.effect.LogEffect.{LogEffect}
use Rattle.log_core.specs.declared.effect.LogEffect.TheVariants as effects
use Rattle.log_core.specs.declared.effect.LogEffect.TheVariants.{Transfers}
use Rattle.log_core.specs.declared.effect.TransferEffect.{TransferEffect}
use Rattle.log_core.specs.declared.effect.TransferEffect.TheVariants.{Begin, Advance, Cancel}
use Rattle.log_core.specs.declared.tables.Tables.{Tables}
use Rattle.log_core.proofs.KnownApart.{begin_apart, advance_apart}
use Rattle.log_core.proofs.KnownEffects.{advanced_unchecked}

pub effect_apart : (scheme : Scheme) (tables : Tables) (input : Input) (xs : List Transition) (effect : TransferEffect) (moment : ℕ) → IsKept scheme tables → verdict_by_rules scheme tables input ≡ IsRecorded xs → IsEffect xs moment effect
    → AreApart (transfer_state_in tables) effect
effect_apart scheme tables input xs (Begin id new content) moment kept enters h =
    λ stands k blocks is units. begin_apart scheme tables input xs moment enters id new k blocks (subst (λ c. IsEffect xs moment (Begin id new c)) is h) (status_of_same new Checked stands) units
effect_apart scheme tables input xs (Advance id new) moment kept enters h = (
  advanced_unchecked new h.5,
  λ done k blocks is units. advance_apart scheme tables input xs moment enters id new k blocks kept h is units,
)
effect_apart scheme tables input xs (Cancel ids) moment kept enters h = tt

-- tables that differ in their records alone
abbrev pub HaveSameRows : Tables → Tables → Type 0
HaveSameRows tables tables' = (tables'.register ≡ tables.register) × (tables'.transfers ≡ tables.transfers) × (tables'.checked ≡ tables.checked)

-- to them an effect does the same
pub same_carried : (effect : TransferEffect) (moment : ℕ) (before other after tables' : Tables) → HaveSameRows other before → HaveSameRows after tables' → Carried effect moment before after → Carried effect moment other tables'
same_carried effect moment before other after tables' was is h =
    let transfer_states : transfer_state_in before ≡ transfer_state_in other = λ i t. transfer_state_of (was.1 i) t in
    record {
      allotments = ap (λ r. r.allotments) is.0 ∙ h.allotments ∙ ap (λ r. r.allotments) was.0;
      orders = ap (λ r. r.orders) is.0 ∙ h.orders ∙ ap (λ r. r.orders) was.0;
      transfers = λ t. ap (λ m. transfer_state_of m t) is.1 ∙ h.transfers t ∙ ap (λ f. transfer_state_after effect moment f t) transfer_states;
      under_way = λ s. ap (λ r. finite.get r.under_way s) is.0 ∙ h.under_way s ∙ ap (λ r. under_way_after effect s (finite.get r.under_way s)) was.0;
      book = λ s. ap (λ r. finite.get r.book s) is.0 ∙ h.book s ∙ (λ i. owner_after effect (transfer_states i) s (finite.get (was.0 i).book s));
      checked = λ w. ap (λ c. contains waiting_cmp c w) is.2 ∙ h.checked w ∙ ap (λ c. waits_after effect moment w (contains waiting_cmp c w)) was.2;
    }

pub same_carried_out : (effect : LogEffect) (before other after : Tables) → HaveSameRows other before → CarriedOut effect before after → CarriedOut effect other after
same_carried_out (Transfers effect moment) before other after was h = same_carried effect moment.seconds before other after after was (refl, refl, refl) h
same_carried_out (effects.Eligible registry may) before other after was h =
    record {
      allotments = h.allotments ∙ ap (λ r. r.allotments) was.0;
      book = h.book ∙ ap (λ r. r.book) was.0;
      under_way = h.under_way ∙ ap (λ r. r.under_way) was.0;
      transfers = h.transfers ∙ was.1;
      checked = h.checked ∙ was.2;
      orders = λ d. h.orders d ∙ ap (λ r. if same_code registry d then Some may else tree.get code_cmp r.orders d) was.0;
    }

-- what the log allows, and what its records ask for, may be carried out
pub may_carry : (scheme : Scheme) (tables : Tables) (input : Input) (xs : List Transition) (effect : LogEffect) → IsKept scheme tables → verdict_by_rules scheme tables input ≡ IsRecorded xs → AreEffects input xs effect
    → IsAllowed (transfer_state_in tables) effect → MayCarry (transfer_state_in tables) effect
may_carry scheme tables input xs (Transfers effect moment) kept enters h allowed = (allowed, effect_apart scheme tables input xs effect moment.seconds kept enters h.1)
may_carry scheme tables input xs (effects.Eligible registry may) kept enters h allowed = tt

moves_send : (ms : List Message) (input : Input) → IsMessageOrCleanUp input → did input ms ≡ Sends ms
moves_send ms (Received m moment) h = refl
moves_send ms (CleanUp moment) h = refl
moves_send ms _ h = absurd h

-- an input that has an effect is no acknowledgement, and sends what its transitions say
pub effects_send : (ms : List Message) (input : Input) (xs : List Transition) (effect : LogEffect) → AreEffects input xs effect → did input ms ≡ Sends ms
effects_send ms input xs (Transfers effect moment) h = moves_send ms input h.0
effects_send ms input xs (effects.Eligible registry may) h = ap (λ (i : Input). did i ms) h.0
