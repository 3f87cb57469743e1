-- The verdicts on orders to open and close accounts, by what holdings say: their statuses, their units, and which
-- transfers are awaited.
use Rattle.std.specs.FinMap as map
use Rattle.wire.specs.declared.input.Input.TheVariants.{CloseAccount, OpenAccount}
use Rattle.accounts.specs.declared.unit_holding.AccountStatus.TheVariants.{Closed, Open}
use Rattle.units.specs.declared.code.Code.{Code}
use Rattle.protocol.specs.History.{Entry, is_closed, transitions_of}
use Rattle.accounts.specs.Refusals.{HasUnits, IsCloseRefusal, IsOpenRefusal}
use Rattle.accounts.specs.Holdings.{HoldingsView}
use Rattle.protocol.specs.Deciding.{IsRefused, recorded_if_room, refuse}
use Rattle.std.proofs.Common.{List, None, Some, [], ap, cond, false, inl, inr, not, sym, true, ℕ, ◌∙◌, ◌∷◌, ◌≡◌}
use Rattle.wire.specs.declared.input.Number.{Number}
use Rattle.scheme.specs.declared.registries.Scheme.{Scheme}
use Rattle.units.specs.declared.block.Unit.{Unit as Serial}
use Rattle.units.specs.RefusalCodes.{already_so, holds_units, transfer_accepted, unknown_account}
use Rattle.std.proofs.lemmas.Bool.{false_from_ne_true}
use Rattle.protocol.specs.Registries.{has_account}
use Rattle.protocol.specs.AtRegistry.{is_awaited, is_used, registry_verdict}
use Rattle.protocol.specs.Held.{unit_holding_at, account_status_at}
use Rattle.safety.proofs.OneRegistry.StatusesOfAccounts.{open_account_status, shut_account_status, unknown_account_status}
use Rattle.safety.proofs.OneRegistry.UsedAccounts.{units_used, used_units}

module _ (scheme : Scheme) (c : Code) (es : List Entry) (held : HoldingsView) (accounts : (n : ℕ) → map.get held.accounts n ≡ account_status_at scheme c es n) where
  there_open : (n : ℕ) → map.get held.accounts n ≡ Some Open → (has_account scheme c n ≡ true) × (is_closed es n ≡ false)
  there_open n e = open_account_status scheme c es n (sym (accounts n) ∙ e)

  there_shut : (n : ℕ) → map.get held.accounts n ≡ Some Closed → (has_account scheme c n ≡ true) × (is_closed es n ≡ true)
  there_shut n e = shut_account_status scheme c es n (sym (accounts n) ∙ e)

  not_there : (n : ℕ) → map.get held.accounts n ≡ None → has_account scheme c n ≡ false
  not_there n e = unknown_account_status scheme c es n (sym (accounts n) ∙ e)

  refused_by : (a code : ℕ) → code ≡ a → IsRefused a ≡ IsRefused code
  refused_by a code e = ap (λ (n : ℕ). IsRefused n) (sym e)

  -- ---- to open

  pub opening_enters : (account : Number) → map.get held.accounts account.value ≡ Some Closed → registry_verdict scheme c es (OpenAccount account) ≡ recorded_if_room scheme es []
  opening_enters account e =
      let s = there_shut account.value e in
      λ i. cond (not (s.0 i)) (IsRefused unknown_account) (cond (not (s.1 i)) (IsRefused already_so) (recorded_if_room scheme es []))

  pub opening_refused : (account : Number) (code : ℕ) → IsOpenRefusal held account.value code → registry_verdict scheme c es (OpenAccount account) ≡ IsRefused code
  opening_refused account code (inl h) =
      let there = not_there account.value h.1 in
      (λ i. cond (not (there i)) (IsRefused unknown_account) (cond (not (is_closed es account.value)) (IsRefused already_so) (recorded_if_room scheme es []))) ∙ refused_by unknown_account code h.0
  opening_refused account code (inr h) =
      let s = there_open account.value h.1 in
      (λ i. cond (not (s.0 i)) (IsRefused unknown_account) (cond (not (s.1 i)) (IsRefused already_so) (recorded_if_room scheme es []))) ∙ refused_by already_so code h.0

  -- ---- to close

  module _ (unit_holdings : (s : Serial) → map.get held.unit_holdings s ≡ unit_holding_at scheme c (transitions_of es) s) where
    used_not : (n : ℕ) → (HasUnits held n → ⊥) → is_used scheme c (transitions_of es) n ≡ false
    used_not n none = false_from_ne_true (is_used scheme c (transitions_of es) n) (λ y. none (used_units scheme c (transitions_of es) n held unit_holdings y))

    pub closing_enters : (account : Number) → map.get held.accounts account.value ≡ Some Open → (HasUnits held account.value → ⊥) → is_awaited c (transitions_of es) account.value ≡ false
        → registry_verdict scheme c es (CloseAccount account) ≡ recorded_if_room scheme es []
    closing_enters account e none awaited =
        let s = there_open account.value e in
        let used = used_not account.value none in
        λ i. cond (not (s.0 i)) (IsRefused unknown_account) (cond (s.1 i) (IsRefused already_so) (cond (used i) (IsRefused holds_units) (cond (awaited i) (IsRefused transfer_accepted) (recorded_if_room scheme es []))))

    -- as holdings refuse it
    pub closing_refused : (account : Number) (code : ℕ) → IsCloseRefusal held account.value code → registry_verdict scheme c es (CloseAccount account) ≡ IsRefused code
    closing_refused account code (inl h) =
        let there = not_there account.value h.1 in
        let rest = refuse ((is_closed es account.value, already_so) ∷ (is_used scheme c (transitions_of es) account.value, holds_units) ∷ (is_awaited c (transitions_of es) account.value, transfer_accepted) ∷ []) (recorded_if_room scheme es []) in
        (λ i. cond (not (there i)) (IsRefused unknown_account) rest) ∙ refused_by unknown_account code h.0
    closing_refused account code (inr (inl h)) =
        let s = there_shut account.value h.1 in
        let rest = refuse ((is_used scheme c (transitions_of es) account.value, holds_units) ∷ (is_awaited c (transitions_of es) account.value, transfer_accepted) ∷ []) (recorded_if_room scheme es []) in
        (λ i. cond (not (s.0 i)) (IsRefused unknown_account) (cond (s.1 i) (IsRefused already_so) rest)) ∙ refused_by already_so code h.0
    closing_refused account code (inr (inr h)) =
        let s = there_open account.value h.1 in
        let used = units_used scheme c (transitions_of es) account.value held unit_holdings h.2 in
        let rest = refuse ((is_awaited c (transitions_of es) account.value, transfer_accepted) ∷ []) (recorded_if_room scheme es []) in
        (λ i. cond (not (s.0 i)) (IsRefused unknown_account) (cond (s.1 i) (IsRefused already_so) (cond (used i) (IsRefused holds_units) rest))) ∙ refused_by holds_units code h.0

    -- as an awaited transfer does
    pub closing_awaited : (account : Number) → map.get held.accounts account.value ≡ Some Open → (HasUnits held account.value → ⊥) → is_awaited c (transitions_of es) account.value ≡ true
        → registry_verdict scheme c es (CloseAccount account) ≡ IsRefused transfer_accepted
    closing_awaited account e none awaited =
        let s = there_open account.value e in
        let used = used_not account.value none in
        λ i. cond (not (s.0 i)) (IsRefused unknown_account) (cond (s.1 i) (IsRefused already_so) (cond (used i) (IsRefused holds_units) (cond (awaited i) (IsRefused transfer_accepted) (recorded_if_room scheme es []))))
