-- How the accounts stand, which cancellations were asked for, and how many orders to transfer units there are, after
-- one more entry.
use Rattle.wire.specs.declared.input.Input.TheVariants.{Ack, CleanUp, CloseAccount, Eligible, OpenAccount, Propose, Received, Request}
use Rattle.std.proofs.Common.{Bool, List, None, Option, Some, ap, arith, cond, false, inl, inr, refl, sym, true, ℕ, ◌+◌, ◌==◌, ◌||◌, ◌∙◌, ◌∷◌, ◌≡◌}
use Rattle.accounts.specs.declared.unit_holding.AccountStatus.TheVariants.{Closed, Open}
use Rattle.units.specs.declared.code.Code.{Code}
use Rattle.protocol.specs.History.{Entry, closes, is_closed, is_proposal_order, is_request_of, is_requested, proposals}
use Rattle.wire.specs.declared.input.Input.{Input}
use Rattle.wire.specs.declared.input.Number.{Number}
use Rattle.status.specs.Order.{Order}
use Rattle.scheme.specs.declared.registries.Scheme.{Scheme}
use Rattle.accounts.specs.declared.unit_holding.AccountStatus.{AccountStatus}
use Rattle.status.specs.declared.id.TransactionId.{TransactionId}
use Rattle.std.proofs.lemmas.Bool.{cases_Bool, cond-false, cond-true, eq-eqb, eqb-false, eqb-true, ne_eqb}
use Rattle.protocol.proofs.CountsInLists.{count_no, count_yes}
use Rattle.protocol.specs.Registries.{has_account}
use Rattle.status.specs.Id.{same_id}
use Rattle.protocol.specs.Held.{account_status_at}
use Rattle.std.specs.Prelude.{if◌then◌else◌, unwrap_or}

equal_either : (m n : ℕ) → (m == n) ≡ (n == m)
equal_either m n =
    elim (cases_Bool (m == n)) [
      | inl y ↦ y ∙ sym (eq-eqb n m (sym (eqb-true m n y)))
      | inr d ↦ d ∙ sym (ne_eqb n m (λ e. eqb-false m n d (sym e)))
    ]

-- the order opens or closes an account
abbrev pub is_account_order : Input → Bool
is_account_order (OpenAccount n) = true
is_account_order (CloseAccount n) = true
is_account_order _ = false

abbrev pub is_request_order : Input → Bool
is_request_order (Request t) = true
is_request_order _ = false

closes_none : (input : Input) → is_account_order input ≡ false → (n : ℕ) → closes n input ≡ None
closes_none (OpenAccount m) e n = absurd (cc (e))
closes_none (CloseAccount m) e n = absurd (cc (e))
closes_none (Propose o) e n = refl
closes_none (Request t) e n = refl
closes_none (Ack m) e n = refl
closes_none (CleanUp t) e n = refl
closes_none (Eligible d may) e n = refl
closes_none (Received m t) e n = refl

asks_nothing : (input : Input) → is_request_order input ≡ false → (t : TransactionId) → is_request_of t input ≡ false
asks_nothing (Request u) e t = absurd (cc (e))
asks_nothing (Propose o) e t = refl
asks_nothing (OpenAccount m) e t = refl
asks_nothing (CloseAccount m) e t = refl
asks_nothing (Ack m) e t = refl
asks_nothing (CleanUp u) e t = refl
asks_nothing (Eligible d may) e t = refl
asks_nothing (Received m u) e t = refl

-- an account of the registry with one status
abbrev stands_so : Bool → Bool → Option AccountStatus
stands_so there shut = cond there (Some (cond shut Closed Open)) None

set_account_status : (b closed there old : Bool) → (b ≡ true → there ≡ true) → stands_so there (unwrap_or (cond b (Some closed) None) old) ≡ cond b (Some (cond closed Closed Open)) (stands_so there old)
set_account_status true closed there old has = cond-true there (Some (cond closed Closed Open)) None (has refl)
set_account_status false closed there old has = refl

module _ (scheme : Scheme) (c : Code) (es : List Entry) where
  -- ---- one more entry

  account_set : (m : ℕ) (closed : Bool) → has_account scheme c m ≡ true → (n : ℕ)
      → stands_so (has_account scheme c n) (unwrap_or (cond (m == n) (Some closed) None) (is_closed es n)) ≡ cond (n == m) (Some (cond closed Closed Open)) (account_status_at scheme c es n)
  account_set m closed known n =
      set_account_status (m == n) closed (has_account scheme c n) (is_closed es n) (λ y. ap (has_account scheme c) (sym (eqb-true m n y)) ∙ known)
      ∙ ap (λ b. cond b (Some (cond closed Closed Open)) (account_status_at scheme c es n)) (equal_either m n)

  pub account_status_opened : (e : Entry) (account : Number) → e.input ≡ OpenAccount account → has_account scheme c account.value ≡ true → (n : ℕ)
      → account_status_at scheme c (e ∷ es) n ≡ (if n == account.value then Some Open else account_status_at scheme c es n)
  account_status_opened e account is known n = ap (λ i. stands_so (has_account scheme c n) (unwrap_or (closes n i) (is_closed es n))) is ∙ account_set account.value false known n

  pub account_status_closed : (e : Entry) (account : Number) → e.input ≡ CloseAccount account → has_account scheme c account.value ≡ true → (n : ℕ)
      → account_status_at scheme c (e ∷ es) n ≡ (if n == account.value then Some Closed else account_status_at scheme c es n)
  account_status_closed e account is known n = ap (λ i. stands_so (has_account scheme c n) (unwrap_or (closes n i) (is_closed es n))) is ∙ account_set account.value true known n

  pub account_status_kept : (e : Entry) → is_account_order e.input ≡ false → (n : ℕ) → account_status_at scheme c (e ∷ es) n ≡ account_status_at scheme c es n
  account_status_kept e other n = ap (λ o. stands_so (has_account scheme c n) (unwrap_or o (is_closed es n))) (closes_none e.input other n)

  -- ---- what a status says

  pub account_status_unknown : (n : ℕ) → has_account scheme c n ≡ false → account_status_at scheme c es n ≡ None
  account_status_unknown n e = cond-false (has_account scheme c n) (Some (cond (is_closed es n) Closed Open)) None e

  pub account_status_open : (n : ℕ) → has_account scheme c n ≡ true → is_closed es n ≡ false → account_status_at scheme c es n ≡ Some Open
  account_status_open n there shut = ap (λ b. stands_so b (is_closed es n)) there ∙ ap (stands_so true) shut

  pub account_status_shut : (n : ℕ) → has_account scheme c n ≡ true → is_closed es n ≡ true → account_status_at scheme c es n ≡ Some Closed
  account_status_shut n there shut = ap (λ b. stands_so b (is_closed es n)) there ∙ ap (stands_so true) shut

  pub unknown_account_status : (n : ℕ) → account_status_at scheme c es n ≡ None → has_account scheme c n ≡ false
  unknown_account_status n e = go (has_account scheme c n) (is_closed es n) e
    where
      go : (there shut : Bool) → stands_so there shut ≡ None → there ≡ false
      go true shut h = absurd (cc (h))
      go false shut h = refl

  pub open_account_status : (n : ℕ) → account_status_at scheme c es n ≡ Some Open → (has_account scheme c n ≡ true) × (is_closed es n ≡ false)
  open_account_status n e = go (has_account scheme c n) (is_closed es n) e
    where
      go : (there shut : Bool) → stands_so there shut ≡ Some Open → (there ≡ true) × (shut ≡ false)
      go true true h = absurd (cc (h))
      go true false h = (refl, refl)
      go false shut h = absurd (cc (h))

  pub shut_account_status : (n : ℕ) → account_status_at scheme c es n ≡ Some Closed → (has_account scheme c n ≡ true) × (is_closed es n ≡ true)
  shut_account_status n e = go (has_account scheme c n) (is_closed es n) e
    where
      go : (there shut : Bool) → stands_so there shut ≡ Some Closed → (there ≡ true) × (shut ≡ true)
      go true true h = (refl, refl)
      go true false h = absurd (cc (h))
      go false shut h = absurd (cc (h))

-- ---- what was ordered

pub requested_more : (e : Entry) (es : List Entry) (u t : TransactionId) → e.input ≡ Request u → is_requested (e ∷ es) t ≡ (same_id u t || is_requested es t)
requested_more e es u t is = ap (λ i. is_request_of t i || is_requested es t) is

pub requested_kept : (e : Entry) (es : List Entry) → is_request_order e.input ≡ false → (t : TransactionId) → is_requested (e ∷ es) t ≡ is_requested es t
requested_kept e es other t = ap (λ b. b || is_requested es t) (asks_nothing e.input other t)

pub proposals_more : (e : Entry) (es : List Entry) (o : Order) → e.input ≡ Propose o → proposals (e ∷ es) ≡ proposals es + 1
proposals_more e es o is = let more = count_yes (λ (f : Entry). is_proposal_order f.input) e es (ap is_proposal_order is) in omega arith

pub proposals_kept : (e : Entry) (es : List Entry) → is_proposal_order e.input ≡ false → proposals (e ∷ es) ≡ proposals es
proposals_kept e es other = count_no (λ (f : Entry). is_proposal_order f.input) e es other
