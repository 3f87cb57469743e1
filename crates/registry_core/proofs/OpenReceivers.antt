-- An account into which a transfer stands Accepted is open: it was open when the transfer was accepted, and a close is
-- refused while one is awaited. A completed transfer can therefore be credited.
use Rattle.status.specs.declared.status.Status.TheVariants.{Accepted, Cancelled, Completed}
use Rattle.wire.specs.declared.input.Input.TheVariants.{Ack, CleanUp, CloseAccount, Eligible, OpenAccount, Propose, Received, Request}
use Rattle.std.proofs.Common.{Bool, List, None, Some, [], ap, cond, false, inl, inr, refl, subst, sym, true, ℕ, ◌==◌, ◌∙◌, ◌∷◌, ◌≡◌}
use Rattle.units.specs.declared.code.Code.{Code}
use Rattle.status.specs.Content.{Content}
use Rattle.safety.proofs.OneRegistry.RecordedEntries.{Entered, entered_made, recorded_causes, entered_registry}
use Rattle.protocol.specs.Deciding.{IsRecorded, recorded_if_room, known}
use Rattle.protocol.specs.History.{Entry, Transition, closes, is_closed, newest, transitions_of}
use Rattle.wire.specs.declared.input.Input.{Input}
use Rattle.accounts.specs.declared.unit_holding.AccountStatus.TheVariants.{Open}
use Rattle.safety.proofs.MovesAndHistories.TableMoves.{RegistryMove, arrives, asks, bares, finishes, proposes, concludes}
use Rattle.scheme.specs.declared.registries.Scheme.{Scheme}
use Rattle.status.specs.declared.id.TransactionId.{TransactionId}
use Rattle.protocol.specs.Checks.{acquirer_causes}
use Rattle.safety.proofs.MovesAndHistories.TableRows.{acquirer_from}
use Rattle.safety.proofs.OneRegistry.UnitsCountedOnce.{and_second}
use Rattle.safety.proofs.MovesAndHistories.TransitionForms.{arrived_status}
use Rattle.units.proofs.Lists.OneValue.{clash, one_some}
use Rattle.protocol.specs.AtRegistry.{close_refusals, holding, is_awaited, registry_verdict}
use Rattle.std.proofs.lemmas.Bool.{eqb-true, false_from_ne_true, not-false}
use Rattle.protocol.specs.Registries.{has_account}
use Rattle.safety.proofs.OneRegistry.StatusesOfAccounts.{is_account_order, open_account_status, account_status_kept, account_status_open}
use Rattle.safety.proofs.MovesAndHistories.NewestTransitions.{made_registry, newest_append, newest_id}
use Rattle.safety.proofs.OneLog.LogInputs.{none_stand}
use Rattle.wire.specs.NotifiedStatuses.{notified_status}
use Rattle.units.specs.Code.{same_code}
use Rattle.registry_core.proofs.AwaitedTransfers.{some_awaited}
use Rattle.protocol.specs.Held.{account_status_at}
use Rattle.std.specs.Prelude.{unwrap_or}

finds_nothing : (found : List ℕ) → arrived_status found ≡ Accepted → found ≡ []
finds_nothing [] h = refl
finds_nothing (n ∷ ns) h = absurd (cc (h))

module _ (scheme : Scheme) (c : Code) where
  -- every transfer into an account that stands Accepted
  abbrev pub ReceiversOpen : List Entry → Type 0
  ReceiversOpen es = (t : TransactionId) (x : Transition) (k : Content) → newest (transitions_of es) t ≡ Some x → same_code t.code c ≡ false → x.new ≡ Accepted → x.content ≡ Some k → account_status_at scheme c es k.to_account ≡ Some Open

  -- one that is accepted now
  accepted_now : (es : List Entry) (input : Input) (x : Transition) (k : Content) → RegistryMove scheme c es input x → same_code x.id.code c ≡ false → x.new ≡ Accepted → x.content ≡ Some k
      → (account_status_at scheme c es k.to_account ≡ Some Open) × (is_account_order input ≡ false)
  accepted_now es input x k (proposes o t none is fresh) foreign new known = absurd (cc (new))
  accepted_now es input x k (asks t q was own stood) foreign new known = absurd (cc (new))
  accepted_now es input x k (arrives p moment found f s is none foreign' mine) foreign new known =
      let causes = none_stand (acquirer_causes scheme c (holding scheme c es) p.content) (sym is ∙ finds_nothing found new) in
      let there = not-false (has_account scheme c p.content.to_account) causes.0 in
      let shut = and_second (has_account scheme c p.content.to_account) (is_closed es p.content.to_account) causes.1.0 there in
      let same : p.content ≡ k = one_some p.content k known in
      (subst (λ (z : Content). account_status_at scheme c es z.to_account ≡ Some Open) same (account_status_open scheme c es p.content.to_account there shut), refl)
  accepted_now es input x k (bares n moment f cancelled none foreign') foreign new known = absurd (cc (new))
  accepted_now es input x k (concludes n moment q new' f was own move) foreign new known =
      clash (same_code q.id.code c) (ap (λ (z : TransactionId). same_code z.code c) (newest_id (transitions_of es) n.id q was).1 ∙ own) foreign
  accepted_now es input x k (finishes n moment q new' f was foreign' move none) foreign new known =
      let m = acquirer_from q.new (notified_status n.notified) new' move in
      elim m.2 [
        | inl e ↦ let y : Accepted ≡ Completed = sym new ∙ m.1 ∙ e in absurd (cc (y))
        | inr e ↦ let y : Accepted ≡ Cancelled = sym new ∙ m.1 ∙ e in absurd (cc (y))
      ]

  -- no order closes an account that a transfer awaits
  stays_open : (es : List Entry) (e : Entry) (account : ℕ) (input : Input) → e.input ≡ input → registry_verdict scheme c es input ≡ IsRecorded e.transitions → is_awaited c (transitions_of es) account ≡ true
      → account_status_at scheme c es account ≡ Some Open → account_status_at scheme c (e ∷ es) account ≡ Some Open
  stays_open es e account (OpenAccount n) is entered awaited old =
      let parts = open_account_status scheme c es account old in
      account_status_open scheme c (e ∷ es) account parts.0 (ap (λ i. unwrap_or (closes account i) (is_closed es account)) is ∙ go (n.value == account) (is_closed es account) parts.1)
    where
      go : (b shut : Bool) → shut ≡ false → unwrap_or (cond b (Some false) None) shut ≡ false
      go true shut h = refl
      go false shut h = h
  stays_open es e account (CloseAccount n) is entered awaited old =
      let parts = open_account_status scheme c es account old in
      let none = recorded_causes (close_refusals scheme c es n.value) (recorded_if_room scheme es []) e.transitions entered in
      let other : (n.value == account) ≡ false =
      false_from_ne_true (n.value == account) (λ y. clash (is_awaited c (transitions_of es) account) awaited (ap (is_awaited c (transitions_of es)) (sym (eqb-true n.value account y)) ∙ none.1.1.1.0)) in
      account_status_open scheme c (e ∷ es) account parts.0 (ap (λ i. unwrap_or (closes account i) (is_closed es account)) is ∙ ap (λ b. unwrap_or (cond b (Some true) None) (is_closed es account)) other ∙ parts.1)
  stays_open es e account (Propose o) is entered awaited old = account_status_kept scheme c es e (ap is_account_order is) account ∙ old
  stays_open es e account (Request t) is entered awaited old = account_status_kept scheme c es e (ap is_account_order is) account ∙ old
  stays_open es e account (Ack n) is entered awaited old = account_status_kept scheme c es e (ap is_account_order is) account ∙ old
  stays_open es e account (CleanUp m) is entered awaited old = account_status_kept scheme c es e (ap is_account_order is) account ∙ old
  stays_open es e account (Eligible d may) is entered awaited old = account_status_kept scheme c es e (ap is_account_order is) account ∙ old
  stays_open es e account (Received m moment) is entered awaited old = account_status_kept scheme c es e (ap is_account_order is) account ∙ old

  pub receivers_open : (es : List Entry) → Entered scheme c es → ReceiversOpen es
  receivers_open [] entered t x k h foreign new known = absurd (cc (h))
  receivers_open (e ∷ es) entered t x k h foreign new known =
      elim (newest_append e.transitions (transitions_of es) t) [
        | inl u ↦
            let was = sym u ∙ h in
            let old = receivers_open es entered.1 t x k was foreign new known in
            let awaited = some_awaited c (transitions_of es) k.to_account (record { id = t; last = x; content = k; is = was; foreign = foreign; new = new; known = known; account_is = refl }) in
            stays_open es e k.to_account e.input refl (entered_registry scheme c e es entered) awaited old
        | inr u ↦
            let j : u.0 ≡ x = one_some u.0 x (sym u.3 ∙ h) in
            let move = subst (λ z. RegistryMove scheme c es e.input z) j (made_registry scheme c e es u.0 (entered_made scheme c (e ∷ es) entered) u.1) in
            let about : x.id ≡ t = ap (λ (z : Transition). z.id) (sym j) ∙ u.2 in
            let now = accepted_now es e.input x k move (ap (λ (z : TransactionId). same_code z.code c) about ∙ foreign) new known in
            account_status_kept scheme c es e now.1 k.to_account ∙ now.0
      ]
