-- The verdict on a message that a registry refuses, and the effect of one that ends a transfer to it.
use Rattle.std.proofs.Common.{◌≡◌, ℕ, Bool, true, false, not, List, [], Some, None, inl, inr, refl, sym, ap, subst, ◌∙◌}
use Rattle.std.specs.FinMap as map
use Rattle.std.specs.Prelude.{is_some}
use Rattle.std.proofs.lemmas.Bool.{cases_Bool, cond-true, cond-false, or_parts}
use Rattle.units.specs.Code.{same_code}
use Rattle.units.specs.RefusalCodes.{no_row}
use Rattle.units.specs.declared.code.Code.{Code}
use Rattle.units.specs.declared.code.Node.TheVariants.{Registry}
use Rattle.status.specs.Rows.{acquirer_row, initiator_row}
use Rattle.status.specs.Status.{same_status}
use Rattle.status.specs.declared.rows.RecordedStatus.{RecordedStatus}
use Rattle.status.specs.declared.rows.RecordedStatus.TheVariants.{Bare, Stands, Unknown}
use Rattle.status.specs.declared.rows.Row.TheVariants.{Move, Refused}
use Rattle.status.specs.declared.rows.RowInput.TheVariants as column
use Rattle.status.specs.declared.rows.RowInput.TheVariants.{Notified}
use Rattle.status.specs.declared.status.Status.{Status}
use Rattle.status.specs.declared.status.Status.TheVariants.{Proposed, Checked, Accepted, Rejected, Terminated, Cancelled, Completed}
use Rattle.wire.specs.declared.input.Input.TheVariants.{Received}
use Rattle.wire.specs.declared.message.Message.{Message}
use Rattle.protocol.proofs.MessageForms as message
use Rattle.protocol.proofs.MessageForms.{ProposalMessage, NotificationMessage, RequestMessage}
use Rattle.scheme.specs.declared.registries.Scheme.{Scheme}
use Rattle.status.specs.declared.moment.Moment.{Moment}
use Rattle.protocol.specs.AtRegistry.{holding, holds_some, registry_answer, registry_refusals, unless_held}
use Rattle.protocol.specs.Deciding as decide
use Rattle.protocol.specs.Effects.{acquirer_sends, initiator_sends}
use Rattle.units.proofs.Lists.OneValue.{clash}
use Rattle.protocol.specs.Deciding.{IsRefused, by_row, content_in, known}
use Rattle.protocol.specs.History.{Entry, Transition, newest, transitions_of}
use Rattle.protocol.specs.Verdict.{history}
use Rattle.checks.specs.Knowing.{Knows}
use Rattle.checks.specs.Refusing.{first_of}
use Rattle.safety.proofs.MovesAndHistories.RefusalCauses.{refuse_none}
use Rattle.safety.proofs.MovesAndHistories.TableRows.{acquirer_from, acquirer_notified, unless_moves}
use Rattle.safety.proofs.ListLemmas.TestsOfSameness.{status_of_same}
use Rattle.registry_core.specs.Effects.{IsEffect, ending}
use Rattle.registry_core.specs.Kept.{IsKept}
use Rattle.registry_core.specs.Readings.{is_foreign}
use Rattle.registry_core.specs.Taking.{verdict_by_rules}
use Rattle.registry_core.specs.declared.tables.Tables.{Tables}
use Rattle.checks.proofs.FirstCauses.{refuse_first}
use Rattle.registry_core.proofs.FirstRefusals.{first_none}
use Rattle.registry_core.proofs.KnownHoldings.{knows}
use Rattle.safety.proofs.OneRegistry.RecordedEntries.{entered_made, replays_entered}
use Rattle.registry_core.proofs.TablesSayHistory.{foreign_there_so}
use Rattle.registry_core.proofs.TakenInputs.{verdict_so}

-- what the holdings know is what the history says
pub knows_so : (scheme : Scheme) (c : Code) (tables : Tables) → IsKept scheme c tables → Knows scheme c tables.holdings (holding scheme c (history scheme (Registry c) tables.records.inputs))
knows_so scheme c tables kept =
    let es = history scheme (Registry c) tables.records.inputs in
    knows scheme c es (entered_made scheme c es (replays_entered scheme c tables.records.inputs kept.records.replays)) tables.holdings kept.kept.unit_holdings kept.kept.accounts

-- ---- messages

-- a proposal that is welcome isn't of this registry
pub welcome_foreign : (c : Code) (es : List Entry) (p : ProposalMessage) → first_of (registry_refusals c es (message.proposal p)) ≡ None → same_code p.id.code c ≡ false
welcome_foreign c es p none =
    let h = (first_none (registry_refusals c es (message.proposal p)) none).1.1.0 in
    (or_parts (same_code p.id.code c) _ (or_parts (not (same_code p.content.acquirer c)) _ h).1).0

module _ (scheme : Scheme) (c : Code) (tables : Tables) (kept : IsKept scheme c tables) where
  -- what ends a transfer to the registry is its effect
  pub ending_effect : (n : NotificationMessage) (moment : Moment) (told new : Status) (held : Bool) (x : Transition) → same_code n.id.code c ≡ false → x.new ≡ new
      → unless_held held (acquirer_row (known (newest (transitions_of (history scheme (Registry c) tables.records.inputs)) n.id)) (Notified told)) ≡ Move new
      → IsEffect c (history scheme (Registry c) tables.records.inputs) (Received (message.notification n) moment) x (ending (is_some (map.get tables.acquirer.transfers n.id)) n.id new)
  ending_effect n moment told new held x foreign stood move =
      let es = history scheme (Registry c) tables.records.inputs in
      let i = Received (message.notification n) moment in
      let there = foreign_there_so scheme c tables kept n.id foreign in
      let other : is_foreign c n.id ≡ true = ap not foreign in
      elim (cases_Bool (is_some (map.get tables.acquirer.transfers n.id))) [
        | inr none ↦ subst (λ b. IsEffect c es i x (ending b n.id new)) (sym none) (refl, there ∙ none)
        | inl some ↦
            subst (λ b. IsEffect c es i x (ending b n.id new)) (sym some)
            (elim (cases_Bool (same_status new Completed)) [
              | inl y ↦ subst (λ e. IsEffect c es i x e) (sym (cond-true (same_status new Completed) _ _ y)) (refl, stood ∙ status_of_same new Completed y, other, there ∙ some)
              | inr isnt ↦ subst (λ e. IsEffect c es i x e) (sym (cond-false (same_status new Completed) _ _ isnt)) (refl, stood ∙ cancelled isnt, other, there ∙ some)
            ])
      ]
    where
      row : acquirer_row (known (newest (transitions_of (history scheme (Registry c) tables.records.inputs)) n.id)) (Notified told) ≡ Move new
      row = (unless_moves held (acquirer_row (known (newest (transitions_of (history scheme (Registry c) tables.records.inputs)) n.id)) (Notified told)) new move).0

      cancelled : same_status new Completed ≡ false → new ≡ Cancelled
      cancelled isnt =
          elim (acquirer_notified (known (newest (transitions_of (history scheme (Registry c) tables.records.inputs)) n.id)) told new row) [
            | inr e ↦ e.2
            | inl e ↦
                let f = acquirer_from e.0 told new (subst (λ k. acquirer_row k (Notified told) ≡ Move new) e.1 row) in
                elim f.2 [
                  | inl done ↦ clash (same_status new Completed) (ap (λ z. same_status z Completed) (f.1 ∙ done)) isnt
                  | inr gone ↦ f.1 ∙ gone
                ]
          ]

  unasked_initiator : (k : RecordedStatus) → initiator_row k column.Request ≡ Refused
  unasked_initiator Unknown = refl
  unasked_initiator Bare = refl
  unasked_initiator (Stands Proposed) = refl
  unasked_initiator (Stands Completed) = refl
  unasked_initiator (Stands Rejected) = refl
  unasked_initiator (Stands Terminated) = refl
  unasked_initiator (Stands Cancelled) = refl
  unasked_initiator (Stands Checked) = refl
  unasked_initiator (Stands Accepted) = refl

  unheld_refused : (held : Bool) → unless_held held Refused ≡ Refused
  unheld_refused true = refl
  unheld_refused false = refl

  unasked_acquirer : (k : RecordedStatus) → acquirer_row k column.Request ≡ Refused
  unasked_acquirer Unknown = refl
  unasked_acquirer Bare = refl
  unasked_acquirer (Stands Proposed) = refl
  unasked_acquirer (Stands Completed) = refl
  unasked_acquirer (Stands Rejected) = refl
  unasked_acquirer (Stands Terminated) = refl
  unasked_acquirer (Stands Cancelled) = refl
  unasked_acquirer (Stands Checked) = refl
  unasked_acquirer (Stands Accepted) = refl

  -- no registry takes a request
  pub request_refused : (r : RequestMessage) (moment : Moment) → first_of (registry_refusals c (history scheme (Registry c) tables.records.inputs) (message.request r)) ≡ None → verdict_by_rules scheme c tables (Received (message.request r) moment) ≡ IsRefused no_row
  request_refused r moment none =
      let es = history scheme (Registry c) tables.records.inputs in
      let last = newest (transitions_of es) r.id in
      let to = decide.moved r.id (content_in last) moment.seconds in
      verdict_so scheme c tables (Received (message.request r) moment)
      ∙ refuse_none (registry_refusals c es (message.request r)) _ (first_none (registry_refusals c es (message.request r)) none)
      ∙ (elim (cases_Bool (same_code r.id.code c)) [
        | inl own ↦ cond-true (same_code r.id.code c) _ _ own ∙ ap (by_row scheme es (to (initiator_sends c r.id (content_in last) column.Request))) (unasked_initiator (known last))
        | inr other ↦
            cond-false (same_code r.id.code c) _ _ other
            ∙ ap (by_row scheme es (to (acquirer_sends c r.id [] column.Request))) (ap (unless_held (holds_some scheme c (transitions_of es) (content_in last))) (unasked_acquirer (known last)) ∙ unheld_refused (holds_some scheme c (transitions_of es) (content_in last)))
      ])

  pub message_refused : (m : Message) (moment : Moment) (code : ℕ) → first_of (registry_refusals c (history scheme (Registry c) tables.records.inputs) m) ≡ Some code → verdict_by_rules scheme c tables (Received m moment) ≡ IsRefused code
  message_refused m moment code first =
      let es = history scheme (Registry c) tables.records.inputs in
      verdict_so scheme c tables (Received m moment) ∙ refuse_first (registry_refusals c es m) (registry_answer scheme c es moment.seconds m.id m.body) code first
