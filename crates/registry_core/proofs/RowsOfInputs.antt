-- The verdict on each input that goes by a table, by the rows that the registry's own tables give.
use Rattle.std.proofs.Common.{◌≡◌, ℕ, ◌+◌, ◌&&◌, not, cond, true, false, List, [], ◌∷◌, Some, None, inl, inr, sym, ap, ◌∙◌}
use Rattle.std.specs.FinMap as map
use Rattle.std.specs.List.{list_any}
use Rattle.std.specs.Option.{option_map_or}
use Rattle.std.specs.Prelude.{is_some}
use Rattle.std.proofs.lemmas.Bool.{cases_Bool, cond-true, cond-false}
use Rattle.units.specs.Code.{same_code}
use Rattle.units.specs.RefusalCodes.{no_longer_proposed, not_proposed_here}
use Rattle.units.specs.declared.code.Code.{Code}
use Rattle.units.specs.declared.code.Node.TheVariants.{Registry}
use Rattle.status.specs.Id.{id_at}
use Rattle.status.specs.Order.{Order}
use Rattle.status.specs.Rows.{initiator_row, acquirer_row}
use Rattle.status.specs.declared.id.TransactionId.{TransactionId}
use Rattle.status.specs.declared.moment.Moment.{Moment}
use Rattle.status.specs.declared.rows.RowInput.TheVariants as column
use Rattle.status.specs.declared.rows.RowInput.TheVariants.{Notified}
use Rattle.wire.specs.NotifiedStatuses.{notified_status}
use Rattle.wire.specs.declared.input.Input.TheVariants.{Propose, Request, Received}
use Rattle.protocol.proofs.MessageForms as message
use Rattle.protocol.proofs.MessageForms.{ProposalMessage, NotificationMessage}
use Rattle.scheme.specs.declared.registries.Scheme.{Scheme}
use Rattle.protocol.specs.AtRegistry.{arrival, content_of, holding, holds_some, in_role, new_transfer_verdict, registry_refusals, request_column, unless_held}
use Rattle.protocol.specs.Checks.{acquirer_findings, propose_refusals}
use Rattle.protocol.specs.Deciding as decide
use Rattle.protocol.specs.Deciding.{IsRefused, Verdict, by_row, content_in, column_of_proposal, refuse}
use Rattle.protocol.specs.Effects.{acquirer_sends, initiator_sends}
use Rattle.protocol.specs.History.{Entry, is_known, newest, proposals, stands_at, transitions_of}
use Rattle.protocol.specs.Pieces.{pieces}
use Rattle.protocol.specs.Verdict.{history}
use Rattle.status.specs.declared.status.Status.TheVariants.{Proposed}
use Rattle.safety.proofs.MovesAndHistories.RefusalCauses.{refuse_none}
use Rattle.checks.specs.Refusing.{first_of, order_refusals}
use Rattle.initiator.specs.Transfers as initiator
use Rattle.acquirer.specs.Transfers as acquirer
use Rattle.registry_core.specs.Kept.{IsKept}
use Rattle.registry_core.specs.Taking.{verdict_by_rules}
use Rattle.registry_core.specs.declared.tables.Tables.{Tables}
use Rattle.registry_core.proofs.FirstRefusals.{first_none, order_causes}
use Rattle.registry_core.proofs.TablesSayHistory.{foreign_content_so, foreign_known_so, own_column_so, own_known_so, own_stands_so, own_there_so}
use Rattle.registry_core.proofs.TakenInputs.{verdict_so}

module _ (scheme : Scheme) (c : Code) (tables : Tables) (kept : IsKept scheme c tables) where
  abbrev es : List Entry
  es = history scheme (Registry c) tables.records.inputs

  -- an order whose causes of a refusal don't hold
  pub propose_row : (o : Order) (t : TransactionId) → first_of (order_refusals scheme c (holding scheme c es) (proposals es) o) ≡ None → id_at c (proposals es + 1) ≡ Some t → same_code t.code c ≡ true
      → verdict_by_rules scheme c tables (Propose o)
      ≡ by_row scheme es (decide.moved t (Some (content_of o)) 0 (initiator_sends c t (Some (content_of o)) column.Propose)) (initiator_row (initiator.known_transfer (map.get tables.initiator.transfers t)) column.Propose)
  propose_row o t none is own =
      verdict_so scheme c tables (Propose o)
      ∙ refuse_none (propose_refusals scheme c (holding scheme c es) o) (new_transfer_verdict scheme c es (content_of o) (id_at c (proposals es + 1))) (order_causes scheme c es o none)
      ∙ ap (new_transfer_verdict scheme c es (content_of o)) is
      ∙ ap (λ k. by_row scheme es (decide.moved t (Some (content_of o)) 0 (initiator_sends c t (Some (content_of o)) column.Propose)) (initiator_row k column.Propose)) (sym (own_known_so scheme c tables kept t own))

  -- an order about a transaction, by the initiator's table
  abbrev asked_row : TransactionId → Verdict
  asked_row t = by_row scheme es
      (decide.moved t (content_in (newest (transitions_of es) t)) 0 (initiator_sends c t (content_in (newest (transitions_of es) t)) (initiator.column_of_request (map.get tables.initiator.transfers t))))
      (initiator_row (initiator.known_transfer (map.get tables.initiator.transfers t)) (initiator.column_of_request (map.get tables.initiator.transfers t)))

  own_request : (t : TransactionId) → same_code t.code c ≡ true → verdict_by_rules scheme c tables (Request t) ≡ refuse (initiator.cancellation_refusals tables.initiator t) (asked_row t)
  own_request t own =
      let col = sym (own_column_so scheme c tables kept t own) in
      let k = sym (own_known_so scheme c tables kept t own) in
      let last = content_in (newest (transitions_of es) t) in
      let body : in_role scheme c es t (newest (transitions_of es) t) 0 (request_column es t) ≡ asked_row t =
      cond-true (same_code t.code c) _ _ own ∙ (λ i. by_row scheme es (decide.moved t last 0 (initiator_sends c t last (col i))) (initiator_row (k i) (col i))) in
      let code = sym kept.kept.initiator in
      let there = own_there_so scheme c tables kept t own in
      let stood = sym (own_stands_so scheme c tables kept t own) in
      verdict_so scheme c tables (Request t) ∙ (λ i. cond (not (same_code t.code (code i) && there i)) (IsRefused not_proposed_here) (cond (not (stood i)) (IsRefused no_longer_proposed) (body i)))

  -- one of another registry is refused by both
  foreign_request : (t : TransactionId) → same_code t.code c ≡ false → verdict_by_rules scheme c tables (Request t) ≡ refuse (initiator.cancellation_refusals tables.initiator t) (asked_row t)
  foreign_request t other =
      let theirs : same_code t.code tables.initiator.code ≡ false = ap (same_code t.code) kept.kept.initiator ∙ other in
      let rest = refuse ((not (stands_at (transitions_of es) t Proposed), no_longer_proposed) ∷ []) (in_role scheme c es t (newest (transitions_of es) t) 0 (request_column es t)) in
      let rest' = refuse ((not (initiator.is_still_proposed (map.get tables.initiator.transfers t)), no_longer_proposed) ∷ []) (asked_row t) in
      verdict_so scheme c tables (Request t) ∙ (λ i. cond (not (other i && is_known (transitions_of es) t)) (IsRefused not_proposed_here) rest)
      ∙ sym (λ i. cond (not (theirs i && is_some (map.get tables.initiator.transfers t))) (IsRefused not_proposed_here) rest')

  pub request_row : (t : TransactionId) → verdict_by_rules scheme c tables (Request t) ≡ refuse (initiator.cancellation_refusals tables.initiator t) (asked_row t)
  request_row t =
      elim (cases_Bool (same_code t.code c)) [
        | inl own ↦ own_request t own
        | inr other ↦ foreign_request t other
      ]

  -- ---- messages that aren't refused before the tables are consulted

  pub arrive_row : (p : ProposalMessage) (moment : Moment) (found : List ℕ) → first_of (registry_refusals c es (message.proposal p)) ≡ None → same_code p.id.code c ≡ false → found ≡ acquirer_findings scheme c (holding scheme c es) p.content
      → verdict_by_rules scheme c tables (Received (message.proposal p) moment)
      ≡ by_row scheme es (decide.moved p.id (Some p.content) moment.seconds (acquirer_sends c p.id found (column_of_proposal (acquirer.kept_content (map.get tables.acquirer.transfers p.id)) found)))
      (acquirer_row (acquirer.known_transfer (map.get tables.acquirer.transfers p.id)) (column_of_proposal (acquirer.kept_content (map.get tables.acquirer.transfers p.id)) found))
  arrive_row p moment found none foreign is =
      verdict_so scheme c tables (Received (message.proposal p) moment)
      ∙ refuse_none (registry_refusals c es (message.proposal p)) _ (first_none (registry_refusals c es (message.proposal p)) none)
      ∙ ap (arrival scheme c es p.id (newest (transitions_of es) p.id) p.content moment.seconds) (sym is)
      ∙ ap (λ k. by_row scheme es (decide.moved p.id (Some p.content) moment.seconds (acquirer_sends c p.id found (column_of_proposal k found))) (acquirer_row (decide.known (newest (transitions_of es) p.id)) (column_of_proposal k found))) (sym (foreign_content_so scheme c tables kept p.id foreign))
      ∙ ap (λ k. by_row scheme es (decide.moved p.id (Some p.content) moment.seconds (acquirer_sends c p.id found (column_of_proposal (acquirer.kept_content (map.get tables.acquirer.transfers p.id)) found)))
      (acquirer_row k (column_of_proposal (acquirer.kept_content (map.get tables.acquirer.transfers p.id)) found))) (sym (foreign_known_so scheme c tables kept p.id foreign))

  heard : (n : NotificationMessage) (moment : Moment) → first_of (registry_refusals c es (message.notification n)) ≡ None
      → verdict_by_rules scheme c tables (Received (message.notification n) moment) ≡ in_role scheme c es n.id (newest (transitions_of es) n.id) moment.seconds (Notified (notified_status n.notified))
  heard n moment none =
      verdict_so scheme c tables (Received (message.notification n) moment)
      ∙ refuse_none (registry_refusals c es (message.notification n)) _ (first_none (registry_refusals c es (message.notification n)) none)

  pub conclude_row : (n : NotificationMessage) (moment : Moment) → first_of (registry_refusals c es (message.notification n)) ≡ None → same_code n.id.code c ≡ true
      → verdict_by_rules scheme c tables (Received (message.notification n) moment)
      ≡ by_row scheme es (decide.moved n.id (content_in (newest (transitions_of es) n.id)) moment.seconds (initiator_sends c n.id (content_in (newest (transitions_of es) n.id)) (Notified (notified_status n.notified))))
      (initiator_row (initiator.known_transfer (map.get tables.initiator.transfers n.id)) (Notified (notified_status n.notified)))
  conclude_row n moment none own =
      heard n moment none ∙ cond-true (same_code n.id.code c) _ _ own
      ∙ ap (λ k. by_row scheme es (decide.moved n.id (content_in (newest (transitions_of es) n.id)) moment.seconds (initiator_sends c n.id (content_in (newest (transitions_of es) n.id)) (Notified (notified_status n.notified))))
      (initiator_row k (Notified (notified_status n.notified)))) (sym (own_known_so scheme c tables kept n.id own))

  -- as the acquirer's table says, and not while a unit is held
  pub finish_row : (n : NotificationMessage) (moment : Moment) → first_of (registry_refusals c es (message.notification n)) ≡ None → same_code n.id.code c ≡ false
      → verdict_by_rules scheme c tables (Received (message.notification n) moment)
      ≡ by_row scheme es (decide.moved n.id (content_in (newest (transitions_of es) n.id)) moment.seconds [])
      (unless_held (option_map_or (λ k. list_any (λ p. (holding scheme c es).is_held p.unit) (pieces k.units)) (acquirer.kept_content (map.get tables.acquirer.transfers n.id)) false)
      (acquirer_row (acquirer.known_transfer (map.get tables.acquirer.transfers n.id)) (Notified (notified_status n.notified))))
  finish_row n moment none foreign =
      heard n moment none ∙ cond-false (same_code n.id.code c) _ _ foreign
      ∙ ap (λ k. by_row scheme es (decide.moved n.id (content_in (newest (transitions_of es) n.id)) moment.seconds []) (unless_held (holds_some scheme c (transitions_of es) k) (acquirer_row (decide.known (newest (transitions_of es) n.id)) (Notified (notified_status n.notified)))))
      (sym (foreign_content_so scheme c tables kept n.id foreign))
      ∙ ap (λ k. by_row scheme es (decide.moved n.id (content_in (newest (transitions_of es) n.id)) moment.seconds [])
      (unless_held (holds_some scheme c (transitions_of es) (acquirer.kept_content (map.get tables.acquirer.transfers n.id))) (acquirer_row k (Notified (notified_status n.notified))))) (sym (foreign_known_so scheme c tables kept n.id foreign))
