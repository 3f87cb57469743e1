-- In a quiet world with room, a message that moves a transfer is recorded with the transition of its table: the row of
-- `MessageRows`, and there is room.
use Rattle.std.proofs.Common.{◌≡◌, ℕ, ◌+◌, ◌≤◌, List, [], ◌∷◌, true, false, Some, None, sym, subst, ◌∙◌, arith, length}
use Rattle.std.specs.Prelude.{nat_le}
use Rattle.std.proofs.lemmas.Bool.{cond-false, lt-leb}
use Rattle.units.specs.Code.{same_code}
use Rattle.units.specs.RefusalCodes.{journal_full}
use Rattle.units.specs.declared.code.Code.{Code}
use Rattle.units.specs.declared.code.Node.TheVariants.{Itl, Registry}
use Rattle.status.specs.Content.{Content}
use Rattle.status.specs.Rows.{initiator_row, log_row, acquirer_row}
use Rattle.status.specs.declared.id.TransactionId.{TransactionId}
use Rattle.status.specs.declared.moment.Moment.{Moment}
use Rattle.status.specs.declared.rows.RecordedStatus.TheVariants.{Stands}
use Rattle.status.specs.declared.rows.Row.TheVariants.{Move}
use Rattle.status.specs.declared.rows.RowInput.TheVariants.{Notified}
use Rattle.status.specs.declared.status.Status.{Status}
use Rattle.wire.specs.NotifiedStatuses.{notified_status}
use Rattle.wire.specs.declared.input.Input.TheVariants.{Received}
use Rattle.wire.specs.declared.notified.NotifiedStatus.{NotifiedStatus}
use Rattle.scheme.specs.declared.registries.Scheme.{Scheme}
use Rattle.protocol.specs.AtLog.{ledger}
use Rattle.protocol.specs.AtRegistry.{holding}
use Rattle.protocol.specs.Checks.{acquirer_findings, log_findings}
use Rattle.protocol.specs.Claims.{committed_of}
use Rattle.protocol.specs.Deciding.{IsRecorded, IsRefused, recorded_if_room}
use Rattle.protocol.specs.Effects.{notifies, proposes}
use Rattle.protocol.specs.History.{Entry, Transition, newest, sends, transitions_of}
use Rattle.protocol.specs.Registries.{is_node}
use Rattle.protocol.specs.Verdict.{verdict}
use Rattle.protocol.specs.World.{World}
use Rattle.safety.proofs.MovesAndHistories.TransitionForms.{arrived, concluded_messages, checked, told_to, moved}
use Rattle.safety.proofs.AgreementOfNodes.CausalHistories.{Causal}
use Rattle.units.proofs.Lists.Membership.{In}
use Rattle.safety.proofs.WorldLemmas.NodesWithStation.{committed_unplaced, Unplaced}
use Rattle.safety.proofs.WayToRest.SendingMessages.{Calm}
use Rattle.safety.proofs.WorldLemmas.SoundWorlds.{committed_causal}
use Rattle.safety.proofs.OneTransfer.MessageRows.{Last}
use Rattle.wire.specs.declared.message.ProposalStatus.TheVariants as proposal
use Rattle.safety.proofs.OneTransfer.MessageRows as rows

enters_here : (scheme : Scheme) (es : List Entry) (xs : List Transition) → length es + 1 ≤ scheme.records → recorded_if_room scheme es xs ≡ IsRecorded xs
enters_here scheme es xs room = cond-false (nat_le scheme.records (length es)) (IsRefused journal_full) (IsRecorded xs) (lt-leb scheme.records (length es) (omega arith))

-- room at the log, and at each registry
abbrev pub Room : Scheme → World → ℕ → ℕ → Type 0
Room scheme w i j = (length (committed_of w Itl) + i ≤ scheme.records) × ((c : Code) → length (committed_of w (Registry c)) + j ≤ scheme.records)

module _ (scheme : Scheme) (w : World) (calm : Calm scheme w) where
  pub causal : Causal scheme (committed_of w)
  causal = subst (λ (z : Scheme). Causal z (committed_of w)) calm.same (committed_causal w calm.quiet.sound)

  pub unplaced : Unplaced scheme (committed_of w)
  unplaced n h = committed_unplaced w calm.quiet.placed n (subst (λ (z : Scheme). is_node z n ≡ false) (sym calm.same) h)

module _ (scheme : Scheme) (moment : Moment) (w : World) (calm : Calm scheme w) where
  pub log_takes_offer : (c : Code) (t : TransactionId) (k : Content) → In (proposes (Registry c) Itl t proposal.Proposed k) (sends (committed_of w (Registry c)))
      → newest (transitions_of (committed_of w Itl)) t ≡ None → length (committed_of w Itl) + 1 ≤ scheme.records
      → verdict scheme Itl (committed_of w Itl) (Received (proposes (Registry c) Itl t proposal.Proposed k) moment)
      ≡ IsRecorded (checked t k moment.seconds (log_findings scheme (ledger scheme (committed_of w Itl)) t.code k) ∷ [])
  log_takes_offer c t k h none room =
      rows.log_takes_offer scheme (committed_of w) (causal scheme w calm) (unplaced scheme w calm) moment c t k h none
      ∙ enters_here scheme (committed_of w Itl) (checked t k moment.seconds (log_findings scheme (ledger scheme (committed_of w Itl)) t.code k) ∷ []) room

  pub log_takes_notified : (c : Code) (t : TransactionId) (said : NotifiedStatus) (l : Transition) (k : Content) (new : Status) → l.content ≡ Some k → In (notifies (Registry c) Itl t said) (sends (committed_of w (Registry c)))
      → Last (committed_of w) Itl t l → log_row (Stands l.new) (Notified (notified_status said)) ≡ Move new → length (committed_of w Itl) + 1 ≤ scheme.records
      → verdict scheme Itl (committed_of w Itl) (Received (notifies (Registry c) Itl t said) moment) ≡ IsRecorded (moved l new moment.seconds (notifies Itl (told_to l.id k new) l.id said ∷ []) ∷ [])
  log_takes_notified c t said l k new content h is move room =
      rows.log_takes_notified scheme (committed_of w) (causal scheme w calm) (unplaced scheme w calm) moment c t said l k new content h is move
      ∙ enters_here scheme (committed_of w Itl) (moved l new moment.seconds (notifies Itl (told_to l.id k new) l.id said ∷ []) ∷ []) room

  pub acquirer_takes_offer : (c : Code) (t : TransactionId) (k : Content) → In (proposes Itl (Registry c) t proposal.Checked k) (sends (committed_of w Itl))
      → newest (transitions_of (committed_of w (Registry c))) t ≡ None → length (committed_of w (Registry c)) + 1 ≤ scheme.records
      → verdict scheme (Registry c) (committed_of w (Registry c)) (Received (proposes Itl (Registry c) t proposal.Checked k) moment)
      ≡ IsRecorded (arrived c t k moment.seconds (acquirer_findings scheme c (holding scheme c (committed_of w (Registry c))) k) ∷ [])
  acquirer_takes_offer c t k h none room =
      rows.acquirer_takes_offer scheme (committed_of w) (causal scheme w calm) (unplaced scheme w calm) moment c t k h none
      ∙ enters_here scheme (committed_of w (Registry c)) (arrived c t k moment.seconds (acquirer_findings scheme c (holding scheme c (committed_of w (Registry c))) k) ∷ []) room

  pub initiator_takes : (c : Code) (t : TransactionId) (said : NotifiedStatus) (x : Transition) (k : Content) (new : Status) → x.content ≡ Some k → In (notifies Itl (Registry c) t said) (sends (committed_of w Itl))
      → Last (committed_of w) (Registry c) t x → same_code t.code c ≡ true → initiator_row (Stands x.new) (Notified (notified_status said)) ≡ Move new → length (committed_of w (Registry c)) + 1 ≤ scheme.records
      → verdict scheme (Registry c) (committed_of w (Registry c)) (Received (notifies Itl (Registry c) t said) moment) ≡ IsRecorded (moved x new moment.seconds (concluded_messages c x.id new) ∷ [])
  initiator_takes c t said x k new content h is own move room =
      rows.initiator_takes scheme (committed_of w) (causal scheme w calm) (unplaced scheme w calm) moment c t said x k new content h is own move
      ∙ enters_here scheme (committed_of w (Registry c)) (moved x new moment.seconds (concluded_messages c x.id new) ∷ []) room

  pub acquirer_takes : (c : Code) (t : TransactionId) (said : NotifiedStatus) (x : Transition) (k : Content) (new : Status) → x.content ≡ Some k → In (notifies Itl (Registry c) t said) (sends (committed_of w Itl))
      → Last (committed_of w) (Registry c) t x → same_code t.code c ≡ false → acquirer_row (Stands x.new) (Notified (notified_status said)) ≡ Move new → length (committed_of w (Registry c)) + 1 ≤ scheme.records
      → verdict scheme (Registry c) (committed_of w (Registry c)) (Received (notifies Itl (Registry c) t said) moment) ≡ IsRecorded (moved x new moment.seconds [] ∷ [])
  acquirer_takes c t said x k new content h is foreign move room =
      rows.acquirer_takes scheme (committed_of w) (causal scheme w calm) (unplaced scheme w calm) moment c t said x k new content h is foreign move
      ∙ enters_here scheme (committed_of w (Registry c)) (moved x new moment.seconds [] ∷ []) room
