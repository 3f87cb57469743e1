-- How a node decides about a message that was sent: by the row of a table, which moves the transaction to a status past
-- which the message moves nothing, or leaves it where it stands past it.
use Rattle.std.proofs.Common.{◌≡◌, ℕ, List, [], ◌∷◌, Bool, true, false, Option, Some, None, ◌⊎◌, inl, inr, refl, sym, ap, subst, ◌∙◌}
use Rattle.std.specs.Option.{option_map_or}
use Rattle.std.proofs.lemmas.Bool.{cases_Bool, cond-true, cond-false, eqb-false}
use Rattle.units.proofs.Lists.OneValue.{one_some}
use Rattle.units.specs.Code.{same_code}
use Rattle.units.specs.RefusalCodes.{no_row, journal_full}
use Rattle.units.specs.declared.code.Code.{Code}
use Rattle.units.specs.declared.code.Node.{Node}
use Rattle.units.specs.declared.code.Node.TheVariants.{Itl, Registry}
use Rattle.status.specs.Content.{Content}
use Rattle.status.specs.Rows.{initiator_row, log_row, acquirer_row}
use Rattle.status.specs.declared.id.TransactionId.{TransactionId}
use Rattle.status.specs.declared.moment.Moment.{Moment}
use Rattle.status.specs.declared.rows.RecordedStatus as recorded
use Rattle.status.specs.declared.rows.RecordedStatus.TheVariants.{Unknown, Bare, Stands}
use Rattle.status.specs.declared.rows.Row.{Row}
use Rattle.status.specs.declared.rows.Row.TheVariants.{Move, Repeat, Late, Refused}
use Rattle.status.specs.declared.rows.RowInput.TheVariants as column
use Rattle.status.specs.declared.rows.RowInput.TheVariants.{Notified}
use Rattle.status.specs.declared.status.Status.{Status}
use Rattle.status.specs.declared.status.Status.TheVariants.{Proposed, Checked, Accepted, Rejected, Terminated, Cancelled, Completed}
use Rattle.wire.specs.NotifiedStatuses.{notified_status, notified_codes}
use Rattle.wire.specs.declared.input.Input.TheVariants.{Received}
use Rattle.wire.specs.declared.message.Body.{Body}
use Rattle.wire.specs.declared.message.Body.TheVariants as body
use Rattle.wire.specs.declared.message.Message.{Message}
use Rattle.scheme.specs.declared.registries.Scheme.{Scheme}
use Rattle.protocol.proofs.MessageForms as message
use Rattle.protocol.proofs.MessageForms.{ProposalMessage, NotificationMessage, RequestMessage, Form, form, of_proposal, of_notification, of_request}
use Rattle.protocol.specs.AtLog.{ledger, log_answer, log_refusals}
use Rattle.protocol.specs.AtRegistry.{holding, holds_some, registry_answer, registry_refusals, unless_held}
use Rattle.protocol.specs.Checks.{acquirer_findings, log_findings}
use Rattle.protocol.specs.Claims.{IsEnd}
use Rattle.protocol.specs.Deciding as decide
use Rattle.protocol.specs.Deciding.{Verdict, IsRefused, IsRepeat, IsLate, by_row, column_of_proposal, content_in, known}
use Rattle.protocol.specs.Effects.{acquirer_sends, initiator_sends, log_sends}
use Rattle.protocol.specs.History.{Entry, Transition, newest, transitions_of}
use Rattle.safety.specs.Rounds.{ChangesNothing}
use Rattle.protocol.specs.Verdict.{verdict}
use Rattle.safety.proofs.MovesAndHistories.NewestTransitions.{Made}
use Rattle.safety.proofs.MovesAndHistories.RefusalCauses.{Welcome}
use Rattle.safety.proofs.MovesAndHistories.TableRows.{acquirer_from, acquirer_notified, acquirer_offered, initiator_from, initiator_notified, log_asked, log_from, log_notified, log_offered, nothing_known, status_known, unless_moves}
use Rattle.safety.proofs.OneRegistry.TransactionEnds as ends
use Rattle.safety.proofs.OneTransfer.MessageRows.{unrefused}

-- ---- past which statuses a message moves nothing

abbrev pub PastNotice : Status → Status → Type 0
PastNotice told s = (s ≡ Checked → ⊥) × (told ≡ Completed → s ≡ Accepted → ⊥)

abbrev pub Past : Node → Body → Status → Type 0
Past n (body.Proposal p) s = Unit {0}
Past Itl (body.Notification n) s = PastNotice (notified_status n) s
Past Itl body.Request s = s ≡ Checked → ⊥
Past (Registry c) (body.Notification n) s = IsEnd s
Past (Registry c) body.Request s = IsEnd s

-- ---- decisions

pub record Decision (scheme : Scheme) (es : List Entry) (t : TransactionId) (v : Verdict) (P : Status → Type 0) : Type 0 where
  pub to : Status → Transition
  pub row : Row
  pub is : v ≡ by_row scheme es to row
  pub id : (s : Status) → (to s).id ≡ t
  pub new : (s : Status) → (to s).new ≡ s
  pub moves : (s : Status) → row ≡ Move s → P s × ((x : Transition) → newest (transitions_of es) t ≡ Some x → P x.new → ⊥)
  pub keeps : (row ≡ Repeat) ⊎ (row ≡ Late) → (x : Transition) × (newest (transitions_of es) t ≡ Some x) × P x.new

-- a welcome verdict is that of a row
has_row : (scheme : Scheme) (es : List Entry) (t : TransactionId) (v : Verdict) (P : Status → Type 0) (d : Decision scheme es t v P) → Welcome v → d.row ≡ Refused → ⊥
has_row scheme es t v P d w e = let z = w no_row (d.is ∙ ap (by_row scheme es d.to) e) in eqb-false no_row journal_full refl z

-- ---- what the rows of notifications keep

abbrev is_kept : Row → Bool
is_kept Repeat = true
is_kept Late = true
is_kept _ = false

kept : (r : Row) → (r ≡ Repeat) ⊎ (r ≡ Late) → is_kept r ≡ true
kept r (inl e) = ap is_kept e
kept r (inr e) = ap is_kept e

checked_keeps_none : (told : Status) → is_kept (log_row (Stands Checked) (Notified told)) ≡ true → ⊥
checked_keeps_none Proposed h = cc (h)
checked_keeps_none Checked h = cc (h)
checked_keeps_none Accepted h = cc (h)
checked_keeps_none Rejected h = cc (h)
checked_keeps_none Terminated h = cc (h)
checked_keeps_none Cancelled h = cc (h)
checked_keeps_none Completed h = cc (h)

log_keeps : (k : recorded.RecordedStatus) (told : Status) → is_kept (log_row k (Notified told)) ≡ true → (a : Status) × (k ≡ Stands a) × PastNotice told a
log_keeps (Stands a) told h = (
  a,
  refl,
  (
    (λ e. checked_keeps_none told (subst (λ z. is_kept (log_row (Stands z) (Notified told)) ≡ true) e h)),
    λ done e. let y : is_kept (log_row (Stands Accepted) (Notified Completed)) ≡ true = subst (λ z. is_kept (log_row (Stands z) (Notified Completed)) ≡ true) e (subst (λ z. is_kept (log_row (Stands a) (Notified z)) ≡ true) done h) in cc (y),
  ),
)
log_keeps Unknown Proposed h = absurd (cc (h))
log_keeps Unknown Checked h = absurd (cc (h))
log_keeps Unknown Accepted h = absurd (cc (h))
log_keeps Unknown Rejected h = absurd (cc (h))
log_keeps Unknown Terminated h = absurd (cc (h))
log_keeps Unknown Cancelled h = absurd (cc (h))
log_keeps Unknown Completed h = absurd (cc (h))
log_keeps Bare Proposed h = absurd (cc (h))
log_keeps Bare Checked h = absurd (cc (h))
log_keeps Bare Accepted h = absurd (cc (h))
log_keeps Bare Rejected h = absurd (cc (h))
log_keeps Bare Terminated h = absurd (cc (h))
log_keeps Bare Cancelled h = absurd (cc (h))
log_keeps Bare Completed h = absurd (cc (h))

abbrev EndsIn : recorded.RecordedStatus → Type 0
EndsIn (Stands a) = IsEnd a
EndsIn _ = ⊥

initiator_keeps : (k : recorded.RecordedStatus) (told : Status) → is_kept (initiator_row k (Notified told)) ≡ true → EndsIn k
initiator_keeps (Stands Rejected) told h = tt
initiator_keeps (Stands Terminated) told h = tt
initiator_keeps (Stands Cancelled) told h = tt
initiator_keeps (Stands Completed) told h = tt
initiator_keeps Unknown Proposed h = cc (h)
initiator_keeps Unknown Checked h = cc (h)
initiator_keeps Unknown Accepted h = cc (h)
initiator_keeps Unknown Rejected h = cc (h)
initiator_keeps Unknown Terminated h = cc (h)
initiator_keeps Unknown Cancelled h = cc (h)
initiator_keeps Unknown Completed h = cc (h)
initiator_keeps Bare Proposed h = cc (h)
initiator_keeps Bare Checked h = cc (h)
initiator_keeps Bare Accepted h = cc (h)
initiator_keeps Bare Rejected h = cc (h)
initiator_keeps Bare Terminated h = cc (h)
initiator_keeps Bare Cancelled h = cc (h)
initiator_keeps Bare Completed h = cc (h)
initiator_keeps (Stands Proposed) Proposed h = cc (h)
initiator_keeps (Stands Proposed) Checked h = cc (h)
initiator_keeps (Stands Proposed) Accepted h = cc (h)
initiator_keeps (Stands Proposed) Rejected h = cc (h)
initiator_keeps (Stands Proposed) Terminated h = cc (h)
initiator_keeps (Stands Proposed) Cancelled h = cc (h)
initiator_keeps (Stands Proposed) Completed h = cc (h)
initiator_keeps (Stands Checked) Proposed h = cc (h)
initiator_keeps (Stands Checked) Checked h = cc (h)
initiator_keeps (Stands Checked) Accepted h = cc (h)
initiator_keeps (Stands Checked) Rejected h = cc (h)
initiator_keeps (Stands Checked) Terminated h = cc (h)
initiator_keeps (Stands Checked) Cancelled h = cc (h)
initiator_keeps (Stands Checked) Completed h = cc (h)
initiator_keeps (Stands Accepted) Proposed h = cc (h)
initiator_keeps (Stands Accepted) Checked h = cc (h)
initiator_keeps (Stands Accepted) Accepted h = cc (h)
initiator_keeps (Stands Accepted) Rejected h = cc (h)
initiator_keeps (Stands Accepted) Terminated h = cc (h)
initiator_keeps (Stands Accepted) Cancelled h = cc (h)
initiator_keeps (Stands Accepted) Completed h = cc (h)

abbrev EndsOrBare : recorded.RecordedStatus → Type 0
EndsOrBare (Stands a) = IsEnd a
EndsOrBare Bare = Unit {0}
EndsOrBare Unknown = ⊥

acquirer_keeps : (k : recorded.RecordedStatus) (told : Status) → is_kept (acquirer_row k (Notified told)) ≡ true → EndsOrBare k
acquirer_keeps Bare told h = tt
acquirer_keeps (Stands Rejected) told h = tt
acquirer_keeps (Stands Terminated) told h = tt
acquirer_keeps (Stands Cancelled) told h = tt
acquirer_keeps (Stands Completed) told h = tt
acquirer_keeps Unknown Proposed h = cc (h)
acquirer_keeps Unknown Checked h = cc (h)
acquirer_keeps Unknown Accepted h = cc (h)
acquirer_keeps Unknown Rejected h = cc (h)
acquirer_keeps Unknown Terminated h = cc (h)
acquirer_keeps Unknown Cancelled h = cc (h)
acquirer_keeps Unknown Completed h = cc (h)
acquirer_keeps (Stands Proposed) Proposed h = cc (h)
acquirer_keeps (Stands Proposed) Checked h = cc (h)
acquirer_keeps (Stands Proposed) Accepted h = cc (h)
acquirer_keeps (Stands Proposed) Rejected h = cc (h)
acquirer_keeps (Stands Proposed) Terminated h = cc (h)
acquirer_keeps (Stands Proposed) Cancelled h = cc (h)
acquirer_keeps (Stands Proposed) Completed h = cc (h)
acquirer_keeps (Stands Checked) Proposed h = cc (h)
acquirer_keeps (Stands Checked) Checked h = cc (h)
acquirer_keeps (Stands Checked) Accepted h = cc (h)
acquirer_keeps (Stands Checked) Rejected h = cc (h)
acquirer_keeps (Stands Checked) Terminated h = cc (h)
acquirer_keeps (Stands Checked) Cancelled h = cc (h)
acquirer_keeps (Stands Checked) Completed h = cc (h)
acquirer_keeps (Stands Accepted) Proposed h = cc (h)
acquirer_keeps (Stands Accepted) Checked h = cc (h)
acquirer_keeps (Stands Accepted) Accepted h = cc (h)
acquirer_keeps (Stands Accepted) Rejected h = cc (h)
acquirer_keeps (Stands Accepted) Terminated h = cc (h)
acquirer_keeps (Stands Accepted) Cancelled h = cc (h)
acquirer_keeps (Stands Accepted) Completed h = cc (h)

asked_keeps : (k : recorded.RecordedStatus) → is_kept (log_row k column.Request) ≡ true → (k ≡ Unknown → ⊥) × (k ≡ Stands Checked → ⊥)
asked_keeps Unknown h = absurd (cc (h))
asked_keeps (Stands Checked) h = absurd (cc (h))
asked_keeps Bare h = ((λ e. cc (e)), λ e. cc (e))
asked_keeps (Stands Proposed) h = ((λ e. cc (e)), λ e. cc (e))
asked_keeps (Stands Accepted) h = ((λ e. cc (e)), λ e. cc (e))
asked_keeps (Stands Rejected) h = ((λ e. cc (e)), λ e. cc (e))
asked_keeps (Stands Terminated) h = ((λ e. cc (e)), λ e. cc (e))
asked_keeps (Stands Cancelled) h = ((λ e. cc (e)), λ e. cc (e))
asked_keeps (Stands Completed) h = ((λ e. cc (e)), λ e. cc (e))

-- where the initiator moves, it ends
initiator_ends : (a told new : Status) → initiator_row (Stands a) (Notified told) ≡ Move new → IsEnd new
initiator_ends a told new h =
    let f = initiator_from a told new h in
    go told new (subst (λ z. initiator_row (Stands z) (Notified told) ≡ Move new) f.0 h)
  where
    to : (s new : Status) → IsEnd s → Move s ≡ Move new → IsEnd new
    to s new end e = let y : s ≡ new = cc (e) in subst IsEnd y end

    go : (told new : Status) → initiator_row (Stands Proposed) (Notified told) ≡ Move new → IsEnd new
    go Accepted new h = to Completed new tt h
    go Rejected new h = to Rejected new tt h
    go Terminated new h = to Terminated new tt h
    go Cancelled new h = to Cancelled new tt h
    go Proposed new h = absurd (cc (h))
    go Checked new h = absurd (cc (h))
    go Completed new h = absurd (cc (h))

unless_keeps : (held : Bool) (row : Row) → is_kept (unless_held held row) ≡ true → is_kept row ≡ true
unless_keeps false row h = h
unless_keeps true (Move Completed) h = h
unless_keeps true (Move Proposed) h = h
unless_keeps true (Move Checked) h = h
unless_keeps true (Move Accepted) h = h
unless_keeps true (Move Rejected) h = h
unless_keeps true (Move Terminated) h = h
unless_keeps true (Move Cancelled) h = h
unless_keeps true Repeat h = h
unless_keeps true Late h = h
unless_keeps true Refused h = h

-- known without a content
bare_known : (o : Option Transition) → known o ≡ Bare → (x : Transition) × (o ≡ Some x) × (x.content ≡ None)
bare_known None h = absurd (go h)
  where
    go : Unknown ≡ Bare → ⊥
    go e = cc (e)
bare_known (Some x) h = (x, refl, go x.content h)
  where
    go : (k : Option Content) → option_map_or (λ c. Stands x.new) k Bare ≡ Bare → k ≡ None
    go None h = refl
    go (Some k) h = absurd (let y : Stands x.new ≡ Bare = h in cc (y))

offer_keeps : (row : Row) (o : Option Transition) → (o ≡ None → is_kept row ≡ true → ⊥) → is_kept row ≡ true → (x : Transition) × (o ≡ Some x)
offer_keeps row None h k = absurd (h refl k)
offer_keeps row (Some x) h k = (x, refl)

log_offer_moves : (found : List ℕ) → is_kept (log_row Unknown (column_of_proposal None found)) ≡ true → ⊥
log_offer_moves [] h = cc (h)
log_offer_moves (c ∷ cs) h = cc (h)

acquirer_offer_moves : (found : List ℕ) → is_kept (acquirer_row Unknown (column_of_proposal None found)) ≡ true → ⊥
acquirer_offer_moves [] h = cc (h)
acquirer_offer_moves (c ∷ cs) h = cc (h)

module _ (scheme : Scheme) (es : List Entry) where
  -- ---- at the log

  log_proposal : (p : ProposalMessage) (moment : Moment) → Welcome (verdict scheme Itl es (Received (message.proposal p) moment))
      → Decision scheme es p.id (verdict scheme Itl es (Received (message.proposal p) moment)) (λ s. Unit {0})
  unfolding verdict
  log_proposal p moment w =
      let last = newest (transitions_of es) p.id in
      let found = log_findings scheme (ledger scheme es) p.id.code p.content in
      record {
        to = decide.moved p.id (Some p.content) moment.seconds (log_sends p.id (Some p.content) found (column_of_proposal (content_in last) found));
        row = log_row (known last) (column_of_proposal (content_in last) found);
        is = unrefused (log_refusals scheme es (message.proposal p)) (log_answer scheme es moment.seconds p.id (message.proposal p).body) w (refl, (refl, (refl, (refl, (refl, tt)))));
        id = λ s. refl;
        new = λ s. refl;
        moves = λ s h. (tt, λ x is u. log_offered x found s (subst (λ o. log_row (known o) (column_of_proposal (content_in o) found) ≡ Move s) is h));
        keeps = λ h.
            let k = offer_keeps (log_row (known last) (column_of_proposal (content_in last) found)) last
            (λ none y. log_offer_moves found (subst (λ o. is_kept (log_row (known o) (column_of_proposal (content_in o) found)) ≡ true) none y)) (kept _ h) in
            (k.0, k.1, tt);
      }

  log_notification : (n : NotificationMessage) (moment : Moment) → Welcome (verdict scheme Itl es (Received (message.notification n) moment))
      → Decision scheme es n.id (verdict scheme Itl es (Received (message.notification n) moment)) (PastNotice (notified_status n.notified))
  unfolding verdict
  log_notification n moment w =
      let last = newest (transitions_of es) n.id in
      let told = notified_status n.notified in
      record {
        to = decide.moved n.id (content_in last) moment.seconds (log_sends n.id (content_in last) (notified_codes n.notified) (Notified told));
        row = log_row (known last) (Notified told);
        is = unrefused (log_refusals scheme es (message.notification n)) (log_answer scheme es moment.seconds n.id (message.notification n).body) w (refl, (refl, (refl, (refl, tt))));
        id = λ s. refl;
        new = λ s. refl;
        moves = λ s h. notice_moves last told s h;
        keeps = λ h.
            let k = log_keeps (known last) told (kept _ h) in
            let r = status_known last k.0 k.1 in
            (r.last, r.is, subst (PastNotice told) (sym r.new) k.2);
      }
    where
      notice_moves : (last : Option Transition) (told s : Status) → log_row (known last) (Notified told) ≡ Move s → PastNotice told s × ((x : Transition) → last ≡ Some x → PastNotice told x.new → ⊥)
      notice_moves last told s h =
          let k = log_notified (known last) told s h in
          let r = status_known last k.0 k.1 in
          let from = log_from k.0 told s (subst (λ z. log_row z (Notified told) ≡ Move s) k.1 h) in
          elim from [
            | inl c ↦ (
              elim c.2 [
                | inl e ↦ ((λ d. let y : Accepted ≡ Checked = sym (c.1 ∙ e) ∙ d in cc (y)), λ done d. let y : Accepted ≡ Completed = sym e ∙ done in cc (y))
                | inr e ↦ ((λ d. let y : Rejected ≡ Checked = sym (c.1 ∙ e) ∙ d in cc (y)), λ done d. let y : Rejected ≡ Completed = sym e ∙ done in cc (y))
              ],
              λ x is past. past.0 (ap (λ (z : Transition). z.new) (one_some x r.last (sym is ∙ r.is)) ∙ r.new ∙ c.0),
            )
            | inr c ↦ (
              ((λ d. let y : Completed ≡ Checked = sym c.1 ∙ d in cc (y)), λ done d. let y : Completed ≡ Accepted = sym c.1 ∙ d in cc (y)),
              λ x is past. past.1 c.2 (ap (λ (z : Transition). z.new) (one_some x r.last (sym is ∙ r.is)) ∙ r.new ∙ c.0),
            )
          ]

  log_request : Made scheme Itl es → (r : RequestMessage) (moment : Moment) → Welcome (verdict scheme Itl es (Received (message.request r) moment))
      → Decision scheme es r.id (verdict scheme Itl es (Received (message.request r) moment)) (λ s. s ≡ Checked → ⊥)
  unfolding verdict
  log_request made r moment w =
      let last = newest (transitions_of es) r.id in
      record {
        to = decide.moved r.id (content_in last) moment.seconds (log_sends r.id (content_in last) [] column.Request);
        row = log_row (known last) column.Request;
        is = unrefused (log_refusals scheme es (message.request r)) (log_answer scheme es moment.seconds r.id (message.request r).body) w (refl, (refl, (refl, tt)));
        id = λ s. refl;
        new = λ s. refl;
        moves = λ s h. request_moves last s h;
        keeps = λ h. request_keeps last refl (kept _ h);
      }
    where
      checked_is : (x : Transition) → newest (transitions_of es) r.id ≡ Some x → x.new ≡ Checked → known (newest (transitions_of es) r.id) ≡ Stands Checked
      checked_is x is e =
          let p = ends.proposer scheme es made r.id x is (λ d. let y : Checked ≡ Cancelled = sym e ∙ d in cc (y)) in
          ap known is ∙ ap (λ (o : Option Content). option_map_or (λ c. Stands x.new) o Bare) p.is ∙ ap Stands e

      request_moves : (last : Option Transition) (s : Status) → log_row (known last) column.Request ≡ Move s → (s ≡ Checked → ⊥) × ((x : Transition) → last ≡ Some x → (x.new ≡ Checked → ⊥) → ⊥)
      request_moves last s h =
          let a = log_asked (known last) s h in (
            (λ d. let y : Cancelled ≡ Checked = sym a.1 ∙ d in cc (y)),
            λ x is past.
                elim a.0 [
                  | inl u ↦ let y : Some x ≡ None = sym is ∙ nothing_known last u in cc (y)
                  | inr u ↦ let k = status_known last Checked u in past (ap (λ (z : Transition). z.new) (one_some x k.last (sym is ∙ k.is)) ∙ k.new)
                ],
          )

      request_keeps : (last : Option Transition) → newest (transitions_of es) r.id ≡ last → is_kept (log_row (known last) column.Request) ≡ true → (x : Transition) × (newest (transitions_of es) r.id ≡ Some x) × (x.new ≡ Checked → ⊥)
      request_keeps None none h = absurd ((asked_keeps Unknown h).0 refl)
      request_keeps (Some x) is h = (x, is, λ e. (asked_keeps (known (Some x)) h).1 (ap known (sym is) ∙ checked_is x is e))

  -- ---- at a registry

  registry_proposal : (c : Code) (p : ProposalMessage) (moment : Moment) → Welcome (verdict scheme (Registry c) es (Received (message.proposal p) moment))
      → Decision scheme es p.id (verdict scheme (Registry c) es (Received (message.proposal p) moment)) (λ s. Unit {0})
  unfolding verdict
  registry_proposal c p moment w =
      let last = newest (transitions_of es) p.id in
      let found = acquirer_findings scheme c (holding scheme c es) p.content in
      record {
        to = decide.moved p.id (Some p.content) moment.seconds (acquirer_sends c p.id found (column_of_proposal (content_in last) found));
        row = acquirer_row (known last) (column_of_proposal (content_in last) found);
        is = unrefused (registry_refusals c es (message.proposal p)) (registry_answer scheme c es moment.seconds p.id (message.proposal p).body) w (refl, (refl, (refl, (refl, (refl, tt)))));
        id = λ s. refl;
        new = λ s. refl;
        moves = λ s h. (tt, λ x is u. acquirer_offered x found s (subst (λ o. acquirer_row (known o) (column_of_proposal (content_in o) found) ≡ Move s) is h));
        keeps = λ h.
            let k = offer_keeps (acquirer_row (known last) (column_of_proposal (content_in last) found)) last
            (λ none y. acquirer_offer_moves found (subst (λ o. is_kept (acquirer_row (known o) (column_of_proposal (content_in o) found)) ≡ true) none y)) (kept _ h) in
            (k.0, k.1, tt);
      }

  not_open : (x y : Transition) (a : Status) → x ≡ y → y.new ≡ a → (IsEnd a → ⊥) → IsEnd x.new → ⊥
  not_open x y a same new other end = other (subst IsEnd (ap (λ (z : Transition). z.new) same ∙ new) end)

  own_notification : (c : Code) (n : NotificationMessage) (moment : Moment) → same_code n.id.code c ≡ true → Welcome (verdict scheme (Registry c) es (Received (message.notification n) moment))
      → Decision scheme es n.id (verdict scheme (Registry c) es (Received (message.notification n) moment)) IsEnd
  unfolding verdict
  own_notification c n moment own w =
      let last = newest (transitions_of es) n.id in
      let told = notified_status n.notified in
      record {
        to = decide.moved n.id (content_in last) moment.seconds (initiator_sends c n.id (content_in last) (Notified told));
        row = initiator_row (known last) (Notified told);
        is =
            unrefused (registry_refusals c es (message.notification n)) (registry_answer scheme c es moment.seconds n.id (message.notification n).body) w (refl, (refl, (refl, tt)))
            ∙ cond-true (same_code n.id.code c) _ _ own;
        id = λ s. refl;
        new = λ s. refl;
        moves = λ s h. own_moves last told s h;
        keeps = λ h. own_keeps last told (kept _ h);
      }
    where
      own_moves : (last : Option Transition) (told s : Status) → initiator_row (known last) (Notified told) ≡ Move s → IsEnd s × ((x : Transition) → last ≡ Some x → IsEnd x.new → ⊥)
      own_moves last told s h =
          let k = initiator_notified (known last) told s h in
          let r = status_known last k.0 k.1 in
          let row = subst (λ z. initiator_row z (Notified told) ≡ Move s) k.1 h in
          (initiator_ends k.0 told s row, λ x is end. not_open x r.last Proposed (one_some x r.last (sym is ∙ r.is)) (r.new ∙ (initiator_from k.0 told s row).0) (λ e. e) end)

      by_known : (last : Option Transition) (k : recorded.RecordedStatus) → known last ≡ k → EndsIn k → (x : Transition) × (last ≡ Some x) × IsEnd x.new
      by_known last (Stands a) is e = let r = status_known last a is in (r.last, r.is, subst IsEnd (sym r.new) e)
      by_known last Unknown is e = absurd e
      by_known last Bare is e = absurd e

      own_keeps : (last : Option Transition) (told : Status) → is_kept (initiator_row (known last) (Notified told)) ≡ true → (x : Transition) × (last ≡ Some x) × IsEnd x.new
      own_keeps last told h = by_known last (known last) refl (initiator_keeps (known last) told h)

  other_notification : (c : Code) → Made scheme (Registry c) es → (n : NotificationMessage) (moment : Moment) → same_code n.id.code c ≡ false
      → Welcome (verdict scheme (Registry c) es (Received (message.notification n) moment)) → Decision scheme es n.id (verdict scheme (Registry c) es (Received (message.notification n) moment)) IsEnd
  unfolding verdict
  other_notification c made n moment foreign w =
      let last = newest (transitions_of es) n.id in
      let told = notified_status n.notified in
      let held = holds_some scheme c (transitions_of es) (content_in last) in
      record {
        to = decide.moved n.id (content_in last) moment.seconds (acquirer_sends c n.id [] (Notified told));
        row = unless_held held (acquirer_row (known last) (Notified told));
        is =
            unrefused (registry_refusals c es (message.notification n)) (registry_answer scheme c es moment.seconds n.id (message.notification n).body) w (refl, (refl, (refl, tt)))
            ∙ cond-false (same_code n.id.code c) _ _ foreign;
        id = λ s. refl;
        new = λ s. refl;
        moves = λ s h. other_moves last told s (unless_moves held (acquirer_row (known last) (Notified told)) s h).0;
        keeps = λ h. by_known last refl (known last) refl (acquirer_keeps (known last) told (unless_keeps held (acquirer_row (known last) (Notified told)) (kept _ h)));
      }
    where
      other_moves : (last : Option Transition) (told s : Status) → acquirer_row (known last) (Notified told) ≡ Move s → IsEnd s × ((x : Transition) → last ≡ Some x → IsEnd x.new → ⊥)
      other_moves last told s h =
          elim (acquirer_notified (known last) told s h) [
            | inl k ↦
                let r = status_known last k.0 k.1 in
                let f = acquirer_from k.0 told s (subst (λ z. acquirer_row z (Notified told) ≡ Move s) k.1 h) in (
                  elim f.2 [
                    | inl e ↦ subst IsEnd (sym (f.1 ∙ e)) tt
                    | inr e ↦ subst IsEnd (sym (f.1 ∙ e)) tt
                  ],
                  λ x is end. not_open x r.last Accepted (one_some x r.last (sym is ∙ r.is)) (r.new ∙ f.0) (λ e. e) end,
                )
            | inr u ↦ (subst IsEnd (sym u.2) tt, λ x is end. let y : Some x ≡ None = sym is ∙ nothing_known last u.0 in cc (y))
          ]

      by_known : (last : Option Transition) → newest (transitions_of es) n.id ≡ last → (k : recorded.RecordedStatus) → known last ≡ k → EndsOrBare k → (x : Transition) × (last ≡ Some x) × IsEnd x.new
      by_known last at (Stands a) is e = let r = status_known last a is in (r.last, r.is, subst IsEnd (sym r.new) e)
      by_known last at Unknown is e = absurd e
      by_known last at Bare is e =
          let b = bare_known last is in (
            b.0,
            b.1,
            elim (ends.known scheme c es made n.id b.0 (at ∙ b.1) foreign) [
              | inl u ↦ subst IsEnd (sym u.0) tt
              | inr z ↦ absurd (let y : Some z.content ≡ None = sym z.is ∙ b.2 in cc (y))
            ],
          )

  -- ---- any message

  decided_as : (n : Node) → Made scheme n es → (m : Message) → Form m → (moment : Moment) → Welcome (verdict scheme n es (Received m moment)) → (m.body ≡ body.Request → n ≡ Itl)
      → Decision scheme es m.id (verdict scheme n es (Received m moment)) (Past n m.body)
  decided_as Itl made m (of_proposal p) moment w asks = log_proposal p moment w
  decided_as Itl made m (of_notification n) moment w asks = log_notification n moment w
  decided_as Itl made m (of_request r) moment w asks = log_request made r moment w
  decided_as (Registry c) made m (of_proposal p) moment w asks = registry_proposal c p moment w
  decided_as (Registry c) made m (of_notification n) moment w asks =
      elim (cases_Bool (same_code n.id.code c)) [
        | inl own ↦ own_notification c n moment own w
        | inr foreign ↦ other_notification c made n moment foreign w
      ]
  decided_as (Registry c) made m (of_request r) moment w asks = absurd (let e = asks refl in cc (e))

  pub decided : (n : Node) → Made scheme n es → (m : Message) (moment : Moment) → Welcome (verdict scheme n es (Received m moment)) → (m.body ≡ body.Request → n ≡ Itl)
      → Decision scheme es m.id (verdict scheme n es (Received m moment)) (Past n m.body)
  decided n made m moment w asks = decided_as n made m (form m) moment w asks

  -- where the transaction stands past the message, another copy changes nothing
  pub past_settles : (t : TransactionId) (v : Verdict) (P : Status → Type 0) → Decision scheme es t v P → Welcome v → (x : Transition) → newest (transitions_of es) t ≡ Some x → P x.new → ChangesNothing v
  past_settles t v P d w x is past = go d.row refl
    where
      go : (r : Row) → d.row ≡ r → ChangesNothing v
      go (Move s) e = absurd ((d.moves s e).1 x is past)
      go Repeat e = inl (d.is ∙ ap (by_row scheme es d.to) e)
      go Late e = inr (d.is ∙ ap (by_row scheme es d.to) e)
      go Refused e = absurd (has_row scheme es t v P d w e)
