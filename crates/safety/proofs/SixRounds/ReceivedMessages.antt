-- What is received is settled from the moment that the record is committed: the transaction then stands past the message,
-- and stays there, however the journal grows.
use Rattle.std.proofs.Common.{◌≡◌, ℕ, List, [], ◌∷◌, ◌++◌, Bool, true, false, Option, Some, None, inl, inr, refl, sym, ap, subst, ◌∙◌, append_assoc, length}
use Rattle.std.specs.Prelude.{cond, nat_le, slice_get}
use Rattle.std.proofs.lemmas.Bool.{cond-true}
use Rattle.units.specs.RefusalCodes.{no_row, journal_full}
use Rattle.status.specs.Id.{same_id}
use Rattle.status.proofs.Ids.{same_id-refl}
use Rattle.wire.specs.NotifiedStatuses.{notified_status}
use Rattle.units.proofs.Lists.Membership.{In, In_slice_get}
use Rattle.units.proofs.Lists.OneValue.{one_some}
use Rattle.units.specs.declared.code.Node.{Node}
use Rattle.units.specs.declared.code.Node.TheVariants.{Itl, Registry}
use Rattle.status.specs.declared.id.TransactionId.{TransactionId}
use Rattle.status.specs.declared.moment.Moment.{Moment}
use Rattle.status.specs.declared.rows.Row.{Row}
use Rattle.status.specs.declared.rows.Row.TheVariants.{Move, Repeat, Late, Refused}
use Rattle.status.specs.declared.status.Status.{Status}
use Rattle.status.specs.declared.status.Status.TheVariants.{Checked, Accepted, Completed}
use Rattle.wire.specs.declared.input.Input.{Input}
use Rattle.wire.specs.declared.input.Input.TheVariants.{Received}
use Rattle.wire.specs.declared.message.Body.{Body}
use Rattle.wire.specs.declared.message.Body.TheVariants as body
use Rattle.wire.specs.declared.message.Message.{Message}
use Rattle.scheme.specs.declared.registries.Scheme.{Scheme}
use Rattle.protocol.proofs.Histories.{history_from_append, history_recorded}
use Rattle.protocol.proofs.MessageForms as message
use Rattle.protocol.specs.Claims.{committed_of, committed_part, live_of, whole}
use Rattle.protocol.specs.Deciding.{Verdict, IsRecorded, IsRefused, IsRepeat, IsLate, by_row, recorded_if_room}
use Rattle.protocol.specs.History.{Entry, Transition, newest, sends, transitions_of}
use Rattle.safety.specs.Rounds.{ChangesNothing, IsReceived, IsSettled, SettledStays, SettlesWhatIsReceived}
use Rattle.protocol.specs.Verdict.{verdict, history, history_from, extend, transitions_made}
use Rattle.protocol.specs.World.{Station, Turn, World, answered, at_node, deliver, journal, opening, put, rests, run, station, step, take_input}
use Rattle.protocol.specs.declared.event.Outcome.TheVariants.{NotPossible}
use Rattle.protocol.specs.declared.event.Posted.{Posted}
use Rattle.protocol.specs.declared.event.WorldEvent.{WorldEvent}
use Rattle.protocol.specs.declared.event.WorldEvent.TheVariants.{Deliver}
use Rattle.safety.proofs.AgreementOfNodes.CausalHistories.{Causal}
use Rattle.safety.proofs.DeliveryLemmas.WelcomeMessages.{said_to_log, welcome}
use Rattle.safety.proofs.MovesAndHistories.LongerHistories.{made_history}
use Rattle.safety.proofs.MovesAndHistories.MessageSenders.{sender_sends}
use Rattle.units.proofs.Lists.Positions.{In_contains}
use Rattle.safety.proofs.MovesAndHistories.NewestTransitions.{Made, made_log, made_registry, newest_append, newest_id}
use Rattle.safety.proofs.MovesAndHistories.RefusalCauses.{Welcome}
use Rattle.safety.proofs.MovesAndHistories.TableMoves.{LogMove, checks, passes, cancels, forestalls}
use Rattle.safety.proofs.MovesAndHistories.TableRows.{log_from}
use Rattle.safety.proofs.OneLog.LogSendings.{no_request}
use Rattle.safety.proofs.OneRegistry.RegistrySendings.{says}
use Rattle.safety.proofs.OneTransfer.EndsThatStay.{registry_live}
use Rattle.safety.proofs.SixRounds.DecidedMessages.{Decision, Past, PastNotice, decided, past_settles}
use Rattle.safety.proofs.SixRounds.RoundsOfWorlds.{Grown, grows, later}
use Rattle.safety.proofs.SixRounds.SettledMessages.{not_settled}
use Rattle.safety.proofs.WorldLemmas.NodesWithStation.{AllPlaced, Unplaced, committed_unplaced, live_unplaced, opening_placed, run_placed}
use Rattle.safety.proofs.WorldLemmas.ReachedWorlds.{reached_sound}
use Rattle.safety.proofs.WorldLemmas.SchemesKept.{run_scheme}
use Rattle.safety.proofs.WorldLemmas.SoundWorlds.{Sound, committed_causal, live_causal, live_sends, run_sound}
use Rattle.safety.proofs.WorldLemmas.StationsAfterPut.{at_put, found_at_node}

-- ---- a transaction stays past a message

module _ (scheme : Scheme) where
  -- at the log, what is past the message moves to a status past it
  notice_moves : (es : List Entry) (input : Input) (u x : Transition) (told : Status) → LogMove scheme es input u → newest (transitions_of es) u.id ≡ Some x → PastNotice told x.new → PastNotice told u.new
  notice_moves es input u x told (checks p moment found from status is none node) h past = absurd (let e = sym none ∙ h in cc (e))
  notice_moves es input u x told (passes n moment q k new old content node party move) h past =
      let at : newest (transitions_of es) q.id ≡ Some q = subst (λ z. newest (transitions_of es) z ≡ Some q) (sym (newest_id (transitions_of es) n.id q old).1) old in
      let same : x.new ≡ q.new = ap (λ (z : Transition). z.new) (one_some x q (sym h ∙ at)) in
      elim (log_from q.new _ new move) [
        | inl c ↦ absurd (past.0 (same ∙ c.0))
        | inr c ↦ ((λ d. let y : Completed ≡ Checked = sym c.1 ∙ d in cc (y)), λ done d. let y : Completed ≡ Accepted = sym c.1 ∙ d in cc (y))
      ]
  notice_moves es input u x told (cancels given moment t q k withdraws old content waits) h past =
      let at : newest (transitions_of es) q.id ≡ Some q = subst (λ z. newest (transitions_of es) z ≡ Some q) (sym (newest_id (transitions_of es) t q old).1) old in
      absurd (past.0 (ap (λ (z : Transition). z.new) (one_some x q (sym h ∙ at)) ∙ waits))
  notice_moves es input u x told (forestalls r moment from node none) h past = absurd (let e = sym none ∙ h in cc (e))

  past_moves : (n : Node) (b : Body) (e : Entry) (es : List Entry) (u x : Transition) → Made scheme n (e ∷ es) → In u e.transitions → newest (transitions_of es) u.id ≡ Some x → Past n b x.new → Past n b u.new
  past_moves Itl (body.Proposal p) e es u x made i h past = tt
  past_moves Itl (body.Notification n) e es u x made i h past = notice_moves es e.input u x (notified_status n) (made_log scheme e es u made i) h past
  past_moves Itl body.Request e es u x made i h past = (notice_moves es e.input u x Accepted (made_log scheme e es u made i) h (past, λ d. absurd (cc (d)))).0
  past_moves (Registry c) (body.Proposal p) e es u x made i h past = tt
  past_moves (Registry c) (body.Notification n) e es u x made i h past = absurd (registry_live scheme c es e.input u x (made_registry scheme c e es u made i) h past)
  past_moves (Registry c) body.Request e es u x made i h past = absurd (registry_live scheme c es e.input u x (made_registry scheme c e es u made i) h past)

  past_stays : (n : Node) (b : Body) (es : List Entry) (more : List Input) (t : TransactionId) (x : Transition) → Made scheme n es → newest (transitions_of es) t ≡ Some x → Past n b x.new
      → (y : Transition) × (newest (transitions_of (history_from scheme n es more)) t ≡ Some y) × Past n b y.new
  past_stays n b es [] t x made h past = (x, h, past)
  past_stays n b es (i ∷ is) t x made h past =
      elim (newest_append (transitions_made (verdict scheme n es i)) (transitions_of es) t) [
        | inl u ↦ past_stays n b (extend scheme n es i) is t x (refl, made) (u ∙ h) past
        | inr u ↦
            past_stays n b (extend scheme n es i) is t u.0 (refl, made) u.3
            (past_moves n b (record { input = i; transitions = transitions_made (verdict scheme n es i) }) es u.0 x (refl, made) u.1 (subst (λ z. newest (transitions_of es) z ≡ Some x) (sym u.2) h) past)
      ]

-- ---- in one causal family

recorded_is : (scheme : Scheme) (es : List Entry) (xs ys : List Transition) → recorded_if_room scheme es xs ≡ IsRecorded ys → xs ≡ ys
recorded_is scheme es xs ys h = go (nat_le scheme.records (length es)) h
  where
    go : (b : Bool) → cond b (IsRefused journal_full) (IsRecorded xs) ≡ IsRecorded ys → xs ≡ ys
    go true e = absurd (cc (e))
    go false e = cc (e)

module _ (scheme : Scheme) (f : Node → List Entry) (causal : Causal scheme f) (unplaced : Unplaced scheme f) (m : Message) (sent : In m (sends (f m.from))) where
  asks_log : m.body ≡ body.Request → m.to ≡ Itl
  asks_log e = go m.from refl
    where
      go : (n : Node) → m.from ≡ n → m.to ≡ Itl
      go Itl from =
          let here : In m (sends (f Itl)) = subst (λ z. In m (sends (f z))) from sent in
          absurd (no_request scheme (f Itl) (causal.made Itl) (message.request_with m) (subst (λ (z : Message). In z (sends (f Itl))) (message.has_body m body.Request e) here))
      go (Registry c) from = said_to_log scheme c (f (Registry c)) m (says scheme c (f (Registry c)) (causal.made (Registry c)) m (subst (λ z. In m (sends (f z))) from sent))

  is_welcome : (moment : Moment) → Welcome (verdict scheme m.to (f m.to) (Received m moment))
  is_welcome moment = welcome scheme f causal refl unplaced m.from m.to refl refl m moment refl refl sent

  decision : (moment : Moment) → Decision scheme (f m.to) m.id (verdict scheme m.to (f m.to) (Received m moment)) (Past m.to m.body)
  decision moment = decided scheme (f m.to) m.to (causal.made m.to) m moment (is_welcome moment) asks_log

  abbrev StandsPast : List Transition → Type 0
  StandsPast xs = (x : Transition) × (newest xs m.id ≡ Some x) × Past m.to m.body x.new

  when_recorded : (moment : Moment) (xs : List Transition) → verdict scheme m.to (f m.to) (Received m moment) ≡ IsRecorded xs → StandsPast (xs ++ transitions_of (f m.to))
  when_recorded moment xs e = go d.row refl
    where
      d : Decision scheme (f m.to) m.id (verdict scheme m.to (f m.to) (Received m moment)) (Past m.to m.body)
      d = decision moment

      v : (r : Row) → d.row ≡ r → by_row scheme (f m.to) d.to r ≡ IsRecorded xs
      v r h = sym (d.is ∙ ap (by_row scheme (f m.to) d.to) h) ∙ e

      go : (r : Row) → d.row ≡ r → StandsPast (xs ++ transitions_of (f m.to))
      go (Move s) h =
          let same = recorded_is scheme (f m.to) (d.to s ∷ []) xs (v (Move s) h) in
          subst (λ zs. StandsPast (zs ++ transitions_of (f m.to))) same
          (d.to s, cond-true (same_id (d.to s).id m.id) (Some (d.to s)) (newest (transitions_of (f m.to)) m.id) (subst (λ (z : TransactionId). same_id z m.id ≡ true) (sym (d.id s)) (same_id-refl m.id)), subst (Past m.to m.body) (sym (d.new s)) (d.moves s h).0)
      go Repeat h = absurd (let y = v Repeat h in cc (y))
      go Late h = absurd (let y = v Late h in cc (y))
      go Refused h = absurd (let y = v Refused h in cc (y))

  pub when_kept : (moment : Moment) → ChangesNothing (verdict scheme m.to (f m.to) (Received m moment)) → StandsPast (transitions_of (f m.to))
  when_kept moment e = go d.row refl
    where
      d : Decision scheme (f m.to) m.id (verdict scheme m.to (f m.to) (Received m moment)) (Past m.to m.body)
      d = decision moment

      go : (r : Row) → d.row ≡ r → StandsPast (transitions_of (f m.to))
      go (Move s) h = absurd (not_settled scheme (f m.to) (d.to s ∷ []) (verdict scheme m.to (f m.to) (Received m moment)) (d.is ∙ ap (by_row scheme (f m.to) d.to) h) e)
      go Repeat h = d.keeps (inl h)
      go Late h = d.keeps (inr h)
      go Refused h =
          let v = d.is ∙ ap (by_row scheme (f m.to) d.to) h in
          absurd (elim e [
            | inl y ↦ let z : IsRefused no_row ≡ IsRepeat = sym v ∙ y in cc (z)
            | inr y ↦ let z : IsRefused no_row ≡ IsLate = sym v ∙ y in cc (z)
          ])

  pub settled_past : (moment : Moment) → StandsPast (transitions_of (f m.to)) → ChangesNothing (verdict scheme m.to (f m.to) (Received m moment))
  settled_past moment s = past_settles scheme (f m.to) m.id (verdict scheme m.to (f m.to) (Received m moment)) (Past m.to m.body) (decision moment) (is_welcome moment) s.0 s.1 s.2

-- ---- a delivery, and what follows

module _ (w : World) (sound : Sound w) (placed : AllPlaced w) (index : ℕ) (moment : Moment) (p : Posted) (at : slice_get w.bag index ≡ Some p) where
  was_sent : In p.message (sends (committed_of w p.message.from))
  was_sent = sound.posted p (In_slice_get w.bag index p at) refl

  abbrev StandsIn : List Input → Type 0
  StandsIn j = (x : Transition) × (newest (transitions_of (history w.scheme p.message.to j)) p.message.id ≡ Some x) × Past p.message.to p.message.body x.new

  module _ (s : Station) (is : station w p.message.to ≡ Some s) where
    own : s.node ≡ p.message.to
    own = found_at_node p.message.to w.stations s is

    here : history w.scheme p.message.to (journal s) ≡ live_of w p.message.to
    here = ap (λ o. history w.scheme p.message.to (whole o)) (sym is)

    as_live : (v : Verdict) → verdict w.scheme s.node (history w.scheme s.node (journal s)) (Received p.message moment) ≡ v → verdict w.scheme p.message.to (live_of w p.message.to) (Received p.message moment) ≡ v
    as_live v e = sym (ap (λ n. verdict w.scheme n (history w.scheme n (journal s)) (Received p.message moment)) own ∙ ap (λ es. verdict w.scheme p.message.to es (Received p.message moment)) here) ∙ e

    after_put : (t : Station) → t.node ≡ s.node → StandsIn (journal t) → StandsIn (whole (station (put w t) p.message.to))
    after_put t node h = subst (λ o. StandsIn (whole o)) (sym (at_put p.message.to w.stations s t is (node ∙ own))) h

    kept_there : ChangesNothing (verdict w.scheme s.node (history w.scheme s.node (journal s)) (Received p.message moment)) → StandsIn (journal s)
    kept_there e =
        let k = when_kept w.scheme (live_of w) (live_causal w sound) (live_unplaced w placed) p.message (live_sends w p.message.from p.message was_sent) moment
        (elim e [
          | inl y ↦ inl (as_live IsRepeat y)
          | inr y ↦ inr (as_live IsLate y)
        ]) in
        subst (λ (es : List Entry). (x : Transition) × (newest (transitions_of es) p.message.id ≡ Some x) × Past p.message.to p.message.body x.new) (sym here) k

    by_verdict : (v : Verdict) → verdict w.scheme s.node (history w.scheme s.node (journal s)) (Received p.message moment) ≡ v → IsReceived (answered s (Received p.message moment) v).outcome
        → StandsIn (whole (station (put w (answered s (Received p.message moment) v).station) p.message.to))
    by_verdict (IsRecorded xs) e h =
        let r = when_recorded w.scheme (live_of w) (live_causal w sound) (live_unplaced w placed) p.message (live_sends w p.message.from p.message was_sent) moment xs (as_live (IsRecorded xs) e) in
        let grown : history w.scheme p.message.to (s.committed ++ (s.tail ++ Received p.message moment ∷ [])) ≡ record { input = Received p.message moment; transitions = xs } ∷ live_of w p.message.to =
        ap (history w.scheme p.message.to) (sym (append_assoc s.committed s.tail (Received p.message moment ∷ [])))
        ∙ history_recorded w.scheme p.message.to (journal s) (Received p.message moment) xs (ap (λ es. verdict w.scheme p.message.to es (Received p.message moment)) here ∙ as_live (IsRecorded xs) e)
        ∙ ap (λ (es : List Entry). record { input = Received p.message moment; transitions = xs } ∷ es) here in
        after_put (record s { tail = s.tail ++ Received p.message moment ∷ [] }) refl
        (subst (λ (es : List Entry). (x : Transition) × (newest (transitions_of es) p.message.id ≡ Some x) × Past p.message.to p.message.body x.new) (sym grown) r)
    by_verdict IsRepeat e h = after_put s refl (kept_there (inl e))
    by_verdict IsLate e h = after_put s refl (kept_there (inr e))
    by_verdict (IsRefused code) e h = absurd h

    by_turn : (b : Bool) (turn : Turn) → (IsReceived turn.outcome → StandsIn (whole (station (put w turn.station) p.message.to))) → IsReceived (cond b turn (rests s NotPossible)).outcome
        → StandsIn (whole (station (put w (cond b turn (rests s NotPossible)).station) p.message.to))
    by_turn true turn h i = h i
    by_turn false turn h i = absurd i

  by_station : (o : Option Station) → station w p.message.to ≡ o → IsReceived (at_node w o (take_input w.scheme (Received p.message moment))).outcome
      → StandsIn (whole (station (at_node w o (take_input w.scheme (Received p.message moment))).world p.message.to))
  by_station None none h = absurd h
  by_station (Some s) is h =
      by_turn s is s.runs (answered s (Received p.message moment) (verdict w.scheme s.node (history w.scheme s.node (journal s)) (Received p.message moment)))
      (by_verdict s is (verdict w.scheme s.node (history w.scheme s.node (journal s)) (Received p.message moment)) refl) h

  received : IsReceived (step w (Deliver index moment)).outcome → StandsIn (whole (station (step w (Deliver index moment)).world p.message.to))
  unfolding step
  received h =
      subst (λ o. IsReceived (deliver w moment o).outcome → StandsIn (whole (station (deliver w moment o).world p.message.to))) (sym at) (by_station (station w p.message.to) refl) h

  settles : IsReceived (step w (Deliver index moment)).outcome → (more : List WorldEvent) (rest : List Input)
      → committed_part (station (run (step w (Deliver index moment)).world more) p.message.to) ≡ whole (station (step w (Deliver index moment)).world p.message.to) ++ rest
      → IsSettled (run (step w (Deliver index moment)).world more) p.message
  settles h more rest e = (moment, settled_past v.scheme (committed_of v) (committed_causal v (run_sound w events sound)) (committed_unplaced v (run_placed w events placed)) p.message sent_later moment stands)
    where
      events : List WorldEvent
      events = Deliver index moment ∷ more

      v : World
      v = run w events

      sent_later : In p.message (sends (committed_of v p.message.from))
      sent_later = (later w events).sent p.message.from p.message was_sent

      past : List Input
      past = whole (station (step w (Deliver index moment)).world p.message.to)

      there : StandsIn (committed_part (station v p.message.to))
      there =
          let r = received h in
          let y = past_stays w.scheme p.message.to p.message.body (history w.scheme p.message.to past) rest p.message.id r.0 (made_history w.scheme p.message.to past) r.1 r.2 in
          subst (λ (es : List Entry). (x : Transition) × (newest (transitions_of es) p.message.id ≡ Some x) × Past p.message.to p.message.body x.new)
          (sym (ap (history w.scheme p.message.to) e ∙ history_from_append w.scheme p.message.to [] past rest)) y

      stands : (x : Transition) × (newest (transitions_of (committed_of v p.message.to)) p.message.id ≡ Some x) × Past p.message.to p.message.body x.new
      stands =
          subst (λ (z : Scheme). (x : Transition) × (newest (transitions_of (history z p.message.to (committed_part (station v p.message.to)))) p.message.id ≡ Some x) × Past p.message.to p.message.body x.new)
          (sym (run_scheme w events)) there

pub settles_what_is_received : (scheme : Scheme) (events : List WorldEvent) → SettlesWhatIsReceived (run (opening scheme) events)
settles_what_is_received scheme events index moment p at h more rest e =
    settles (run (opening scheme) events) (reached_sound scheme events) (run_placed (opening scheme) events (opening_placed scheme)) index moment p at h more rest e

-- ---- what is settled stays so

module _ (w : World) (sound : Sound w) (placed : AllPlaced w) (n : Node) (m : Message) (sent : In m (sends (committed_of w n))) (settled : IsSettled w m) (more : List WorldEvent) where
  abbrev v : World
  v = run w more

  sent_there : In m (sends (committed_of w m.from))
  sent_there = subst (λ z. In m (sends (committed_of w z))) (sym (sender_sends w.scheme n (committed_of w n) ((committed_causal w sound).made n) m sent)) sent

  stays_settled : IsSettled (run w more) m
  stays_settled = (settled.0, settled_past v.scheme (committed_of v) (committed_causal v (run_sound w more sound)) (committed_unplaced v (run_placed w more placed)) m ((later w more).sent m.from m sent_there) settled.0 stands)
    where
      before : (x : Transition) × (newest (transitions_of (committed_of w m.to)) m.id ≡ Some x) × Past m.to m.body x.new
      before = when_kept w.scheme (committed_of w) (committed_causal w sound) (committed_unplaced w placed) m sent_there settled.0 settled.1

      g : Grown w v m.to
      g = grows w more m.to

      stands : (x : Transition) × (newest (transitions_of (committed_of v m.to)) m.id ≡ Some x) × Past m.to m.body x.new
      stands =
          let y = past_stays w.scheme m.to m.body (committed_of w m.to) g.0 m.id before.0 ((committed_causal w sound).made m.to) before.1 before.2 in
          subst (λ (z : Scheme). (x : Transition) × (newest (transitions_of (history z m.to (committed_part (station v m.to)))) m.id ≡ Some x) × Past m.to m.body x.new) (sym (run_scheme w more))
          (subst (λ (es : List Entry). (x : Transition) × (newest (transitions_of es) m.id ≡ Some x) × Past m.to m.body x.new)
          (sym (ap (history w.scheme m.to) g.1 ∙ history_from_append w.scheme m.to [] (committed_part (station w m.to)) g.0)) y)

pub settled_stays : (scheme : Scheme) (events : List WorldEvent) → SettledStays (run (opening scheme) events)
settled_stays scheme events n m h settled more =
    let w = run (opening scheme) events in
    stays_settled w (reached_sound scheme events) (run_placed (opening scheme) events (opening_placed scheme)) n m (In_contains (sends (committed_of w n)) m h) settled more
