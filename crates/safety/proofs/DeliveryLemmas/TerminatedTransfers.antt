-- Where the log notifies a registry of Terminated, it found eligibility alone, over every list of events. One input
-- leads to this only where the log checks a proposal, and `FindingsInProposals` has the possible findings. A
-- notification that the log sent remains sent, but the facts that it was based on may have changed since. The claim is
-- therefore carried along the events as an invariant of the log's live journal: an event leaves that journal as it is,
-- cuts it off, or adds one input to it.
use Rattle.std.proofs.Common.{◌≡◌, ℕ, List, [], ◌∷◌, ◌++◌, Bool, true, false, cond, Option, Some, None, ◌⊎◌, inl, inr, refl, sym, ap, subst, ◌∙◌, append_assoc, append-nil, take, drop, length, take-append-drop, Contains}
use Rattle.std.specs.Prelude.{nat_le, option_and_then, slice_get}
use Rattle.std.proofs.lemmas.Bool.{cases_Bool}
use Rattle.units.proofs.Same.{node_of_same}
use Rattle.units.specs.Code.{same_node}
use Rattle.units.specs.RefusalCodes.{initiator_not_eligible, acquirer_not_eligible}
use Rattle.units.specs.declared.code.Node.{Node}
use Rattle.units.specs.declared.code.Node.TheVariants.{Itl, Registry}
use Rattle.status.specs.Rows.{log_row}
use Rattle.status.specs.declared.moment.Moment.{Moment}
use Rattle.status.specs.declared.rows.RecordedStatus.TheVariants.{Stands}
use Rattle.status.specs.declared.rows.Row.TheVariants.{Move}
use Rattle.status.specs.declared.rows.RowInput.TheVariants.{Notified}
use Rattle.status.specs.declared.status.Status.{Status}
use Rattle.status.specs.declared.status.Status.TheVariants.{Accepted, Rejected, Terminated, Completed}
use Rattle.wire.specs.NotifiedStatuses.{notified_status}
use Rattle.wire.specs.declared.input.Input.{Input}
use Rattle.wire.specs.declared.input.Input.TheVariants.{Received}
use Rattle.wire.specs.declared.message.Message.{Message}
use Rattle.protocol.proofs.MessageForms as message
use Rattle.wire.specs.declared.message.Body.TheVariants as body
use Rattle.protocol.proofs.MessageForms.{ProposalMessage, NotificationMessage, one_notified, has_body, apart, received}
use Rattle.wire.specs.declared.notified.NotifiedStatus.TheVariants as notified
use Rattle.scheme.specs.declared.registries.Scheme.{Scheme}
use Rattle.protocol.specs.AtLog.{ledger}
use Rattle.protocol.specs.Checks.{log_findings}
use Rattle.protocol.specs.Claims.{TerminatesForEligibility, committed_of, live_of, whole}
use Rattle.protocol.specs.Deciding.{Verdict, IsRecorded, IsRepeat, IsLate, IsRefused}
use Rattle.protocol.specs.History.{Transition, Entry, transitions_of, newest, sends, messages_of}
use Rattle.protocol.specs.Verdict.{verdict, history, transitions_made}
use Rattle.protocol.specs.World.{World, Station, Turn, station, journal, put, stays, opening, rests, answered, take_input, commit, crash, restart, sent, at_node, is_order, posted, deliver, step, run}
use Rattle.protocol.specs.declared.event.Outcome.TheVariants.{NotPossible}
use Rattle.protocol.specs.declared.event.Posted.{Posted}
use Rattle.protocol.specs.declared.event.WorldEvent.{WorldEvent}
use Rattle.protocol.specs.declared.event.WorldEvent.TheVariants.{Take, Commit, Post, Deliver, Crash, Restart}
use Rattle.safety.proofs.DeliveryLemmas.FindingsInProposals.{only_eligibility}
use Rattle.safety.proofs.MovesAndHistories.TransitionForms.{checked_message}
use Rattle.protocol.proofs.Histories.{history_from_append}
use Rattle.safety.proofs.MovesAndHistories.LongerHistories.{sends_append}
use Rattle.units.proofs.Lists.Membership.{In, In_cases, In_flat_map, In_slice_get}
use Rattle.safety.proofs.MovesAndHistories.TableMoves.{LogMove, checks, passes, cancels, forestalls, log_moves}
use Rattle.safety.proofs.WorldLemmas.NodesWithStation.{AllPlaced, step_placed, opening_placed, live_unplaced, take_node, commit_node, crash_node, restart_node}
use Rattle.units.proofs.Lists.Positions.{In_contains}
use Rattle.safety.proofs.WorldLemmas.ReachedWorlds.{reached}
use Rattle.safety.proofs.WorldLemmas.SoundWorlds.{Sound, step_sound, opening_sound, order_is_no_message, no_journal, live_causal, live_sends}
use Rattle.safety.proofs.WorldLemmas.StationsAfterPut.{found_at_node, at_put, at_elsewhere}
use Rattle.safety.proofs.MovesAndHistories.TableRows.{log_from}

-- ---- what one input makes the log say

one_list : (a b : List ℕ) → notified.Terminated a ≡ notified.Terminated b → a ≡ b
one_list a b e = cc (e)

not_cancelled : (found : List ℕ) → notified.Cancelled ≡ notified.Terminated found → ⊥
not_cancelled found e = cc (e)

-- a notification of Terminated has codes of eligibility alone
abbrev IsFair : NotificationMessage → Type 0
IsFair n = (found : List ℕ) (code : ℕ) → n.notified ≡ notified.Terminated found → In code found → (code ≡ initiator_not_eligible) ⊎ (code ≡ acquirer_not_eligible)

-- one that the log tells of a cancellation
cancels_fair : (a n : NotificationMessage) → a.notified ≡ notified.Cancelled → message.notification a ≡ message.notification n → IsFair n
cancels_fair a n is e found code said i = absurd (not_cancelled found (sym is ∙ ap (λ (z : NotificationMessage). z.notified) (one_notified a n e) ∙ said))

-- the log passes no notification of Terminated on
passed_on : {X : Type 0} (a told new : Status) → log_row (Stands a) (Notified told) ≡ Move new → told ≡ Terminated → X
passed_on a told new move is = elim (log_from a told new move) [
  | inl m ↦
      elim m.2 [
        | inl t ↦ let y : Accepted ≡ Terminated = sym t ∙ is in absurd (cc (y))
        | inr t ↦ let y : Rejected ≡ Terminated = sym t ∙ is in absurd (cc (y))
      ]
  | inr m ↦ let y : Completed ≡ Terminated = sym m.2 ∙ is in absurd (cc (y))
]

-- what is received was sent
abbrev WasSent : World → Input → Type 0
WasSent w input = (m : Message) (moment : Moment) → input ≡ Received m moment → In m (sends (committed_of w m.from))

module _ (w : World) (sound : Sound w) (placed : AllPlaced w) where
  terminated_codes : (p : ProposalMessage) (found : List ℕ) → found ≡ log_findings w.scheme (ledger w.scheme (live_of w Itl)) p.id.code p.content → In (message.proposal p) (sends (live_of w (Registry p.id.code)))
      → newest (transitions_of (live_of w Itl)) p.id ≡ None → (n : NotificationMessage) → In (message.notification n) (checked_message p.id p.content found ∷ []) → IsFair n
  terminated_codes p [] is came none n (inl e) codes code said i = apart e refl
  terminated_codes p [] is came none n (inr h) codes code said i = absurd h
  terminated_codes p (c ∷ cs) is came none n (inl e) codes code said i =
      let same = one_list (c ∷ cs) codes (ap (λ (z : NotificationMessage). z.notified) (one_notified _ n e) ∙ said) in
      only_eligibility w.scheme (live_of w) (live_causal w sound) (live_unplaced w placed) p.id.code p came none code (subst (In code) (sym same ∙ is) i)
  terminated_codes p (c ∷ cs) is came none n (inr h) codes code said i = absurd h

  move_fair : (input : Input) (x : Transition) → WasSent w input → LogMove w.scheme (live_of w Itl) input x → (n : NotificationMessage) → In (message.notification n) x.messages → IsFair n
  move_fair input x came (checks p moment found from status findings none member) n h =
      let committed = came (message.proposal p) moment refl in
      let live = live_sends w p.from (message.proposal p) committed in
      terminated_codes p found findings (subst (λ z. In (message.proposal p) (sends (live_of w z))) from live) none n h
  move_fair input x came (passes k moment q held new old kept member right move) n (inl e) = λ found code said i.
      passed_on q.new (notified_status k.notified) new move (ap notified_status (ap (λ (z : NotificationMessage). z.notified) (one_notified _ n e) ∙ said))
  move_fair input x came (passes k moment q held new old kept member right move) n (inr h) = absurd h
  move_fair input x came (cancels given moment t q held why old kept was) n (inl e) = cancels_fair _ n refl e
  move_fair input x came (cancels given moment t q held why old kept was) n (inr (inl e)) = cancels_fair _ n refl e
  move_fair input x came (cancels given moment t q held why old kept was) n (inr (inr h)) = absurd h
  move_fair input x came (forestalls r moment from member none) n (inl e) = cancels_fair _ n refl e
  move_fair input x came (forestalls r moment from member none) n (inr h) = absurd h

  input_fair : (input : Input) → WasSent w input → (n : NotificationMessage) → In (message.notification n) (messages_of (transitions_made (verdict w.scheme Itl (live_of w Itl) input))) → IsFair n
  unfolding verdict
  input_fair input came n h =
      let xs = transitions_made (verdict w.scheme Itl (live_of w Itl) input) in
      let g = In_flat_map (λ (x : Transition). x.messages) (message.notification n) xs h in
      move_fair input g.0 came (log_moves w.scheme (live_of w Itl) input g.0 g.1) n g.2

-- ---- what an event does to a live journal: it leaves it, cuts it off, or adds an input to it

abbrev Shorter : List Input → List Input → Type 0
Shorter xs ys = (rest : List Input) × (xs ≡ ys ++ rest)

abbrev Longer : World → List Input → List Input → Type 0
Longer w xs ys = (input : Input) × WasSent w input × (ys ≡ xs ++ input ∷ [])

abbrev Goes : World → Station → Station → Type 0
Goes w s t = Shorter (journal s) (journal t) ⊎ Longer w (journal s) (journal t)

same_goes : (w : World) (s t : Station) → journal t ≡ journal s → Goes w s t
same_goes w s t e = inl ([], sym e ∙ sym (append-nil (journal t)))

cond_goes : (w : World) (s : Station) (b : Bool) (t u : Turn) → Goes w s t.station → Goes w s u.station → Goes w s (cond b t u).station
cond_goes w s true t u h i = h
cond_goes w s false t u h i = i

answered_goes : (w : World) (s : Station) (i : Input) (v : Verdict) → WasSent w i → Goes w s (answered s i v).station
answered_goes w s i (IsRecorded xs) came = inr (i, came, sym (append_assoc s.committed s.tail (i ∷ [])))
answered_goes w s i IsRepeat came = same_goes w s s refl
answered_goes w s i IsLate came = same_goes w s s refl
answered_goes w s i (IsRefused code) came = same_goes w s s refl

take_goes : (w : World) (i : Input) (s : Station) → WasSent w i → Goes w s (take_input w.scheme i s).station
take_goes w i s came =
    let v = verdict w.scheme s.node (history w.scheme s.node (journal s)) i in
    cond_goes w s s.runs (answered s i v) (rests s NotPossible) (answered_goes w s i v came) (same_goes w s s refl)

-- the tail in two
cut_tail : (k : ℕ) (s : Station) → (s.committed ++ take k s.tail) ++ drop k s.tail ≡ journal s
cut_tail k s = append_assoc s.committed (take k s.tail) (drop k s.tail) ∙ ap (λ z. s.committed ++ z) (take-append-drop k s.tail)

commit_goes : (w : World) (count : ℕ) (s : Station) → Goes w s (commit count s).station
commit_goes w count s =
    cond_goes w s s.runs _ (rests s NotPossible)
    (cond_goes w s (nat_le count (length s.tail)) _ (rests s NotPossible)
    (same_goes w s (record s { committed = s.committed ++ take count s.tail; tail = drop count s.tail }) (cut_tail count s)) (same_goes w s s refl)) (same_goes w s s refl)

crash_goes : (w : World) (kept : ℕ) (s : Station) → Goes w s (crash kept s).station
crash_goes w kept s =
    cond_goes w s s.runs _ (rests s NotPossible)
    (cond_goes w s (nat_le kept (length s.tail)) _ (rests s NotPossible)
    (inl (drop kept s.tail, sym (cut_tail kept s) ∙ ap (λ z. z ++ drop kept s.tail) (sym (append-nil (s.committed ++ take kept s.tail))))) (same_goes w s s refl)) (same_goes w s s refl)

restart_goes : (w : World) (s : Station) → Goes w s (restart s).station
restart_goes w s = cond_goes w s s.runs (rests s NotPossible) _ (same_goes w s s refl) (same_goes w s (record s { runs = true }) refl)

-- ---- what the log says in a world

abbrev AllFair : List Entry → Type 0
AllFair es = (n : NotificationMessage) → In (message.notification n) (sends es) → IsFair n

module _ (w : World) (sound : Sound w) (placed : AllPlaced w) (old : AllFair (live_of w Itl)) where
  goes_fair : (xs ys : List Input) → whole (station w Itl) ≡ xs → Shorter xs ys ⊎ Longer w xs ys → AllFair (history w.scheme Itl ys)
  goes_fair xs ys is (inl r) n h =
      old n (subst (λ zs. In (message.notification n) (sends (history w.scheme Itl zs))) (sym r.1 ∙ sym is) (sends_append w.scheme Itl ys r.0 (message.notification n) h))
  goes_fair xs ys is (inr r) n h =
      let whole_now = whole (station w Itl) in
      let longer : ys ≡ whole_now ++ r.0 ∷ [] = r.2 ∙ ap (λ zs. zs ++ r.0 ∷ []) (sym is) in
      let later = subst (λ (es : List Entry). In (message.notification n) (sends es)) (ap (history w.scheme Itl) longer ∙ history_from_append w.scheme Itl [] whole_now (r.0 ∷ [])) h in
      elim (In_cases (message.notification n) (sends (live_of w Itl)) (messages_of (transitions_made (verdict w.scheme Itl (live_of w Itl) r.0))) later) [
        | inl i ↦ old n i
        | inr i ↦ input_fair w sound placed r.0 r.1 n i
      ]

  put_fair : (n : Node) (s t : Station) → station w n ≡ Some s → t.node ≡ s.node → Goes w s t → AllFair (live_of (put w t) Itl)
  put_fair n s t is node goes =
      let own = node ∙ found_at_node n w.stations s is in
      elim (cases_Bool (same_node n Itl)) [
        | inl y ↦
            let at = node_of_same n Itl y in
            let before : whole (station w Itl) ≡ journal s = subst (λ z. whole (station w z) ≡ journal s) at (ap whole is) in
            let after : whole (station (put w t) Itl) ≡ journal t = subst (λ z. whole (station (put w t) z) ≡ journal t) at (ap whole (at_put n w.stations s t is own)) in
            subst (λ zs. AllFair (history w.scheme Itl zs)) (sym after) (goes_fair (journal s) (journal t) before goes)
        | inr other ↦ subst (λ o. AllFair (history w.scheme Itl (whole o))) (sym (at_elsewhere n Itl w.stations t own other)) old
      ]

  turn_fair : (n : Node) (o : Option Station) (f : Station → Turn) → station w n ≡ o → ((s : Station) → (f s).station.node ≡ s.node) → ((s : Station) → Goes w s (f s).station) → AllFair (live_of (at_node w o f).world Itl)
  turn_fair n None f is node goes = old
  turn_fair n (Some s) f is node goes = put_fair n s (f s).station is (node s) (goes s)

  take_fair : (n : Node) (i : Input) → WasSent w i → AllFair (live_of (at_node w (station w n) (take_input w.scheme i)).world Itl)
  take_fair n i came = turn_fair n (station w n) (take_input w.scheme i) refl (take_node w.scheme i) (λ s. take_goes w i s came)

  posted_fair : (n : Node) (key : ℕ) (o : Option Message) → AllFair (live_of (posted w n key o).world Itl)
  posted_fair n key None = old
  posted_fair n key (Some m) = old

  deliver_fair : (moment : Moment) (o : Option Posted) → ((p : Posted) → o ≡ Some p → In p w.bag) → AllFair (live_of (deliver w moment o).world Itl)
  deliver_fair moment None there = old
  deliver_fair moment (Some p) there =
      take_fair p.message.to (Received p.message moment)
      (λ m at e. subst (λ z. In z (sends (committed_of w z.from))) (received e) (sound.posted p (there p refl) refl))

  ordered_fair : (n : Node) (i : Input) (b : Bool) → is_order w n i ≡ b → AllFair (live_of (cond b (at_node w (station w n) (take_input w.scheme i)) (stays w NotPossible)).world Itl)
  ordered_fair n i true order = take_fair n i (λ m at e. absurd (order_is_no_message w n i order m at e))
  ordered_fair n i false order = old

  step_fair : (e : WorldEvent) → AllFair (live_of (step w e).world Itl)
  unfolding step
  step_fair (Take n i) = ordered_fair n i (is_order w n i) refl
  step_fair (Commit n count) = turn_fair n (station w n) (commit count) refl (commit_node count) (commit_goes w count)
  step_fair (Post n key) = posted_fair n key (option_and_then (sent w.scheme key) (station w n))
  step_fair (Deliver index moment) = deliver_fair moment (slice_get w.bag index) (λ p e. In_slice_get w.bag index p e)
  step_fair (Crash n kept) = turn_fair n (station w n) (crash kept) refl (crash_node kept) (crash_goes w kept)
  step_fair (Restart n) = turn_fair n (station w n) restart refl restart_node (restart_goes w)

run_fair : (w : World) (events : List WorldEvent) → Sound w → AllPlaced w → AllFair (live_of w Itl) → AllFair (live_of (run w events) Itl)
run_fair w [] sound placed old = old
run_fair w (e ∷ es) sound placed old = run_fair (step w e).world es (step_sound w e sound) (step_placed w e placed) (step_fair w sound placed old e)

opening_fair : (scheme : Scheme) → AllFair (live_of (opening scheme) Itl)
opening_fair scheme n h = absurd (subst (λ zs. In (message.notification n) (sends (history scheme Itl zs))) (no_journal scheme Itl) h)

reached_fair : (scheme : Scheme) (events : List WorldEvent) → AllFair (live_of (reached scheme events) Itl)
reached_fair scheme events = run_fair (opening scheme) events (opening_sound scheme) (opening_placed scheme) (opening_fair scheme)

fair_message : (scheme : Scheme) (events : List WorldEvent) (m : Message) (found : List ℕ) (code : ℕ) → In m (sends (live_of (reached scheme events) Itl)) → m.body ≡ body.Notification (notified.Terminated found)
    → Contains found code → (code ≡ initiator_not_eligible) ⊎ (code ≡ acquirer_not_eligible)
fair_message scheme events m found code h said i =
    let n : NotificationMessage = record { from = m.from; to = m.to; id = m.id; notified = notified.Terminated found } in
    reached_fair scheme events n (subst (λ z. In z (sends (live_of (reached scheme events) Itl))) (has_body m (body.Notification (notified.Terminated found)) said) h) found code refl (In_contains found code i)

-- ---- the law

pub terminates_live : (scheme : Scheme) (events : List WorldEvent) → TerminatesForEligibility (live_of (reached scheme events))
terminates_live scheme events m found code h said i = fair_message scheme events m found code (In_contains (sends (live_of (reached scheme events) Itl)) m h) said i

pub terminates_committed : (scheme : Scheme) (events : List WorldEvent) → TerminatesForEligibility (committed_of (reached scheme events))
terminates_committed scheme events m found code h said i =
    let w = reached scheme events in
    fair_message scheme events m found code (live_sends w Itl m (In_contains (sends (committed_of w Itl)) m h)) said i
