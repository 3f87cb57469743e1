-- From a quiet world with room an open transfer is brought to its end, message by message. The stages of a transfer
-- are proved closable from the last one to the first: the acquirer completes, the log completes, the initiator
-- hears the answer, the log hears the acquirer, the acquirer hears the proposal, the log hears the proposal. Each
-- stage sends the message that its last transition has sent, reads the next status in the table, and uses the stage
-- after it. `close_one` finds out at which stage a transfer stands, by its newest transitions at the three nodes.
use Rattle.safety.proofs.OneRegistry.InitiatorStatuses.{own_statuses, IsOwnStatus}
use Rattle.std.proofs.Common.{◌≡◌, ℕ, List, [], ◌∷◌, true, Option, Some, None, ◌⊎◌, inl, inr, refl, sym, ap, subst, ◌∙◌, arith}
use Rattle.units.proofs.Same.{same_code-refl}
use Rattle.units.specs.Code.{same_code}
use Rattle.units.specs.declared.code.Node.TheVariants.{Itl, Registry}
use Rattle.status.specs.Content.{Content}
use Rattle.status.specs.Rows.{initiator_row, log_row, acquirer_row}
use Rattle.status.specs.declared.id.TransactionId.{TransactionId}
use Rattle.status.specs.declared.moment.Moment.{Moment}
use Rattle.status.specs.declared.rows.RecordedStatus.TheVariants.{Stands}
use Rattle.status.specs.declared.rows.Row.TheVariants.{Move}
use Rattle.status.specs.declared.rows.RowInput.TheVariants.{Notified}
use Rattle.status.specs.declared.status.Status.{Status}
use Rattle.status.specs.declared.status.Status.TheVariants.{Proposed, Checked, Accepted, Rejected, Terminated, Cancelled, Completed}
use Rattle.scheme.specs.declared.registries.Scheme.{Scheme}
use Rattle.protocol.specs.AtLog.{ledger}
use Rattle.protocol.specs.AtRegistry.{holding}
use Rattle.protocol.specs.Checks.{acquirer_findings, log_findings}
use Rattle.protocol.specs.Claims.{committed_of, IsEnd}
use Rattle.protocol.specs.Effects.{notifies, proposes}
use Rattle.protocol.specs.History.{Transition, newest, sends, transitions_of}
use Rattle.protocol.specs.World.{World, run}
use Rattle.safety.proofs.MovesAndHistories.TransitionForms.{arrived, concluded_messages, checked, checked_status, told_to, moved}
use Rattle.safety.proofs.AgreementOfNodes.CausalHistories.{Causal, completed_agrees, ended, heard_sent, log_said}
use Rattle.safety.proofs.AgreementOfNodes.CompletionsAgree.{stands_so, log_has, initiator_has}
use Rattle.safety.proofs.OneRegistry.RegistrySendings.{arrived_answers}
use Rattle.safety.proofs.OneRegistry.TransactionEnds.{completed_sent, ends_last, proposer, proposer_of}
use Rattle.safety.proofs.MovesAndHistories.NewestTransitions.{newest_id}
use Rattle.units.proofs.Lists.Membership.{In}
use Rattle.units.proofs.Lists.OneValue.{one_some}
use Rattle.safety.proofs.OneLog.LogHearings.{IsAgreed, log_backed}
use Rattle.safety.proofs.WayToRest.SendingMessages.{Calm, Went, send}
use Rattle.safety.proofs.OneTransfer.SentByTransitions.{Tells, transition_sends}
use Rattle.safety.proofs.OneRegistry.RegistryHearings.{Cause, IsTaken, accepted_sent, told}
use Rattle.safety.proofs.WayToRest.TransferStages.{Closes, Stage, already, at_most, cau, newest_next, room_less, room_log, room_registry, stage_next, then_log, then_registry}
use Rattle.safety.proofs.WayToRest.TakenMessages.{Room, acquirer_takes, acquirer_takes_offer, causal, initiator_takes, log_takes_notified, log_takes_offer, unplaced}
use Rattle.safety.proofs.OneTransfer.MessageRows.{Last}
use Rattle.safety.proofs.OneTransfer.StagesAtNodes.{table_at, log_content, id_at, told_by, log_tells, log_tells_acquirer, own_tells, own_offer, other_tells, closed_when, IsAnswer, answered_to, answer_row, answer_says, acquirer_content, taken_at, only, ended_acquirer, told_end, unknown, foreign, stage as known_stage}
use Rattle.protocol.proofs.MessageForms as message
use Rattle.wire.specs.declared.message.ProposalStatus.TheVariants as proposal
use Rattle.wire.specs.declared.notified.NotifiedStatus.TheVariants as notified

-- ---- the stages, the last one first

module _ (scheme : Scheme) (moment : Moment) (t : TransactionId) where
  -- the acquirer completes
  acquirer_completes : (w : World) (x l p : Transition) (k : Content) → Stage scheme w t x k → Room scheme w 0 1 → x.new ≡ Completed → Last (committed_of w) Itl t l → l.new ≡ Completed
      → Last (committed_of w) (Registry k.acquirer) t p → p.new ≡ Accepted → Closes scheme w t 0 1
  acquirer_completes w x l p k s room done log log_done there accepted =
      let told = log_tells scheme (committed_of w) (cau scheme t w x k s) t x k s.known l log Completed log_done in
      let says = told.2 in
      let content = log_content scheme (committed_of w) (cau scheme t w x k s) t x k s.known l log (λ e. let y : Completed ≡ Cancelled = sym log_done ∙ e in cc (y)) in
      let named : told.0 ≡ k = one_some told.0 k (sym told.1 ∙ content) in
      let sent : In (notifies Itl (Registry k.acquirer) t says.0) (sends (committed_of w Itl)) =
      told_by scheme (committed_of w) (cau scheme t w x k s) t x k s.known Itl l (Registry k.acquirer) says.0 log (subst (λ (z : Content). In (notifies Itl (Registry z.acquirer) l.id says.0) l.messages) named says.2) in
      let v =
      acquirer_takes scheme moment w s.calm k.acquirer t says.0 p (acquirer_content scheme (committed_of w) (cau scheme t w x k s) t x k s.known p there (λ e. let y : Accepted ≡ Cancelled = sym accepted ∙ e in cc (y))).0 Completed (acquirer_content scheme (committed_of w) (cau scheme t w x k s) t x k s.known p there (λ e. let y : Accepted ≡ Cancelled = sym accepted ∙ e in cc (y))).1 sent there s.known.other (table_at acquirer_row p.new Accepted _ Completed accepted says.1)
      (let a = room.1 k.acquirer in omega arith) in
      let y : Transition = moved p Completed moment.seconds [] in
      let g : Went scheme w t (Registry k.acquirer) y = send scheme w s.calm (notifies Itl (Registry k.acquirer) t says.0) moment t y s.known.acquirer sent v (id_at scheme (committed_of w) (cau scheme t w x k s) t x k s.known (Registry k.acquirer) p there).1 in
      let next = stage_next scheme t w (Registry k.acquirer) y x k g s (foreign scheme (committed_of w) (cau scheme t w x k s) t x k s.known) in
      let log_then = newest_next scheme t w (Registry k.acquirer) Itl y (Some l) g refl log in
      then_registry scheme t w k.acquirer y 0 0 g
      (already scheme t (run w g.events) 0 0 g.calm
      (closed_when scheme (committed_of (run w g.events)) (cau scheme t (run w g.events) x k next) t x k next.known (subst IsEnd (sym done) tt) (only (committed_of (run w g.events)) t Itl l log_then (subst IsEnd (sym log_done) tt)) (only (committed_of (run w g.events)) t (Registry k.acquirer) y g.now tt)))

  -- the log completes
  log_completes : (w : World) (x l p : Transition) (k : Content) → Stage scheme w t x k → Room scheme w 1 1 → x.new ≡ Completed → Last (committed_of w) Itl t l → l.new ≡ Accepted
      → Last (committed_of w) (Registry k.acquirer) t p → p.new ≡ Accepted → Closes scheme w t 1 1
  log_completes w x l p k s room done log log_accepted there accepted =
      let says = own_tells scheme (committed_of w) (cau scheme t w x k s) t x k s.known Completed done in
      let sent = told_by scheme (committed_of w) (cau scheme t w x k s) t x k s.known (Registry t.code) x Itl says.0 s.known.is says.2 in
      let y : Transition = moved l Completed moment.seconds (notifies Itl (told_to l.id k Completed) l.id says.0 ∷ []) in
      let v =
      log_takes_notified scheme moment w s.calm t.code t says.0 l k Completed (log_content scheme (committed_of w) (cau scheme t w x k s) t x k s.known l log (λ e. let y : Accepted ≡ Cancelled = sym log_accepted ∙ e in cc (y))) sent log (table_at log_row l.new Accepted _ Completed log_accepted says.1)
      (let a = room.0 in omega arith) in
      let g : Went scheme w t Itl y = send scheme w s.calm (notifies (Registry t.code) Itl t says.0) moment t y refl sent v (id_at scheme (committed_of w) (cau scheme t w x k s) t x k s.known Itl l log).1 in
      let next = stage_next scheme t w Itl y x k g s refl in
      then_log scheme t w y 0 1 g
      (acquirer_completes (run w g.events) x y p k next (room_log scheme t w y 0 1 g room) done g.now refl (newest_next scheme t w Itl (Registry k.acquirer) y (Some p) g refl there) accepted)

  -- completed at the initiator
  close_owed : (w : World) (x : Transition) (k : Content) → Stage scheme w t x k → Room scheme w 1 1 → x.new ≡ Completed → Closes scheme w t 1 1
  close_owed w x k s room done =
      let c = cau scheme t w x k s in
      let agrees = completed_agrees scheme (committed_of w) c refl (Registry t.code) t (stands_so (transitions_of (committed_of w (Registry t.code))) t x Completed s.known.is done) in
      let b = log_backed scheme (committed_of w Itl) (c.made Itl) t agrees.0 agrees.1 agrees.2 in
      let content : b.content ≡ k = one_some b.content k (sym b.known ∙ log_content scheme (committed_of w) (cau scheme t w x k s) t x k s.known agrees.0 agrees.1 (λ e. subst IsAgreed e agrees.2)) in
      let said : In (message.notification b.heard.notification) (sends (committed_of w (Registry k.acquirer))) =
      subst (λ (z : Content). In (message.notification b.heard.notification) (sends (committed_of w (Registry z.acquirer)))) content
      (heard_sent scheme (committed_of w) c Itl (Registry b.content.acquirer) t Accepted refl b.heard) in
      let taken = accepted_sent scheme k.acquirer (committed_of w (Registry k.acquirer)) (c.made (Registry k.acquirer)) b.heard.notification said b.heard.told in
      let p = taken_at (newest (transitions_of (committed_of w (Registry k.acquirer))) t) (subst (λ z. IsTaken (newest (transitions_of (committed_of w (Registry k.acquirer))) z)) b.heard.about taken.1) in
      elim p.2 [
        | inl accepted ↦ by agrees.0 p.0 agrees.0.new refl agrees.2 agrees.1 p.1 accepted
        | inr e ↦
            elim e [
              | inl d ↦
                  let heard =
                  subst (Cause k.acquirer (committed_of w (Registry k.acquirer)) t) d (told scheme k.acquirer (committed_of w (Registry k.acquirer)) (c.made (Registry k.acquirer)) t p.0 p.1 s.known.other) in
                  let l = log_said scheme (committed_of w) c refl (Registry k.acquirer) t Completed heard in
                  let ended_there : l.0.new ≡ Completed = elim l.2 [
                    | inl e ↦ e
                    | inr e ↦ e.1
                  ] in
                  already scheme t w 1 1 s.calm
                  (closed_when scheme (committed_of w) (cau scheme t w x k s) t x k s.known (subst IsEnd (sym done) tt) (only (committed_of w) t Itl l.0 l.1 (subst IsEnd (sym ended_there) tt)) (only (committed_of w) t (Registry k.acquirer) p.0 p.1 (subst IsEnd (sym d) tt)))
              | inr d ↦ absurd (ended scheme (committed_of w) c refl (Registry k.acquirer) t refl agrees (inr (inr (stands_so (transitions_of (committed_of w (Registry k.acquirer))) t p.0 Cancelled p.1 d))))
            ]
      ]
    where
      by : (l p : Transition) (st : Status) → l.new ≡ st → IsAgreed st → Last (committed_of w) Itl t l → Last (committed_of w) (Registry k.acquirer) t p → p.new ≡ Accepted → Closes scheme w t 1 1
      by l p Accepted e a log there accepted = log_completes w x l p k s room done log e there accepted
      by l p Completed e a log there accepted =
          at_most scheme t w 0 1 1 1 (omega arith) (omega arith) (acquirer_completes w x l p k s (room_less scheme t w 0 1 1 1 (omega arith) (omega arith) room) done log e there accepted)
      by l p Proposed e a log there accepted = absurd a
      by l p Checked e a log there accepted = absurd a
      by l p Rejected e a log there accepted = absurd a
      by l p Terminated e a log there accepted = absurd a
      by l p Cancelled e a log there accepted = absurd a

  -- cancelled at the log and at the initiator: an acquirer that accepted is notified of it
  cancel_acquirer : (w : World) (x l : Transition) (k : Content) → Stage scheme w t x k → Room scheme w 0 1 → x.new ≡ Cancelled → Last (committed_of w) Itl t l → l.new ≡ Cancelled → Closes scheme w t 0 1
  cancel_acquirer w x l k s room own log log_cancelled = by (newest (transitions_of (committed_of w (Registry k.acquirer))) t) refl
    where
      c : Causal scheme (committed_of w)
      c = cau scheme t w x k s

      ended_here : ((p : Transition) → Last (committed_of w) (Registry k.acquirer) t p → IsEnd p.new) → Closes scheme w t 0 1
      ended_here h = already scheme t w 0 1 s.calm (closed_when scheme (committed_of w) (cau scheme t w x k s) t x k s.known (subst IsEnd (sym own) tt) (only (committed_of w) t Itl l log (subst IsEnd (sym log_cancelled) tt)) h)

      accepted : (p : Transition) → Last (committed_of w) (Registry k.acquirer) t p → p.new ≡ Accepted → Closes scheme w t 0 1
      accepted p there e =
          let has = acquirer_content scheme (committed_of w) (cau scheme t w x k s) t x k s.known p there (λ d. let y : Accepted ≡ Cancelled = sym e ∙ d in cc (y)) in
          let got =
          subst (λ st. Cause k.acquirer (committed_of w (Registry k.acquirer)) t st) e (told scheme k.acquirer (committed_of w (Registry k.acquirer)) (c.made (Registry k.acquirer)) t p there s.known.other) in
          let o = log_has scheme (committed_of w) c refl k.acquirer t got.0 got.1 in
          let q = proposer_of scheme (committed_of w Itl) (c.made Itl) t o.0 got.0 o.1 o.2 in
          let i = initiator_has scheme (committed_of w) c t q.content refl q.got in
          let named : q.content ≡ k = one_some q.content k (sym i.2 ∙ ap (λ (y : Transition). y.content) (one_some i.0 x (sym i.1 ∙ s.known.is)) ∙ s.known.content) in
          let content : l.content ≡ Some k = ap (λ (y : Transition). y.content) (one_some l o.0 (sym log ∙ o.1)) ∙ q.is ∙ ap Some named in
          let sent = log_tells_acquirer scheme (committed_of w) (cau scheme t w x k s) t x k s.known l log log_cancelled content in
          let v =
          acquirer_takes scheme moment w s.calm k.acquirer t notified.Cancelled p has.0 Cancelled has.1 sent there s.known.other (table_at acquirer_row p.new Accepted Cancelled Cancelled e refl)
          (let a = room.1 k.acquirer in omega arith) in
          let y : Transition = moved p Cancelled moment.seconds [] in
          let g : Went scheme w t (Registry k.acquirer) y =
          send scheme w s.calm (notifies Itl (Registry k.acquirer) t notified.Cancelled) moment t y s.known.acquirer sent v (id_at scheme (committed_of w) (cau scheme t w x k s) t x k s.known (Registry k.acquirer) p there).1 in
          let next = stage_next scheme t w (Registry k.acquirer) y x k g s (foreign scheme (committed_of w) (cau scheme t w x k s) t x k s.known) in
          let log_then = newest_next scheme t w (Registry k.acquirer) Itl y (Some l) g refl log in
          then_registry scheme t w k.acquirer y 0 0 g
          (already scheme t (run w g.events) 0 0 g.calm
          (closed_when scheme (committed_of (run w g.events)) (cau scheme t (run w g.events) x k next) t x k next.known (subst IsEnd (sym own) tt) (only (committed_of (run w g.events)) t Itl l log_then (subst IsEnd (sym log_cancelled) tt)) (only (committed_of (run w g.events)) t (Registry k.acquirer) y g.now tt)))

      status : (p : Transition) → Last (committed_of w) (Registry k.acquirer) t p → (st : Status) → p.new ≡ st → Cause k.acquirer (committed_of w (Registry k.acquirer)) t st → Closes scheme w t 0 1
      status p there Accepted e h = accepted p there e
      status p there Rejected e h = ended_here (only (committed_of w) t (Registry k.acquirer) p there (subst IsEnd (sym e) tt))
      status p there Cancelled e h = ended_here (only (committed_of w) t (Registry k.acquirer) p there (subst IsEnd (sym e) tt))
      status p there Completed e h = ended_here (only (committed_of w) t (Registry k.acquirer) p there (subst IsEnd (sym e) tt))
      status p there Terminated e h = ended_here (only (committed_of w) t (Registry k.acquirer) p there (subst IsEnd (sym e) tt))
      status p there Proposed e h = absurd h
      status p there Checked e h = absurd h

      by : (o : Option Transition) → newest (transitions_of (committed_of w (Registry k.acquirer))) t ≡ o → Closes scheme w t 0 1
      by None none = ended_here (λ p there. absurd (let e = sym none ∙ there in cc (e)))
      by (Some p) there = status p there p.new refl (told scheme k.acquirer (committed_of w (Registry k.acquirer)) (c.made (Registry k.acquirer)) t p there s.known.other)

  -- an end without units moved, at the initiator and at the log
  close_ended : (w : World) (x l : Transition) (k : Content) → Stage scheme w t x k → x.new ≡ l.new → Last (committed_of w) Itl t l → (l.new ≡ Rejected) ⊎ (l.new ≡ Terminated) → Closes scheme w t 1 1
  close_ended w x l k s same log which =
      let ends : IsEnd l.new = elim which [
        | inl e ↦ subst IsEnd (sym e) tt
        | inr e ↦ subst IsEnd (sym e) tt
      ] in
      already scheme t w 1 1 s.calm (closed_when scheme (committed_of w) (cau scheme t w x k s) t x k s.known (subst IsEnd (sym same) ends) (only (committed_of w) t Itl l log ends) (λ p there. ended_acquirer scheme (committed_of w) (cau scheme t w x k s) t x l p k s.known log which there))

  initiator_hears : (w : World) (x l : Transition) (k : Content) → Stage scheme w t x k → Room scheme w 1 2 → x.new ≡ Proposed → Last (committed_of w) Itl t l → (st : Status) → l.new ≡ st → IsAnswer st → Closes scheme w t 1 2
  initiator_hears w x l k s room waits log st e answers =
      let says = answer_says l st answers (log_tells scheme (committed_of w) (cau scheme t w x k s) t x k s.known l log st e) in
      let sent : In (notifies Itl (Registry t.code) t says.0) (sends (committed_of w Itl)) =
      told_by scheme (committed_of w) (cau scheme t w x k s) t x k s.known Itl l (Registry t.code) says.0 log (subst (λ (z : TransactionId). In (notifies Itl (Registry z.code) l.id says.0) l.messages) (id_at scheme (committed_of w) (cau scheme t w x k s) t x k s.known Itl l log).1 says.2) in
      let y : Transition = moved x (answered_to st) moment.seconds (concluded_messages t.code x.id (answered_to st)) in
      let v =
      initiator_takes scheme moment w s.calm t.code t says.0 x k (answered_to st) s.known.content sent s.known.is (same_code-refl t.code) (table_at initiator_row x.new Proposed _ st waits says.1 ∙ answer_row st answers)
      (let a = room.1 t.code in omega arith) in
      let g : Went scheme w t (Registry t.code) y = send scheme w s.calm (notifies Itl (Registry t.code) t says.0) moment t y s.known.initiator sent v (id_at scheme (committed_of w) (cau scheme t w x k s) t x k s.known (Registry t.code) x s.known.is).1 in
      let next : Stage scheme (run w g.events) t y k = record { calm = g.calm; known = record { is = g.now; content = s.known.content; initiator = s.known.initiator; acquirer = s.known.acquirer; other = s.known.other } } in
      let log_then = newest_next scheme t w (Registry t.code) Itl y (Some l) g refl log in
      then_registry scheme t w t.code y 1 1 g (closes (run w g.events) y l st answers next refl log_then e (room_registry scheme t w t.code y 1 1 g room))
    where
      closes : (v : World) (y l : Transition) (st : Status) → IsAnswer st → Stage scheme v t y k → y.new ≡ answered_to st → Last (committed_of v) Itl t l → l.new ≡ st → Room scheme v 1 1 → Closes scheme v t 1 1
      closes v y l Accepted a next e log d room = close_owed v y k next room e
      closes v y l Rejected a next e log d room = close_ended v y l k next (e ∙ sym d) log (inl d)
      closes v y l Terminated a next e log d room = close_ended v y l k next (e ∙ sym d) log (inr d)
      closes v y l Cancelled a next e log d room =
          at_most scheme t v 0 1 1 1 (omega arith) (omega arith) (cancel_acquirer v y l k next (room_less scheme t v 0 1 1 1 (omega arith) (omega arith) room) e log d)
      closes v y l Proposed a next e log d room = absurd a
      closes v y l Checked a next e log d room = absurd a
      closes v y l Completed a next e log d room = absurd a

  -- the acquirer has answered
  acquirer_answered : (w : World) (x l p : Transition) (k : Content) → Stage scheme w t x k → Room scheme w 2 2 → x.new ≡ Proposed → Last (committed_of w) Itl t l → l.new ≡ Checked
      → Last (committed_of w) (Registry k.acquirer) t p → (p.new ≡ Accepted) ⊎ (p.new ≡ Rejected) → Closes scheme w t 2 2
  acquirer_answered w x l p k s room waits log log_checked there which =
      elim which [
        | inl e ↦ by Accepted refl tt (other_tells scheme (committed_of w) (cau scheme t w x k s) t x k s.known p there Accepted e)
        | inr e ↦ by Rejected refl tt (other_tells scheme (committed_of w) (cau scheme t w x k s) t x k s.known p there Rejected e)
      ]
    where
      by : (st : Status) → log_row (Stands Checked) (Notified st) ≡ Move st → IsAnswer st → Tells p (Registry k.acquirer) Itl st → Closes scheme w t 2 2
      by st row answers says =
          let sent = told_by scheme (committed_of w) (cau scheme t w x k s) t x k s.known (Registry k.acquirer) p Itl says.0 there says.2 in
          let y : Transition = moved l st moment.seconds (notifies Itl (told_to l.id k st) l.id says.0 ∷ []) in
          let v =
          log_takes_notified scheme moment w s.calm k.acquirer t says.0 l k st (log_content scheme (committed_of w) (cau scheme t w x k s) t x k s.known l log (λ e. let y : Checked ≡ Cancelled = sym log_checked ∙ e in cc (y))) sent log (table_at log_row l.new Checked _ st log_checked says.1 ∙ row)
          (let a = room.0 in omega arith) in
          let g : Went scheme w t Itl y = send scheme w s.calm (notifies (Registry k.acquirer) Itl t says.0) moment t y refl sent v (id_at scheme (committed_of w) (cau scheme t w x k s) t x k s.known Itl l log).1 in
          let next = stage_next scheme t w Itl y x k g s refl in
          then_log scheme t w y 1 2 g (initiator_hears (run w g.events) x y k next (room_log scheme t w y 1 2 g room) waits g.now st refl answers)

  -- the log has checked
  close_checked : (w : World) (x l : Transition) (k : Content) → Stage scheme w t x k → Room scheme w 2 3 → x.new ≡ Proposed → Last (committed_of w) Itl t l → l.new ≡ Checked → Closes scheme w t 2 3
  close_checked w x l k s room waits log is_checked = by (newest (transitions_of (committed_of w (Registry k.acquirer))) t) refl
    where
      log_not : (st : Status) → (st ≡ Checked → ⊥) → (st ≡ Accepted → ⊥) → (q : Transition) × Last (committed_of w) Itl t q × ((q.new ≡ st) ⊎ ((st ≡ Accepted) × (q.new ≡ Completed))) → ⊥
      log_not st a b q =
          let same : q.0 ≡ l = one_some q.0 l (sym q.1 ∙ log) in
          elim q.2 [
            | inl e ↦ a (sym e ∙ ap (λ (z : Transition). z.new) same ∙ is_checked)
            | inr e ↦ b e.0
          ]

      status : (st : Status) → Cause k.acquirer (committed_of w (Registry k.acquirer)) t st → (st ≡ Accepted) ⊎ (st ≡ Rejected)
      status Accepted h = inl refl
      status Rejected h = inr refl
      status Completed h = absurd (log_not Completed (λ e. cc (e)) (λ e. cc (e)) (log_said scheme (committed_of w) (cau scheme t w x k s) refl (Registry k.acquirer) t Completed h))
      status Cancelled h = absurd (log_not Cancelled (λ e. cc (e)) (λ e. cc (e)) (log_said scheme (committed_of w) (cau scheme t w x k s) refl (Registry k.acquirer) t Cancelled h))
      status Proposed h = absurd h
      status Checked h = absurd h
      status Terminated h = absurd h

      by : (o : Option Transition) → newest (transitions_of (committed_of w (Registry k.acquirer))) t ≡ o → Closes scheme w t 2 3
      by (Some p) there =
          at_most scheme t w 2 2 2 3 (omega arith) (omega arith)
          (acquirer_answered w x l p k s (room_less scheme t w 2 2 2 3 (omega arith) (omega arith) room) waits log is_checked there
          (status p.new (told scheme k.acquirer (committed_of w (Registry k.acquirer)) ((cau scheme t w x k s).made (Registry k.acquirer)) t p there s.known.other)))
      by None none =
          let says = log_tells scheme (committed_of w) (cau scheme t w x k s) t x k s.known l log Checked is_checked in
          let same : says.0 ≡ k = one_some says.0 k (sym says.1 ∙ log_content scheme (committed_of w) (cau scheme t w x k s) t x k s.known l log (λ e. let y : Checked ≡ Cancelled = sym is_checked ∙ e in cc (y))) in
          let id = id_at scheme (committed_of w) (cau scheme t w x k s) t x k s.known Itl l log in
          let sent : In (proposes Itl (Registry k.acquirer) t proposal.Checked k) (sends (committed_of w Itl)) =
          subst (λ z. In (proposes Itl (Registry k.acquirer) z proposal.Checked k) (sends (committed_of w Itl))) id.1
          (transition_sends (committed_of w Itl) l (proposes Itl (Registry k.acquirer) l.id proposal.Checked k) id.0
          (subst (λ (z : Content). In (proposes Itl (Registry z.acquirer) l.id proposal.Checked z) l.messages) same says.2)) in
          let y : Transition = arrived k.acquirer t k moment.seconds (acquirer_findings scheme k.acquirer (holding scheme k.acquirer (committed_of w (Registry k.acquirer))) k) in
          let v = acquirer_takes_offer scheme moment w s.calm k.acquirer t k sent none (let a = room.1 k.acquirer in omega arith) in
          let g : Went scheme w t (Registry k.acquirer) y = send scheme w s.calm (proposes Itl (Registry k.acquirer) t proposal.Checked k) moment t y s.known.acquirer sent v refl in
          let next = stage_next scheme t w (Registry k.acquirer) y x k g s (foreign scheme (committed_of w) (cau scheme t w x k s) t x k s.known) in
          then_registry scheme t w k.acquirer y 2 2 g
          (acquirer_answered (run w g.events) x l y k next (room_registry scheme t w k.acquirer y 2 2 g room) waits (newest_next scheme t w (Registry k.acquirer) Itl y (Some l) g refl log) is_checked g.now
          (arrived_answers (acquirer_findings scheme k.acquirer (holding scheme k.acquirer (committed_of w (Registry k.acquirer))) k)))

  -- proposed at the initiator
  close_proposed : (w : World) (x : Transition) (k : Content) → Stage scheme w t x k → Room scheme w 3 3 → x.new ≡ Proposed → Closes scheme w t 3 3
  close_proposed w x k s room waits = by (newest (transitions_of (committed_of w Itl)) t) refl
    where
      c : Causal scheme (committed_of w)
      c = cau scheme t w x k s

      not_ended : (l : Transition) → Last (committed_of w) Itl t l → l.new ≡ Completed → ⊥
      not_ended l log done =
          let h = (proposer scheme (committed_of w Itl) (c.made Itl) t l log (λ e. let y : Completed ≡ Cancelled = sym done ∙ e in cc (y))).ended done in
          let d =
          completed_sent scheme t.code (committed_of w (Registry t.code)) (c.made (Registry t.code)) h.notification
          (heard_sent scheme (committed_of w) c Itl (Registry t.code) t Completed refl h) h.told in
          let last : Last (committed_of w) (Registry t.code) t d.0 =
          subst (λ z. Last (committed_of w) (Registry t.code) z d.0) (d.2 ∙ h.about) (ends_last scheme t.code (committed_of w (Registry t.code)) (c.made (Registry t.code)) d.0 d.1 d.3) in
          let same : d.0 ≡ x = one_some d.0 x (sym last ∙ s.known.is) in
          let e : Completed ≡ Proposed = sym d.3 ∙ ap (λ (z : Transition). z.new) same ∙ waits in
          cc (e)

      answered : (l : Transition) → Last (committed_of w) Itl t l → (st : Status) → l.new ≡ st → IsAnswer st → Closes scheme w t 3 3
      answered l log st e a =
          at_most scheme t w 1 2 3 3 (omega arith) (omega arith) (initiator_hears w x l k s (room_less scheme t w 1 2 3 3 (omega arith) (omega arith) room) waits log st e a)

      by_status : (l : Transition) → Last (committed_of w) Itl t l → (st : Status) → l.new ≡ st → Closes scheme w t 3 3
      by_status l log Proposed e = absurd (log_tells scheme (committed_of w) (cau scheme t w x k s) t x k s.known l log Proposed e)
      by_status l log Checked e =
          at_most scheme t w 2 3 3 3 (omega arith) (omega arith) (close_checked w x l k s (room_less scheme t w 2 3 3 3 (omega arith) (omega arith) room) waits log e)
      by_status l log Completed e = absurd (not_ended l log e)
      by_status l log Accepted e = answered l log Accepted e tt
      by_status l log Rejected e = answered l log Rejected e tt
      by_status l log Terminated e = answered l log Terminated e tt
      by_status l log Cancelled e = answered l log Cancelled e tt

      checks : (v : World) (l : Transition) (found : List ℕ) → l.new ≡ checked_status found → Stage scheme v t x k → Last (committed_of v) Itl t l → Room scheme v 2 3 → Closes scheme v t 2 3
      checks v l [] e next log more = close_checked v x l k next more waits log e
      checks v l (n ∷ ns) e next log more =
          at_most scheme t v 1 2 2 3 (omega arith) (omega arith) (initiator_hears v x l k next (room_less scheme t v 1 2 2 3 (omega arith) (omega arith) more) waits log Terminated e tt)

      by : (o : Option Transition) → newest (transitions_of (committed_of w Itl)) t ≡ o → Closes scheme w t 3 3
      by (Some l) log = by_status l log l.new refl
      by None none =
          let sent = own_offer scheme (committed_of w) (cau scheme t w x k s) t x k s.known in
          let y : Transition = checked t k moment.seconds (log_findings scheme (ledger scheme (committed_of w Itl)) t.code k) in
          let v = log_takes_offer scheme moment w s.calm t.code t k sent none (let a = room.0 in omega arith) in
          let g : Went scheme w t Itl y = send scheme w s.calm (proposes (Registry t.code) Itl t proposal.Proposed k) moment t y refl sent v refl in
          let next = stage_next scheme t w Itl y x k g s refl in
          then_log scheme t w y 2 3 g (checks (run w g.events) y (log_findings scheme (ledger scheme (committed_of w Itl)) t.code k) refl next g.now (room_log scheme t w y 2 3 g room))

  -- ---- however far it has come

  pub close_one : (w : World) → Calm scheme w → Room scheme w 3 3 → Closes scheme w t 3 3
  close_one w calm room = by (newest (transitions_of (committed_of w (Registry t.code))) t) refl
    where
      c : Causal scheme (committed_of w)
      c = causal scheme w calm

      stage : (x : Transition) → Last (committed_of w) (Registry t.code) t x → (k : Content) × Stage scheme w t x k
      stage x is = let s = known_stage scheme (committed_of w) c (unplaced scheme w calm) t x is in (s.0, record { calm = calm; known = s.1 })

      by_status : (x : Transition) → Last (committed_of w) (Registry t.code) t x → (st : Status) → x.new ≡ st → IsOwnStatus st → Closes scheme w t 3 3
      by_status x is Proposed e own = let s = stage x is in close_proposed w x s.0 s.1 room e
      by_status x is Completed e own =
          let s = stage x is in at_most scheme t w 1 1 3 3 (omega arith) (omega arith) (close_owed w x s.0 s.1 (room_less scheme t w 1 1 3 3 (omega arith) (omega arith) room) e)
      by_status x is Rejected e own =
          let s = stage x is in
          let l = told_end scheme (committed_of w) c t x is Rejected e (λ z. cc (z)) refl (λ z. cc (z)) in
          at_most scheme t w 1 1 3 3 (omega arith) (omega arith) (close_ended w x l.0 s.0 s.1 (e ∙ sym l.2) l.1 (inl l.2))
      by_status x is Terminated e own =
          let s = stage x is in
          let l = told_end scheme (committed_of w) c t x is Terminated e (λ z. cc (z)) refl (λ z. cc (z)) in
          at_most scheme t w 1 1 3 3 (omega arith) (omega arith) (close_ended w x l.0 s.0 s.1 (e ∙ sym l.2) l.1 (inr l.2))
      by_status x is Cancelled e own =
          let s = stage x is in
          let l = told_end scheme (committed_of w) c t x is Cancelled e (λ z. cc (z)) refl (λ z. cc (z)) in
          at_most scheme t w 0 1 3 3 (omega arith) (omega arith) (cancel_acquirer w x l.0 s.0 s.1 (room_less scheme t w 0 1 3 3 (omega arith) (omega arith) room) e l.1 l.2)
      by_status x is Checked e own = absurd own
      by_status x is Accepted e own = absurd own

      by : (o : Option Transition) → newest (transitions_of (committed_of w (Registry t.code))) t ≡ o → Closes scheme w t 3 3
      by None none = already scheme t w 3 3 calm (unknown scheme (committed_of w) c t none)
      by (Some x) is =
          let id = newest_id (transitions_of (committed_of w (Registry t.code))) t x is in
          by_status x is x.new refl
          (own_statuses scheme t.code (committed_of w (Registry t.code)) (c.made (Registry t.code)) x id.0 (subst (λ (z : TransactionId). same_code z.code t.code ≡ true) (sym id.1) (same_code-refl t.code)))
