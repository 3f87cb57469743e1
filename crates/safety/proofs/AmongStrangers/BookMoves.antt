-- One record more of the log moves the owner of a unit only if it is the owner's own Completed of a transfer of it.
use Rattle.std.proofs.Common.{◌≡◌, ℕ, List, [], ◌∷◌, ◌++◌, Bool, true, false, cond, Some, ◌⊎◌, inl, inr, refl, sym, ap, subst, ◌∙◌}
use Rattle.std.specs.Prelude.{◌&&◌, option_map}
use Rattle.std.proofs.lemmas.Bool.{and_parts, not-false, cond-true, cond-false, cases_Bool}
use Rattle.units.proofs.Same.{node_of_same}
use Rattle.units.specs.Code.{same_node}
use Rattle.units.specs.declared.block.Unit.{Unit as Serial}
use Rattle.units.specs.declared.code.Code.{Code}
use Rattle.units.specs.declared.code.Node.TheVariants.{Itl, Registry}
use Rattle.status.specs.Content.{Content}
use Rattle.status.specs.Status.{same_status}
use Rattle.status.specs.declared.id.TransactionId.{TransactionId}
use Rattle.status.specs.declared.status.Status.TheVariants.{Checked, Accepted, Rejected, Cancelled, Completed}
use Rattle.wire.specs.NotifiedStatuses.{notified_status}
use Rattle.wire.specs.declared.input.Input.{Input}
use Rattle.wire.specs.declared.message.Body.TheVariants as body
use Rattle.wire.specs.declared.notified.NotifiedStatus.{NotifiedStatus}
use Rattle.wire.specs.declared.notified.NotifiedStatus.TheVariants as notified
use Rattle.scheme.specs.declared.registries.Scheme.{Scheme}
use Rattle.protocol.proofs.Histories.{history_snoc}
use Rattle.protocol.proofs.MessageForms as form
use Rattle.protocol.specs.AtLog.{is_from_another}
use Rattle.protocol.specs.History.{Transition, Entry, transitions_of, newest, carries, book_owner}
use Rattle.safety.specs.Trust.{IsHandover, BookMovesByOwners}
use Rattle.protocol.specs.Verdict.{verdict, transitions_made, extend, history}
use Rattle.units.proofs.Lists.Membership.{In}
use Rattle.units.proofs.Lists.OneValue.{one_some}
use Rattle.safety.proofs.ListLemmas.TestsOfSameness.{status_of_same}
use Rattle.safety.proofs.MovesAndHistories.LongerHistories.{made_history}
use Rattle.safety.proofs.MovesAndHistories.NewestTransitions.{newest_id}
use Rattle.safety.proofs.MovesAndHistories.TableMoves.{LogMove, checks, passes, cancels, forestalls, log_moves}
use Rattle.safety.proofs.MovesAndHistories.TableRows.{log_from}
use Rattle.safety.proofs.MovesAndHistories.TransitionForms.{checked_status}
use Rattle.safety.proofs.OneLog.OwnersInLog.{IsBusy, in_book}

said : (n : NotifiedStatus) → notified_status n ≡ Completed → n ≡ notified.Completed
said notified.Accepted e = absurd (cc (e))
said (notified.Rejected codes) e = absurd (cc (e))
said (notified.Terminated codes) e = absurd (cc (e))
said notified.Cancelled e = absurd (cc (e))
said notified.Completed e = refl

not_checked : (found : List ℕ) → same_status (checked_status found) Completed ≡ true → ⊥
not_checked [] e = cc (e)
not_checked (n ∷ ns) e = cc (e)

module _ (scheme : Scheme) (journal : List Input) (s : Serial) (c d : Code) (owned : book_owner scheme (transitions_of (history scheme Itl journal)) s ≡ Some c) where
  handover : (input : Input) (x : Transition) → LogMove scheme (history scheme Itl journal) input x → same_status x.new Completed ≡ true → carries x s ≡ true
      → option_map (λ (k : Content). k.acquirer) x.content ≡ Some d → IsHandover scheme journal input s c d
  handover input x (checks p moment found f st is none member) done carried to = absurd (not_checked found done)
  handover input x (passes n moment q k new was held member right move) done carried to =
      let xs = transitions_of (history scheme Itl journal) in
      let done_now : new ≡ Completed = status_of_same new Completed done in
      elim (log_from q.new (notified_status n.notified) new move) [
        | inl m ↦
            absurd (elim m.2 [
              | inl a ↦ let y : Accepted ≡ Completed = sym a ∙ sym m.1 ∙ done_now in cc (y)
              | inr a ↦ let y : Rejected ≡ Completed = sym a ∙ sym m.1 ∙ done_now in cc (y)
            ])
        | inr m ↦
            let id = newest_id xs n.id q was in
            let at : newest xs q.id ≡ Some q = subst (λ z. newest xs z ≡ Some q) (sym id.1) was in
            let mine =
            (in_book scheme s (history scheme Itl journal) (made_history scheme Itl journal)).owner q.id (record { last = q; is = at; new = subst IsBusy (sym m.0) tt; has = carried }) in
            let code : n.id.code ≡ c = sym (ap (λ (z : TransactionId). z.code) id.1) ∙ one_some q.id.code c (sym mine ∙ owned) in
            let w : is_from_another n.from n.id q.content Completed ≡ false = subst (λ z. is_from_another n.from n.id q.content z ≡ false) m.2 right in
            let who = node_of_same n.from (Registry n.id.code) (not-false (same_node n.from (Registry n.id.code)) w) in
            record {
              message = form.notification n;
              moment = moment;
              is = refl;
              from = who ∙ ap (λ z. Registry z) code;
              own = code;
              completed = ap (λ z. body.Notification z) (said n.notified m.2);
              last = q;
              before = was;
              content = k;
              has = held;
              carried = carried;
              to = one_some k.acquirer d (sym (ap (option_map (λ (z : Content). z.acquirer)) held) ∙ to);
            }
      ]
  handover input x (forestalls r moment f member none) done carried to = absurd (cc (done))
  handover input x (cancels given moment t q k why was held stood) done carried to = absurd (cc (done))

  -- of the new transitions, the last that moves the unit is the handover
  moved_by : (input : Input) (front : List Transition) → ((x : Transition) → In x front → LogMove scheme (history scheme Itl journal) input x)
      → book_owner scheme (front ++ transitions_of (history scheme Itl journal)) s ≡ Some d → (c ≡ d) ⊎ IsHandover scheme journal input s c d
  moved_by input [] move h = inl (one_some c d (sym owned ∙ h))
  moved_by input (x ∷ front) move h =
      let older = book_owner scheme (front ++ transitions_of (history scheme Itl journal)) s in
      elim (cases_Bool (same_status x.new Completed && carries x s)) [
        | inl y ↦
            let parts = and_parts (same_status x.new Completed) (carries x s) y in
            let e = cond-true (same_status x.new Completed && carries x s) (option_map (λ (k : Content). k.acquirer) x.content) older y in
            inr (handover input x (move x (inl refl)) parts.0 parts.1 (sym e ∙ h))
        | inr n ↦
            let e = cond-false (same_status x.new Completed && carries x s) (option_map (λ (k : Content). k.acquirer) x.content) older n in
            moved_by input front (λ z i. move z (inr i)) (sym e ∙ h)
      ]

pub book_moves_by_owners : (scheme : Scheme) → BookMovesByOwners scheme
unfolding verdict
book_moves_by_owners scheme journal input s c d before after =
    let es = history scheme Itl journal in
    moved_by scheme journal s c d before input (transitions_made (verdict scheme Itl es input)) (λ x i. log_moves scheme es input x i)
    (subst (λ (z : List Entry). book_owner scheme (transitions_of z) s ≡ Some d) (history_snoc scheme Itl journal input) after)
