-- The addressee of a message that the log sent refuses it only where the addressee's journal is full. The log sends to
-- the initiator or the acquirer of a content that it knows, and the causes about addresses are refuted by
-- `LogSendings`. For the table, the notifications of the log about one transfer are compared: an addressee at an end
-- was notified of it before, and the log does not send two different ends. A completed unit is not held by the
-- acquirer, since it is coming (`AccountedUnits`).
use Rattle.std.proofs.Common.{◌≡◌, ℕ, List, [], Bool, true, false, not, Option, Some, None, ◌⊎◌, inl, inr, refl, sym, ap, subst, ◌∙◌}
use Rattle.std.specs.Prelude.{◌&&◌, option_map}
use Rattle.std.proofs.lemmas.Bool.{and_from, and_left, and_right, or_from, not_from_true, cases_Bool}
use Rattle.units.proofs.Same.{same_code-refl}
use Rattle.units.specs.Code.{same_code}
use Rattle.units.specs.declared.block.Unit.{Unit as Serial}
use Rattle.units.specs.declared.code.Code.{Code}
use Rattle.units.specs.declared.code.Node.{Node}
use Rattle.units.specs.declared.code.Node.TheVariants.{Itl, Registry}
use Rattle.status.specs.Content.{Content}
use Rattle.status.specs.Rows.{initiator_row, acquirer_row}
use Rattle.status.specs.Status.{same_status}
use Rattle.status.specs.declared.id.TransactionId.{TransactionId}
use Rattle.status.specs.declared.moment.Moment.{Moment}
use Rattle.status.specs.declared.rows.RecordedStatus.TheVariants.{Stands, Bare}
use Rattle.status.specs.declared.rows.Row.{Row}
use Rattle.status.specs.declared.rows.Row.TheVariants.{Move, Repeat, Late, Refused}
use Rattle.status.specs.declared.rows.RowInput.TheVariants.{Notified}
use Rattle.status.specs.declared.status.Status.{Status}
use Rattle.status.specs.declared.status.Status.TheVariants.{Proposed, Checked, Accepted, Rejected, Terminated, Cancelled, Completed}
use Rattle.wire.specs.NotifiedStatuses.{notified_status}
use Rattle.wire.specs.declared.input.Input.TheVariants.{Received}
use Rattle.wire.specs.declared.message.Message.{Message}
use Rattle.protocol.proofs.MessageForms as message
use Rattle.protocol.proofs.MessageForms.{ProposalMessage, NotificationMessage, Form, form, of_proposal, of_notification, of_request}
use Rattle.wire.specs.declared.message.ProposalStatus.{ProposalStatus}
use Rattle.scheme.specs.declared.registries.Scheme.{Scheme}
use Rattle.protocol.specs.AtRegistry.{holding, in_role, unless_held, holds_some, is_checked, registry_refusals, registry_verdict}
use Rattle.protocol.specs.Deciding as decide
use Rattle.protocol.specs.Deciding.{Verdict, content_in, by_row, known as known_as}
use Rattle.protocol.specs.Effects.{acquirer_sends}
use Rattle.protocol.specs.Checks.{acquirer_findings}
use Rattle.std.specs.Option.{option_map_or}
use Rattle.protocol.specs.Claims.{at_registry}
use Rattle.protocol.specs.Deciding.{recorded_if_room}
use Rattle.protocol.specs.History.{Transition, Entry, transitions_of, newest, is_status, is_known, stands_at, sends, holds, has_serial, carries}
use Rattle.protocol.specs.Pieces.{Piece, pieces, repeats}
use Rattle.protocol.specs.Registries.{has_member}
use Rattle.safety.specs.Trust.{brings, brings_to}
use Rattle.safety.proofs.AgreementOfNodes.InitiatorRecords.{begun, initiated}
use Rattle.safety.proofs.AgreementOfNodes.CausalHistories.{CausalAmong, heard_sent, log_said, past_transition}
use Rattle.safety.proofs.AgreementOfNodes.CompletionsAgree.{done_status, log_has}
use Rattle.units.proofs.Lists.SomePass.{list_any_not}
use Rattle.safety.proofs.OneRegistry.TransactionEnds.{known}
use Rattle.safety.proofs.OneLog.LogSendings.{no_request, passed_on, goes, ToKnown, never_proposed}
use Rattle.safety.proofs.MovesAndHistories.NewestTransitions.{newest_id}
use Rattle.units.proofs.Lists.Membership.{In}
use Rattle.units.proofs.Lists.OneValue.{one_some, clash}
use Rattle.scheme.proofs.Told.{other_from_test}
use Rattle.safety.proofs.ListLemmas.TestsOfSameness.{other_code}
use Rattle.safety.proofs.OwnersOfUnits.AccountedUnits.{coming_not_held}
use Rattle.safety.proofs.OneRegistry.InitiatorStatuses.{IsOwnStatus, own_statuses}
use Rattle.safety.proofs.MovesAndHistories.TableRows.{known_status, acquirer_offer_row, unless_same}
use Rattle.safety.proofs.MovesAndHistories.RefusalCauses.{welcome_row, Welcome, welcome_refuse, welcome_true, welcome_false, right_node, known_by_newest, no_other}
use Rattle.safety.proofs.OneLog.LogHearings.{IsAgreed, log_backed, log_sent, log_offered}
use Rattle.safety.proofs.MovesAndHistories.MessageSenders.{sender_sends}
use Rattle.safety.proofs.MovesAndHistories.TableRows.{word_to}
use Rattle.safety.proofs.OneRegistry.RegistryHearings.{Cause, IsTaken, told_own, told, accepted_sent}
use Rattle.protocol.proofs.UnitsOfBlocks.{covered}
use Rattle.safety.proofs.WorldLemmas.NodesWithStation.{Unplaced}

-- ---- the tables of a registry have a row

word_not_completed : (s : Status) → word_to s ≡ Completed → ⊥
word_not_completed Completed h = cc (h)
word_not_completed Proposed h = cc (h)
word_not_completed Checked h = cc (h)
word_not_completed Accepted h = cc (h)
word_not_completed Rejected h = cc (h)
word_not_completed Terminated h = cc (h)
word_not_completed Cancelled h = cc (h)

-- two words of the log about one transfer, none of them Completed, are the same
one_word : (now s log : Status) → (s ≡ Completed → ⊥) → (log ≡ word_to now) ⊎ ((word_to now ≡ Accepted) × (log ≡ Completed)) → (log ≡ s) ⊎ ((s ≡ Accepted) × (log ≡ Completed)) → word_to now ≡ s
one_word now s log other (inl a) (inl b) = sym a ∙ b
one_word now s log other (inl a) (inr b) = absurd (word_not_completed now (sym a ∙ b.1))
one_word now s log other (inr a) (inl b) = absurd (other (sym b ∙ a.1))
one_word now s log other (inr a) (inr b) = a.0 ∙ sym b.0

-- where the initiator stands at an end, it was notified of that end before
told_again : (now s : Status) → IsOwnStatus now → word_to now ≡ s → (now ≡ Proposed → ⊥) → initiator_row (Stands now) (Notified (word_to now)) ≡ Refused → ⊥
told_again Proposed s own e other h = other refl
told_again Checked s own e other h = own
told_again Accepted s own e other h = own
told_again Rejected s own e other h = cc (h)
told_again Terminated s own e other h = cc (h)
told_again Cancelled s own e other h = cc (h)
told_again Completed s own e other h = cc (h)

told_first : (s : Status) → (s ≡ Completed → ⊥) → (s ≡ Proposed → ⊥) → (s ≡ Checked → ⊥) → initiator_row (Stands Proposed) (Notified s) ≡ Refused → ⊥
told_first Accepted a b d h = cc (h)
told_first Rejected a b d h = cc (h)
told_first Terminated a b d h = cc (h)
told_first Cancelled a b d h = cc (h)
told_first Completed a b d h = a refl
told_first Proposed a b d h = b refl
told_first Checked a b d h = d refl

proposed_or_not : (s : Status) → (s ≡ Proposed) ⊎ (s ≡ Proposed → ⊥)
proposed_or_not Proposed = inl refl
proposed_or_not Checked = inr (λ e. cc (e))
proposed_or_not Accepted = inr (λ e. cc (e))
proposed_or_not Rejected = inr (λ e. cc (e))
proposed_or_not Terminated = inr (λ e. cc (e))
proposed_or_not Cancelled = inr (λ e. cc (e))
proposed_or_not Completed = inr (λ e. cc (e))

concludes_word : (now s : Status) → IsOwnStatus now → (now ≡ Proposed) ⊎ (word_to now ≡ s) → (s ≡ Completed → ⊥) → (s ≡ Proposed → ⊥) → (s ≡ Checked → ⊥) → initiator_row (Stands now) (Notified s) ≡ Refused → ⊥
concludes_word now s own (inl e) a b d h = told_first s a b d (subst (λ z. initiator_row (Stands z) (Notified s) ≡ Refused) e h)
concludes_word now s own (inr e) a b d h =
    elim (proposed_or_not now) [
      | inl p ↦ told_first s a b d (subst (λ z. initiator_row (Stands z) (Notified s) ≡ Refused) p h)
      | inr other ↦ told_again now s own e other (subst (λ w. initiator_row (Stands now) (Notified w) ≡ Refused) (sym e) h)
    ]

registry_code : (a b : Code) → Registry a ≡ Registry b → a ≡ b
registry_code a b e = cc (e)

taken_known : (o : Option Transition) → IsTaken o → (x : Transition) × (o ≡ Some x)
taken_known None h = absurd h
taken_known (Some x) h = (x, refl)

-- a registry with a history is one of the scheme's
pub registry_known : (scheme : Scheme) (f : Node → List Entry) → Unplaced scheme f → (c : Code) (t : TransactionId) (x : Transition) → newest (at_registry f c) t ≡ Some x → has_member scheme c ≡ true
registry_known scheme f unplaced c t x h =
    elim (cases_Bool (has_member scheme c)) [
      | inl y ↦ y
      | inr n ↦ let e = subst (λ (es : List Entry). newest (transitions_of es) t ≡ Some x) (unplaced (Registry c) n) h in absurd (cc (e))
    ]

module _ {trusted : Node → Bool} (scheme : Scheme) (f : Node → List Entry) (causal : CausalAmong trusted scheme f) (log : trusted Itl ≡ true) where
  module _ (c : Code) (trust : trusted (Registry c) ≡ true) where
    abbrev here : List Entry
    here = f (Registry c)

    -- ---- a proposal

    offer_welcome : (p : ProposalMessage) (moment : Moment) → In (message.proposal p) (sends (f Itl)) → p.to ≡ Registry c → Welcome (registry_verdict scheme c here (Received (message.proposal p) moment))
    offer_welcome p moment h to =
        let facts = passed_on scheme (f Itl) (causal.made Itl) p h in
        let o = log_offered scheme (f Itl) (causal.made Itl) p h in
        let mine : p.content.acquirer ≡ c = registry_code p.content.acquirer c (sym o.3 ∙ to) in
        let foreign : same_code p.id.code c ≡ false = other_code p.id.code c (λ e. other_from_test p.content.acquirer p.id.code facts.acquirer_other (mine ∙ sym e)) in
        let acquirer : same_code p.content.acquirer c ≡ true = subst (λ z. same_code p.content.acquirer z ≡ true) mine (same_code-refl p.content.acquirer) in
        welcome_refuse (registry_refusals c here (message.proposal p)) _ (
          right_node p.to (Registry c) to,
          (
            right_node p.from Itl (sender_sends scheme Itl (f Itl) (causal.made Itl) (message.proposal p) h),
            (
              or_from (not (same_code p.content.acquirer c)) _ (not_from_true (same_code p.content.acquirer c) acquirer) (or_from (same_code p.id.code c) (repeats (pieces p.content.units)) foreign facts.apart),
              (
                no_other (newest (transitions_of here) p.id) p.content (λ x e. elim (known scheme c here (causal.made (Registry c)) p.id x e foreign) [
                  | inl z ↦ inl z.1
                  | inr z ↦
                      let l = log_has scheme f causal log c p.id z.content z.got in
                      let same : l.0 ≡ o.0 = one_some l.0 o.0 (sym l.1 ∙ o.1) in
                      inr (z.is ∙ sym l.2 ∙ ap (λ (w : Transition). w.content) same ∙ o.2)
                ]),
                (subst (λ (s : ProposalStatus). not (is_checked s) ≡ false) (sym facts.status) refl, tt),
              ),
            ),
          ),
        )
        (welcome_row scheme here _ _ (acquirer_offer_row (newest (transitions_of here) p.id) (acquirer_findings scheme c (holding scheme c here) p.content)))

    -- ---- a notification

    notified_welcome : (n : NotificationMessage) (moment : Moment) → In (message.notification n) (sends (f Itl)) → n.to ≡ Registry c
        → (not (is_known (transitions_of here) n.id) && not (same_status (notified_status n.notified) Cancelled && not (same_code n.id.code c))) ≡ false
        → Welcome (in_role scheme c here n.id (newest (transitions_of here) n.id) moment.seconds (Notified (notified_status n.notified)))
        → Welcome (registry_verdict scheme c here (Received (message.notification n) moment))
    notified_welcome n moment h to about w =
        welcome_refuse (registry_refusals c here (message.notification n)) (in_role scheme c here n.id (newest (transitions_of here) n.id) moment.seconds (Notified (notified_status n.notified)))
        (right_node n.to (Registry c) to, (right_node n.from Itl (sender_sends scheme Itl (f Itl) (causal.made Itl) (message.notification n) h), (about, tt)))
        w

    -- to the initiator

    initiator_welcome : (n : NotificationMessage) (moment : Moment) → In (message.notification n) (sends (f Itl)) → n.to ≡ Registry c → n.id.code ≡ c → (notified_status n.notified ≡ Completed → ⊥)
        → Welcome (registry_verdict scheme c here (Received (message.notification n) moment))
    initiator_welcome n moment h to code not_completed =
        let s = notified_status n.notified in
        let past = log_sent scheme (f Itl) (causal.made Itl) n h in
        let l = past_transition s (newest (transitions_of (f Itl)) n.id) past.0 in
        let b = initiated scheme f causal n.id l.0 (subst (λ z. trusted (Registry z) ≡ true) (sym code) trust) l.1 in
        let x = b.last in
        let last : newest (transitions_of here) n.id ≡ Some x = subst (λ z. newest (at_registry f z) n.id ≡ Some x) code b.is in
        let own : same_code n.id.code c ≡ true = subst (λ z. same_code n.id.code z ≡ true) code (same_code-refl n.id.code) in
        let id = newest_id (transitions_of here) n.id x last in
        let status = own_statuses scheme c here (causal.made (Registry c)) x id.0 (subst (λ (z : TransactionId). same_code z.code c ≡ true) (sym id.1) own) in
        let word : (x.new ≡ Proposed) ⊎ (word_to x.new ≡ s) = elim (told_own scheme c here (causal.made (Registry c)) n.id x last own) [
          | inl e ↦ inl e
          | inr g ↦
              let k = log_said scheme f causal log (Registry c) n.id (word_to x.new) g in
              let same : k.0 ≡ l.0 = one_some k.0 l.0 (sym k.1 ∙ l.1) in
              let said = subst (λ (z : Transition). (z.new ≡ word_to x.new) ⊎ ((word_to x.new ≡ Accepted) × (z.new ≡ Completed))) same k.2 in
              inr (one_word x.new s l.0.new not_completed said l.2)
        ] in
        let not_proposed : s ≡ Proposed → ⊥ = λ e. elim l.2 [
          | inl d ↦ never_proposed scheme (f Itl) (causal.made Itl) l.0 (newest_id (transitions_of (f Itl)) n.id l.0 l.1).0 (d ∙ e)
          | inr d ↦ let y : Accepted ≡ Proposed = sym d.0 ∙ e in cc (y)
        ] in
        notified_welcome n moment h to (and_left (not (is_known (transitions_of here) n.id)) _ (known_by_newest (transitions_of here) n.id x last))
        (subst (λ z. Welcome (in_role scheme c here n.id z moment.seconds (Notified s))) (sym last)
        (welcome_true (same_code n.id.code c) _ _ own
        (welcome_row scheme here _ _
        (subst (λ z. initiator_row z (Notified s) ≡ Refused → ⊥) (sym (known_status x b.content b.known)) (concludes_word x.new s status word not_completed not_proposed past.1)))))

    -- to the acquirer

    -- to the acquirer, by the row of its recorded status
    abbrev finish : TransactionId → Option Transition → ℕ → Status → Verdict
    finish t o moment told =
        by_row scheme here (decide.moved t (content_in o) moment (acquirer_sends c t [] (Notified told)))
        (unless_held (holds_some scheme c (transitions_of here) (content_in o)) (acquirer_row (known_as o) (Notified told)))

    welcome_finish : (t : TransactionId) (o : Option Transition) (moment : ℕ) (told : Status) (row : Row) → acquirer_row (known_as o) (Notified told) ≡ row → (row ≡ Refused → ⊥)
        → (row ≡ Move Completed → holds_some scheme c (transitions_of here) (content_in o) ≡ false) → Welcome (finish t o moment told)
    welcome_finish t o moment told row is h free =
        subst (λ z. Welcome (by_row scheme here (decide.moved t (content_in o) moment (acquirer_sends c t [] (Notified told))) z))
        (sym (ap (unless_held (holds_some scheme c (transitions_of here) (content_in o))) is ∙ unless_same (holds_some scheme c (transitions_of here) (content_in o)) row free))
        (welcome_row scheme here _ row h)

    -- a transfer that the log completed and its acquirer did not brings units that the acquirer does not hold
    not_held : (t : TransactionId) (x l : Transition) → newest (transitions_of here) t ≡ Some x → x.new ≡ Accepted → same_code t.code c ≡ false → newest (transitions_of (f Itl)) t ≡ Some l → l.new ≡ Completed
        → holds_some scheme c (transitions_of here) x.content ≡ false
    not_held t x l last accepted foreign log_last done =
        elim (known scheme c here (causal.made (Registry c)) t x last foreign) [
          | inl e ↦ subst (λ k. holds_some scheme c (transitions_of here) k ≡ false) (sym e.1) refl
          | inr z ↦
              subst (λ k. holds_some scheme c (transitions_of here) k ≡ false) (sym z.is)
              (list_any_not (λ (p : Piece). holds scheme c (transitions_of here) p.unit) (pieces z.content.units) (λ p i held.
              let o = log_has scheme f causal log c t z.content z.got in
              let content : l.content ≡ Some z.content = ap (λ (v : Transition). v.content) (one_some l o.0 (sym log_last ∙ o.1)) ∙ o.2 in
              let id = newest_id (transitions_of (f Itl)) t l log_last in
              let at : brings_to l.content c ≡ true = subst (λ k. brings_to k c ≡ true) (sym content) (subst (λ d. same_code d c ≡ true) (sym z.here) (same_code-refl c)) in
              let has : carries l p.unit ≡ true = subst (λ k. has_serial k p.unit ≡ true) (sym content) (covered z.content.units p i) in
              let brought : brings c p.unit l ≡ true =
              and_from (same_status l.new Completed) (brings_to l.content c && carries l p.unit) (done_status l done) (and_from (brings_to l.content c) (carries l p.unit) at has) in
              let waits : stands_at (transitions_of here) l.id Completed ≡ false =
              subst (λ (u : TransactionId). stands_at (transitions_of here) u Completed ≡ false) (sym id.1)
              (subst (λ (o : Option Transition). is_status (option_map (λ (y : Transition). y.new) o) Completed ≡ false) (sym last) (subst (λ s. same_status s Completed ≡ false) (sym accepted) refl)) in
              clash (holds scheme c (transitions_of here) p.unit) held
              (coming_not_held scheme f causal log c trust p.unit l id.0 (and_from (brings c p.unit l) (not (stands_at (transitions_of here) l.id Completed)) brought (ap not waits)))))
        ]

    -- an acquirer that was not notified of a cancellation has the content
    taken_content : (t : TransactionId) (x : Transition) → newest (transitions_of here) t ≡ Some x → same_code t.code c ≡ false → (x.new ≡ Cancelled → ⊥) → (k : Content) × (x.content ≡ Some k)
    taken_content t x last foreign other =
        elim (known scheme c here (causal.made (Registry c)) t x last foreign) [
          | inl e ↦ absurd (other e.0)
          | inr z ↦ (z.content, z.is)
        ]

    table_of : (x : Transition) (s : Status) → (k : Content) × (x.content ≡ Some k) → acquirer_row (known_as (Some x)) (Notified s) ≡ acquirer_row (Stands x.new) (Notified s)
    table_of x s k = ap (λ z. acquirer_row z (Notified s)) (known_status x k.0 k.1)

    told_completed : (t : TransactionId) (l x : Transition) (moment : ℕ) → same_code t.code c ≡ false → newest (transitions_of (f Itl)) t ≡ Some l → l.new ≡ Completed → newest (transitions_of here) t ≡ Some x → IsTaken (Some x)
        → Welcome (finish t (Some x) moment Completed)
    told_completed t l x moment foreign log_last done last (inl e) =
        welcome_finish t (Some x) moment Completed (Move Completed)
        (table_of x Completed (taken_content t x last foreign (λ d. let y : Accepted ≡ Cancelled = sym e ∙ d in cc (y))) ∙ ap (λ z. acquirer_row (Stands z) (Notified Completed)) e) (λ h. cc (h))
        (λ h. not_held t x l last e foreign log_last done)
    told_completed t l x moment foreign log_last done last (inr (inl e)) =
        welcome_finish t (Some x) moment Completed Repeat
        (table_of x Completed (taken_content t x last foreign (λ d. let y : Completed ≡ Cancelled = sym e ∙ d in cc (y))) ∙ ap (λ z. acquirer_row (Stands z) (Notified Completed)) e) (λ h. cc (h)) (λ h. absurd (cc (h)))
    told_completed t l x moment foreign log_last done last (inr (inr e)) =
        let p = subst (Cause c here t) e (told scheme c here (causal.made (Registry c)) t x last foreign) in
        let k = log_said scheme f causal log (Registry c) t Cancelled p in
        let same : k.0 ≡ l = one_some k.0 l (sym k.1 ∙ log_last) in
        absurd (elim k.2 [
          | inl d ↦ let y : Cancelled ≡ Completed = sym d ∙ ap (λ (z : Transition). z.new) same ∙ done in cc (y)
          | inr d ↦ let y : Cancelled ≡ Accepted = d.0 in cc (y)
        ])

    told_cancelled : (t : TransactionId) (l : Transition) (o : Option Transition) (moment : ℕ) → same_code t.code c ≡ false → newest (transitions_of (f Itl)) t ≡ Some l → l.new ≡ Cancelled → newest (transitions_of here) t ≡ o
        → Welcome (in_role scheme c here t o moment (Notified Cancelled))
    told_cancelled t l None moment foreign log_last done last =
        welcome_false (same_code t.code c) _ _ foreign (welcome_finish t None moment Cancelled (Move Cancelled) refl (λ e. cc (e)) (λ e. absurd (cc (e))))
    told_cancelled t l (Some x) moment foreign log_last done last =
        welcome_false (same_code t.code c) _ _ foreign
        (elim (known scheme c here (causal.made (Registry c)) t x last foreign) [
          | inl e ↦
              welcome_finish t (Some x) moment Cancelled Repeat (ap (λ z. acquirer_row (option_map_or (λ k. Stands x.new) z Bare) (Notified Cancelled)) e.1) (λ h. cc (h)) (λ h. absurd (cc (h)))
          | inr z ↦ go x.new (table_of x Cancelled (z.content, z.is)) (told scheme c here (causal.made (Registry c)) t x last foreign)
        ])
      where
        go : (s : Status) → acquirer_row (known_as (Some x)) (Notified Cancelled) ≡ acquirer_row (Stands s) (Notified Cancelled) → Cause c here t s → Welcome (finish t (Some x) moment Cancelled)
        go Accepted row h = welcome_finish t (Some x) moment Cancelled (Move Cancelled) row (λ e. cc (e)) (λ e. absurd (cc (e)))
        go Cancelled row h = welcome_finish t (Some x) moment Cancelled Repeat row (λ e. cc (e)) (λ e. absurd (cc (e)))
        go Rejected row h = welcome_finish t (Some x) moment Cancelled Late row (λ e. cc (e)) (λ e. absurd (cc (e)))
        go Completed row h =
            let k = log_said scheme f causal log (Registry c) t Completed h in
            let same : k.0 ≡ l = one_some k.0 l (sym k.1 ∙ log_last) in
            let ended : k.0.new ≡ Completed = elim k.2 [
              | inl d ↦ d
              | inr d ↦ d.1
            ] in
            let y : Completed ≡ Cancelled = sym ended ∙ ap (λ (z : Transition). z.new) same ∙ done in
            absurd (cc (y))
        go Proposed row h = absurd h
        go Checked row h = absurd h
        go Terminated row h = absurd h

    acquirer_welcome : (n : NotificationMessage) (moment : Moment) → In (message.notification n) (sends (f Itl)) → n.to ≡ Registry c → ToKnown (f Itl) n → Welcome (registry_verdict scheme c here (Received (message.notification n) moment))
    acquirer_welcome n moment h to g =
        let s = notified_status n.notified in
        let t = n.id in
        let l = g.last in
        let k = g.goes.content in
        let mine : k.acquirer ≡ c = registry_code k.acquirer c (sym g.goes.to ∙ to) in
        let past = past_transition s (newest (transitions_of (f Itl)) t) (log_sent scheme (f Itl) (causal.made Itl) n h).0 in
        let same : past.0 ≡ l = one_some past.0 l (sym past.1 ∙ g.is) in
        let stood = subst (λ (z : Transition). (z.new ≡ s) ⊎ ((s ≡ Accepted) × (z.new ≡ Completed))) same past.2 in
        let foreign : same_code t.code c ≡ false =
        other_code t.code c (λ e.
        let b = begun scheme f causal t l (subst (λ z. trusted (Registry z) ≡ true) (sym e) trust) g.is (λ z. let y = sym g.goes.known ∙ z.content in cc (y)) in
        let content : b.content ≡ k = one_some b.content k (sym b.known ∙ g.goes.known) in
        other_from_test b.content.acquirer t.code b.acquirer_other (ap (λ (z : Content). z.acquirer) content ∙ mine ∙ sym e)) in
        elim g.goes.said [
          | inl e ↦
              let done : l.new ≡ Completed = elim stood [
                | inl d ↦ d ∙ e
                | inr d ↦ d.1
              ] in
              let a = log_backed scheme (f Itl) (causal.made Itl) t l g.is (subst IsAgreed (sym done) tt) in
              let who : a.content.acquirer ≡ c = ap (λ (z : Content). z.acquirer) (one_some a.content k (sym a.known ∙ g.goes.known)) ∙ mine in
              let accepted = subst (λ z. In (message.notification a.heard.notification) (sends (f (Registry z)))) who (heard_sent scheme f causal Itl (Registry a.content.acquirer) t Accepted (subst (λ z. trusted (Registry z) ≡ true) (sym who) trust) a.heard) in
              let taken = subst (λ z. IsTaken (newest (transitions_of here) z)) a.heard.about (accepted_sent scheme c here (causal.made (Registry c)) a.heard.notification accepted a.heard.told).1 in
              let x = taken_known (newest (transitions_of here) t) taken in
              notified_welcome n moment h to (and_left (not (is_known (transitions_of here) t)) _ (known_by_newest (transitions_of here) t x.0 x.1))
              (subst (λ z. Welcome (in_role scheme c here t z moment.seconds (Notified s))) (sym x.1)
              (welcome_false (same_code t.code c) _ _ foreign
              (subst (λ z. Welcome (finish t (Some x.0) moment.seconds z)) (sym e)
              (told_completed t l x.0 moment.seconds foreign g.is done x.1 (subst IsTaken x.1 taken)))))
          | inr e ↦
              let done : l.new ≡ Cancelled = elim stood [
                | inl d ↦ d ∙ e
                | inr d ↦ let y : Accepted ≡ Cancelled = sym d.0 ∙ e in absurd (cc (y))
              ] in
              let cancels : (same_status s Cancelled && not (same_code t.code c)) ≡ true =
              and_from (same_status s Cancelled) (not (same_code t.code c)) (subst (λ z. same_status z Cancelled ≡ true) (sym e) refl) (ap not foreign) in
              notified_welcome n moment h to (and_right (not (is_known (transitions_of here) t)) _ (not_from_true (same_status s Cancelled && not (same_code t.code c)) cancels))
              (subst (λ z. Welcome (in_role scheme c here t (newest (transitions_of here) t) moment.seconds (Notified z))) (sym e)
              (told_cancelled t l (newest (transitions_of here) t) moment.seconds foreign g.is done refl))
        ]

    welcome_as : (m : Message) → Form m → (moment : Moment) → In m (sends (f Itl)) → m.to ≡ Registry c → Welcome (registry_verdict scheme c here (Received m moment))
    welcome_as m (of_proposal p) moment h to = offer_welcome p moment h to
    welcome_as m (of_request r) moment h to = absurd (no_request scheme (f Itl) (causal.made Itl) r h)
    welcome_as m (of_notification n) moment h to =
        elim (goes scheme (f Itl) (causal.made Itl) n h) [
          | inl g ↦ initiator_welcome n moment h to (registry_code n.id.code c (sym g.to ∙ to)) g.said
          | inr g ↦ acquirer_welcome n moment h to g
        ]

    pub registry_welcome : (m : Message) (moment : Moment) → In m (sends (f Itl)) → m.to ≡ Registry c → Welcome (registry_verdict scheme c here (Received m moment))
    registry_welcome m moment h to = welcome_as m (form m) moment h to
