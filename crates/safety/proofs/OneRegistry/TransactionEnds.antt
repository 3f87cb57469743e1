-- A completed transition is the last of its transaction, and the content of a transfer never changes.
-- `each_move` is the induction that all parts use: what each single transition keeps, given the older ones, holds of
-- the whole history. No move starts from Completed, so a second completion of one transaction is impossible
-- (`ends_last`, `completed_is_last`). The last two parts say where a content comes from. An acquirer has it from the
-- log's offer (`known`), and the log has it from the initiator's proposal (`proposer`), unless a request cancelled
-- the transaction before its proposal came.
use Rattle.std.specs.List.{count_by}
use Rattle.std.proofs.Common.{◌≡◌, ℕ, ◌+◌, List, [], ◌∷◌, ◌++◌, Bool, true, false, not, Some, None, ◌⊎◌, inl, inr, refl, sym, ap, subst, ◌∙◌, arith}
use Rattle.std.specs.Prelude.{◌&&◌}
use Rattle.std.proofs.lemmas.Bool.{and_parts, and_from, and_left, or_parts, not-false, cond-true, cond-false, cases_Bool}
use Rattle.units.proofs.Same.{code_of_same, same_code-refl, node_of_same}
use Rattle.units.specs.Code.{same_code, same_node}
use Rattle.units.specs.declared.code.Code.{Code}
use Rattle.units.specs.declared.code.Node.{Node}
use Rattle.units.specs.declared.code.Node.TheVariants.{Itl, Registry}
use Rattle.status.proofs.Ids.{id_at-code, id_of_same, same_id-refl}
use Rattle.status.specs.Content.{Content}
use Rattle.status.specs.Id.{same_id, id_at}
use Rattle.status.specs.Rows.{log_row}
use Rattle.status.specs.Status.{same_status}
use Rattle.status.specs.declared.rows.RecordedStatus.TheVariants.{Stands}
use Rattle.status.specs.declared.rows.Row.TheVariants.{Move}
use Rattle.status.specs.declared.rows.RowInput.TheVariants.{Notified}
use Rattle.status.specs.declared.id.TransactionId.{TransactionId}
use Rattle.status.specs.declared.status.Status.{Status}
use Rattle.status.specs.declared.status.Status.TheVariants.{Proposed, Checked, Accepted, Rejected, Terminated, Cancelled, Completed}
use Rattle.wire.specs.NotifiedStatuses.{notified_status}
use Rattle.wire.specs.declared.input.Input.{Input}
use Rattle.protocol.proofs.MessageForms as message
use Rattle.protocol.proofs.MessageForms.{ProposalMessage, NotificationMessage, RequestMessage, one_notified, one_proposal, apart}
use Rattle.wire.specs.declared.message.ProposalStatus.TheVariants as proposal
use Rattle.scheme.specs.declared.registries.Scheme.{Scheme}
use Rattle.protocol.specs.Registries.{has_member}
use Rattle.protocol.specs.Claims.{CompletedOnce}
use Rattle.protocol.specs.History.{Transition, Entry, transitions_of, newest, sends, messages_of, proposals}
use Rattle.protocol.specs.AtRegistry.{content_of}
use Rattle.protocol.specs.AtLog.{is_no_registry, is_from_another}
use Rattle.safety.proofs.MovesAndHistories.TransitionForms.{arrived_status, concluded_messages, checked_status}
use Rattle.units.proofs.Lists.SomePass.{list_any_not}
use Rattle.protocol.proofs.CountsInLists.{number_none, count_no, count_yes}
use Rattle.safety.proofs.MovesAndHistories.NewestTransitions.{Made, Got, Heard, Offered, heard_later, offered_later, made_registry, made_log, newest_append, newest_id, newest_in}
use Rattle.safety.proofs.OneRegistry.UnitsCountedOnce.{made_single, Single}
use Rattle.units.proofs.Lists.Membership.{In, In_cases, In_flat_map, In_left, In_right}
use Rattle.units.proofs.Lists.OneValue.{one_some, clash}
use Rattle.safety.proofs.ListLemmas.TestsOfSameness.{status_of_same}
use Rattle.safety.proofs.MovesAndHistories.TableMoves.{RegistryMove, proposes, asks, arrives, bares, concludes, finishes, LogMove, checks, passes, cancels, forestalls}
use Rattle.units.proofs.Lists.Positions.{In_contains}
use Rattle.safety.proofs.MovesAndHistories.TableRows.{initiator_from, acquirer_from, log_from}
use Rattle.safety.proofs.OneRegistry.RegistryHearings.{arrived_notified_status}

arrived_open : (found : List ℕ) → arrived_status found ≡ Completed → ⊥
arrived_open [] h = cc (h)
arrived_open (n ∷ ns) h = cc (h)

-- where an initiator's transfer moves to this status, the only notification that it sends is Completed
concluded_completed : (c : Code) (u : TransactionId) (new : Status) (n : NotificationMessage) → In (message.notification n) (concluded_messages c u new) → (u ≡ n.id) × (new ≡ Completed)
concluded_completed c u Completed n (inl e) = let s = one_notified _ n e in (ap (λ (z : NotificationMessage). z.id) s, refl)
concluded_completed c u Completed n (inr h) = absurd h
concluded_completed c u Proposed n h = absurd h
concluded_completed c u Checked n h = absurd h
concluded_completed c u Accepted n h = absurd h
concluded_completed c u Rejected n h = absurd h
concluded_completed c u Terminated n h = absurd h
concluded_completed c u Cancelled n h = absurd h

pub concluded_offers : (c : Code) (u : TransactionId) (new : Status) (p : ProposalMessage) → In (message.proposal p) (concluded_messages c u new) → ⊥
concluded_offers c u Completed p (inl e) = apart e refl
concluded_offers c u Completed p (inr h) = h
concluded_offers c u Proposed p h = h
concluded_offers c u Checked p h = h
concluded_offers c u Accepted p h = h
concluded_offers c u Rejected p h = h
concluded_offers c u Terminated p h = h
concluded_offers c u Cancelled p h = h

-- two of the transitions of one input are the same
pub single_same : (xs : List Transition) (x y : Transition) → Single xs → In x xs → In y xs → x ≡ y
single_same xs x y (inl e) i j = absurd (subst (In x) e i)
single_same xs x y (inr e) i j =
    elim (subst (In x) e.1 i) [
      | inl a ↦
          elim (subst (In y) e.1 j) [
            | inl b ↦ sym a ∙ b
            | inr b ↦ absurd b
          ]
      | inr a ↦ absurd a
    ]

-- the content of a transfer of one's own
pub record OwnContent (scheme : Scheme) (c : Code) (x : Transition) : Type 0 where
  pub content : Content
  pub is : x.content ≡ Some content
  pub acquirer_known : has_member scheme content.acquirer ≡ true
  pub acquirer_other : same_code content.acquirer c ≡ false

abbrev pub EndsLast : List Transition → Type 0
EndsLast xs = (x : Transition) → In x xs → x.new ≡ Completed → newest xs x.id ≡ Some x

abbrev pub OwnContents : Scheme → Code → List Transition → Type 0
OwnContents scheme c xs = (x : Transition) → In x xs → same_code x.id.code c ≡ true → OwnContent scheme c x

module _ (scheme : Scheme) (c : Code) where
  pub own_code : (n : ℕ) (t : TransactionId) → id_at c n ≡ Some t → same_code t.code c ≡ true
  own_code n t is = subst (λ z. same_code z c ≡ true) (sym (id_at-code c n t is)) (same_code-refl c)

  -- who a transition is about is who the notification was about
  pub own_about : (es : List Entry) (t : TransactionId) (q : Transition) → newest (transitions_of es) t ≡ Some q → same_code q.id.code c ≡ true → same_code t.code c ≡ true
  own_about es t q was own = subst (λ (z : TransactionId). same_code z.code c ≡ true) (newest_id (transitions_of es) t q was).1 own

  pub newest_own : (es : List Entry) (t : TransactionId) (q x : Transition) → newest (transitions_of es) t ≡ Some q → newest (transitions_of es) q.id ≡ Some x → q ≡ x
  newest_own es t q x was h =
      let w : newest (transitions_of es) q.id ≡ Some q = subst (λ z. newest (transitions_of es) z ≡ Some q) (sym (newest_id (transitions_of es) t q was).1) was in
      one_some q x (sym w ∙ h)

  -- what holds of each transition by itself, given the older ones, holds of all
  pub each_move : (P : List Transition → Type 0) → P []
      → ((es : List Entry) (input : Input) (x : Transition) → Made scheme (Registry c) es → RegistryMove scheme c es input x → P (transitions_of es) → P (x ∷ transitions_of es))
      → (es : List Entry) → Made scheme (Registry c) es → P (transitions_of es)
  each_move P none more [] made = none
  each_move P none more (e ∷ es) made =
      elim (made_single scheme c e es made) [
        | inl z ↦ subst (λ xs. P (xs ++ transitions_of es)) (sym z) (each_move P none more es made.1)
        | inr z ↦
            subst (λ xs. P (xs ++ transitions_of es)) (sym z.1)
            (more es e.input z.0 made.1 (made_registry scheme c e es z.0 made (subst (λ xs. In z.0 xs) (sym z.1) (inl refl))) (each_move P none more es made.1))
      ]

  -- ---- no transition follows a completed one

  alive : (es : List Entry) (input : Input) (x y : Transition) → Made scheme (Registry c) es → RegistryMove scheme c es input x → newest (transitions_of es) x.id ≡ Some y → y.new ≡ Completed → ⊥
  alive es input x y made (proposes o t none is fresh) h done = let e = sym fresh ∙ h in cc (e)
  alive es input x y made (asks t q was own stood) h done =
      let a : Proposed ≡ Completed = sym stood ∙ ap (λ (z : Transition). z.new) (newest_own es t q y was h) ∙ done in
      cc (a)
  alive es input x y made (arrives p moment found f s is none foreign mine) h done = let e = sym none ∙ h in cc (e)
  alive es input x y made (bares n moment f cancelled none foreign) h done = let e = sym none ∙ h in cc (e)
  alive es input x y made (concludes n moment q new f was mine move) h done =
      let same = newest_own es n.id q y was h in
      let a : Proposed ≡ Completed = sym (initiator_from q.new (notified_status n.notified) new move).0 ∙ ap (λ (z : Transition). z.new) same ∙ done in
      cc (a)
  alive es input x y made (finishes n moment q new f was foreign move none) h done =
      let same = newest_own es n.id q y was h in
      let a : Accepted ≡ Completed = sym (acquirer_from q.new (notified_status n.notified) new move).0 ∙ ap (λ (z : Transition). z.new) same ∙ done in
      cc (a)

  pub ends_last : (es : List Entry) → Made scheme (Registry c) es → EndsLast (transitions_of es)
  ends_last =
      each_move EndsLast (λ x i done. absurd i)
      (λ es input x made move old y i done. elim i [
        | inl e ↦ subst (λ (z : Transition). newest (x ∷ transitions_of es) z.id ≡ Some z) e (cond-true (same_id x.id x.id) (Some x) (newest (transitions_of es) x.id) (same_id-refl x.id))
        | inr j ↦
            elim (cases_Bool (same_id x.id y.id)) [
              | inl t ↦ absurd (alive es input x y made move (subst (λ z. newest (transitions_of es) z ≡ Some y) (sym (id_of_same x.id y.id t)) (old y j done)) done)
              | inr n ↦ cond-false (same_id x.id y.id) (Some x) (newest (transitions_of es) y.id) n ∙ old y j done
            ]
      ])

  -- no two transitions complete one transaction
  pub ends_once : (es : List Entry) (input : Input) (x y : Transition) → Made scheme (Registry c) es → RegistryMove scheme c es input x → In y (transitions_of es) → y.new ≡ Completed → x.id ≡ y.id → ⊥
  ends_once es input x y made move i done same = alive es input x y made move (subst (λ z. newest (transitions_of es) z ≡ Some y) (sym same) (ends_last es made y i done)) done

  -- one transition completes it
  abbrev is_end_of : TransactionId → Transition → Bool
  is_end_of t x = same_id x.id t && same_status x.new Completed

  abbrev EndsOnce : List Transition → Type 0
  EndsOnce xs = (x : Transition) → In x xs → x.new ≡ Completed → count_by (is_end_of x.id) xs ≡ 1

  one_end : (es : List Entry) → Made scheme (Registry c) es → EndsOnce (transitions_of es)
  one_end =
      each_move EndsOnce (λ x i done. absurd i)
      (λ es input x made move old y i done. elim i [
        | inl e ↦
            let done_here : x.new ≡ Completed = ap (λ (z : Transition). z.new) e ∙ done in
            let here : is_end_of y.id x ≡ true =
            and_from (same_id x.id y.id) (same_status x.new Completed) (subst (λ (z : Transition). same_id x.id z.id ≡ true) e (same_id-refl x.id)) (subst (λ z. same_status z Completed ≡ true) (sym done_here) refl) in
            let none =
            number_none (is_end_of y.id) (transitions_of es)
            (list_any_not (is_end_of y.id) (transitions_of es)
            (λ z j h.
            let parts = and_parts (same_id z.id y.id) (same_status z.new Completed) h in
            ends_once es input x z made move j (status_of_same z.new Completed parts.1) (ap (λ (w : Transition). w.id) e ∙ sym (id_of_same z.id y.id parts.0)))) in
            let more = count_yes (is_end_of y.id) x (transitions_of es) here in
            omega arith
        | inr j ↦
            elim (cases_Bool (same_id x.id y.id)) [
              | inl t ↦ absurd (ends_once es input x y made move j done (id_of_same x.id y.id t))
              | inr n ↦ count_no (is_end_of y.id) x (transitions_of es) (and_left (same_id x.id y.id) (same_status x.new Completed) n) ∙ old y j done
            ]
      ])

  pub completed_is_last : (es : List Entry) → Made scheme (Registry c) es → CompletedOnce (transitions_of es)
  completed_is_last es made x i done = let h = In_contains (transitions_of es) x i in (ends_last es made x h done, one_end es made x h done)

  -- ---- the content of a transfer of one's own

  own_move : (es : List Entry) (input : Input) (x : Transition) → RegistryMove scheme c es input x → OwnContents scheme c (transitions_of es) → same_code x.id.code c ≡ true → OwnContent scheme c x
  own_move es input x (proposes o t none is fresh) old own =
      let a = or_parts (not (has_member scheme o.acquirer)) (same_code o.acquirer c) none.1.1.1.1.1.1.0 in
      record { content = content_of o; is = refl; acquirer_known = not-false (has_member scheme o.acquirer) a.0; acquirer_other = a.1 }
  own_move es input x (asks t q was mine stood) old own =
      let a = old q (newest_id (transitions_of es) t q was).0 own in
      record { content = a.content; is = a.is; acquirer_known = a.acquirer_known; acquirer_other = a.acquirer_other }
  own_move es input x (arrives p moment found f s is none foreign mine) old own = clash (same_code p.id.code c) own foreign
  own_move es input x (bares n moment f cancelled none foreign) old own = clash (same_code n.id.code c) own foreign
  own_move es input x (concludes n moment q new f was mine move) old own =
      let a = old q (newest_id (transitions_of es) n.id q was).0 own in
      record { content = a.content; is = a.is; acquirer_known = a.acquirer_known; acquirer_other = a.acquirer_other }
  own_move es input x (finishes n moment q new f was foreign move none) old own = clash (same_code n.id.code c) (own_about es n.id q was own) foreign

  pub own_contents : (es : List Entry) → Made scheme (Registry c) es → OwnContents scheme c (transitions_of es)
  own_contents =
      each_move (OwnContents scheme c) (λ x i own. absurd i)
      (λ es input x made move old y i own. elim i [
        | inl e ↦ subst (OwnContent scheme c) e (own_move es input x move old (subst (λ (z : Transition). same_code z.id.code c ≡ true) (sym e) own))
        | inr j ↦ old y j own
      ])

  -- ---- what was offered

  offer_move : (es : List Entry) (input : Input) (x : Transition) (p : ProposalMessage) → RegistryMove scheme c es input x → In (message.proposal p) x.messages
      → (x.id ≡ p.id) × (x.content ≡ Some p.content) × (same_code p.id.code c ≡ true)
  offer_move es input x p (proposes o t none is fresh) (inl e) =
      let s = one_proposal _ p e in
      let about : t ≡ p.id = ap (λ (z : ProposalMessage). z.id) s in (
        about,
        ap (λ (z : ProposalMessage). Some z.content) s,
        subst (λ (z : TransactionId). same_code z.code c ≡ true) about (own_code (proposals es + 1) t is),
      )
  offer_move es input x p (proposes o t none is fresh) (inr h) = absurd h
  offer_move es input x p (arrives q moment found f s is none foreign mine) (inl e) = apart e refl
  offer_move es input x p (arrives q moment found f s is none foreign mine) (inr h) = absurd h
  offer_move es input x p (asks t q was own stood) (inl e) = apart e refl
  offer_move es input x p (asks t q was own stood) (inr h) = absurd h
  offer_move es input x p (bares n moment f cancelled none foreign) h = absurd h
  offer_move es input x p (concludes n moment q new f was mine move) h = absurd (concluded_offers c q.id new p h)
  offer_move es input x p (finishes n moment q new f was foreign move none) h = absurd h

  own_keeps : (es : List Entry) (input : Input) (x y : Transition) → Made scheme (Registry c) es → RegistryMove scheme c es input x → newest (transitions_of es) x.id ≡ Some y
      → same_code x.id.code c ≡ true → x.content ≡ y.content
  own_keeps es input x y made (proposes o t none is fresh) h own = absurd (let e = sym fresh ∙ h in cc (e))
  own_keeps es input x y made (asks t q was mine stood) h own = ap (λ (z : Transition). z.content) (newest_own es t q y was h)
  own_keeps es input x y made (arrives p moment found f s is none foreign mine) h own = clash (same_code p.id.code c) own foreign
  own_keeps es input x y made (bares n moment f cancelled none foreign) h own = clash (same_code n.id.code c) own foreign
  own_keeps es input x y made (concludes n moment q new f was mine move) h own = ap (λ (z : Transition). z.content) (newest_own es n.id q y was h)
  own_keeps es input x y made (finishes n moment q new f was foreign move none) h own = clash (same_code n.id.code c) (own_about es n.id q was own) foreign

  -- what a registry proposed is the content of its transfer for good
  pub offered : (es : List Entry) → Made scheme (Registry c) es → (p : ProposalMessage) → In (message.proposal p) (sends es)
      → (x : Transition) × (newest (transitions_of es) p.id ≡ Some x) × (x.content ≡ Some p.content) × (same_code p.id.code c ≡ true)
  offered [] made p h = absurd h
  offered (e ∷ es) made p h =
      elim (In_cases (message.proposal p) (sends es) (messages_of e.transitions) h) [
        | inl old ↦
            let o = offered es made.1 p old in
            elim (newest_append e.transitions (transitions_of es) p.id) [
              | inl u ↦ (o.0, u ∙ o.1, o.2, o.3)
              | inr u ↦ (
                u.0,
                u.3,
                own_keeps es e.input u.0 o.0 made.1 (made_registry scheme c e es u.0 made u.1) (subst (λ z. newest (transitions_of es) z ≡ Some o.0) (sym u.2) o.1)
                    (subst (λ (z : TransactionId). same_code z.code c ≡ true) (sym u.2) o.3)
                    ∙ o.2,
                o.3,
              )
            ]
        | inr new ↦
            let g = In_flat_map (λ (q : Transition). q.messages) (message.proposal p) e.transitions new in
            let n = offer_move es e.input g.0 p (made_registry scheme c e es g.0 made g.1) g.2 in
            let u = newest_in e.transitions (transitions_of es) g.0 p.id g.1 n.0 in
            (u.0, u.3, ap (λ (z : Transition). z.content) (single_same e.transitions u.0 g.0 (made_single scheme c e es made) u.1 g.1) ∙ n.1, n.2)
      ]

  -- ---- what was said to be completed

  completed_move : (es : List Entry) (input : Input) (x : Transition) (n : NotificationMessage) → RegistryMove scheme c es input x → In (message.notification n) x.messages → notified_status n.notified ≡ Completed
      → (x.id ≡ n.id) × (x.new ≡ Completed) × (same_code n.id.code c ≡ true)
  completed_move es input x n (proposes o t none is fresh) (inl e) said = apart e refl
  completed_move es input x n (proposes o t none is fresh) (inr h) said = absurd h
  completed_move es input x n (arrives p moment found f s is none foreign mine) (inl e) said =
      let m = one_notified _ n e in
      absurd (arrived_open found (sym (arrived_notified_status found) ∙ ap (λ (z : NotificationMessage). notified_status z.notified) m ∙ said))
  completed_move es input x n (arrives p moment found f s is none foreign mine) (inr h) said = absurd h
  completed_move es input x n (asks t q was own stood) (inl e) said = apart e refl
  completed_move es input x n (asks t q was own stood) (inr h) said = absurd h
  completed_move es input x n (bares m moment f cancelled none foreign) h said = absurd h
  completed_move es input x n (concludes m moment q new f was mine move) h said =
      let g = concluded_completed c q.id new n h in
      (g.0, g.1, subst (λ (z : TransactionId). same_code z.code c ≡ true) (sym (newest_id (transitions_of es) m.id q was).1 ∙ g.0) mine)
  completed_move es input x n (finishes m moment q new f was foreign move none) h said = absurd h

  -- a Completed that was sent was recorded
  pub completed_sent : (es : List Entry) → Made scheme (Registry c) es → (n : NotificationMessage) → In (message.notification n) (sends es) → notified_status n.notified ≡ Completed
      → (x : Transition) × In x (transitions_of es) × (x.id ≡ n.id) × (x.new ≡ Completed) × (same_code n.id.code c ≡ true)
  completed_sent [] made n h said = absurd h
  completed_sent (e ∷ es) made n h said =
      elim (In_cases (message.notification n) (sends es) (messages_of e.transitions) h) [
        | inl old ↦ let p = completed_sent es made.1 n old said in (p.0, In_right p.0 e.transitions (transitions_of es) p.1, p.2, p.3, p.4)
        | inr new ↦
            let g = In_flat_map (λ (q : Transition). q.messages) (message.notification n) e.transitions new in
            let m = completed_move es e.input g.0 n (made_registry scheme c e es g.0 made g.1) g.2 said in
            (g.0, In_left g.0 e.transitions (transitions_of es) g.1, m.0, m.1, m.2)
      ]

-- ---- what an acquirer knows of a transfer: nothing but its end, or the content that the log offered

pub record Taken (c : Code) (es : List Entry) (t : TransactionId) (x : Transition) : Type 0 where
  pub content : Content
  pub is : x.content ≡ Some content
  pub got : Offered es Itl t proposal.Checked content
  pub here : content.acquirer ≡ c

abbrev pub RecordedStatus : Code → List Entry → TransactionId → Transition → Type 0
RecordedStatus c es t x = ((x.new ≡ Cancelled) × (x.content ≡ None)) ⊎ Taken c es t x

known_later : (c : Code) (e : Entry) (es : List Entry) (t : TransactionId) (x : Transition) → RecordedStatus c es t x → RecordedStatus c (e ∷ es) t x
known_later c e es t x (inl h) = inl h
known_later c e es t x (inr h) = inr (record { content = h.content; is = h.is; got = offered_later e es Itl t proposal.Checked h.content h.got; here = h.here })

module _ (scheme : Scheme) (c : Code) where
  known_move : (es : List Entry) (e : Entry) (t : TransactionId) (input : Input) (x : Transition) → e.input ≡ input → RegistryMove scheme c es input x → x.id ≡ t → same_code t.code c ≡ false
      → ((q : Transition) → newest (transitions_of es) t ≡ Some q → RecordedStatus c es t q) → RecordedStatus c (e ∷ es) t x
  known_move es e t input x i (proposes o u none is fresh) same foreign old =
      let own : same_code u.code c ≡ true = own_code scheme c (proposals es + 1) u is in
      clash (same_code t.code c) (subst (λ (z : TransactionId). same_code z.code c ≡ true) same own) foreign
  known_move es e t input x i (arrives p moment found f s is none foreign' mine) same foreign old =
      inr (record {
        content = p.content;
        is = refl;
        got = record { proposal = p; got = inl (moment, i); sender = f; about = same; status = s; content = refl };
        here = code_of_same p.content.acquirer c mine;
      })
  known_move es e t input x i (asks u q was own stood) same foreign old =
      let about : u ≡ t = sym (newest_id (transitions_of es) u q was).1 ∙ same in
      clash (same_code t.code c) (subst (λ (z : TransactionId). same_code z.code c ≡ true) about own) foreign
  known_move es e t input x i (bares n moment f cancelled none foreign') same foreign old = inl (refl, refl)
  known_move es e t input x i (concludes n moment q new f was own move) same foreign old =
      let about : n.id ≡ t = sym (newest_id (transitions_of es) n.id q was).1 ∙ same in
      clash (same_code t.code c) (subst (λ (z : TransactionId). same_code z.code c ≡ true) about own) foreign
  known_move es e t input x i (finishes n moment q new f was foreign' move none) same foreign old =
      let about : n.id ≡ t = sym (newest_id (transitions_of es) n.id q was).1 ∙ same in
      elim (old q (subst (λ z. newest (transitions_of es) z ≡ Some q) about was)) [
        | inl h ↦ let y : Accepted ≡ Cancelled = sym (acquirer_from q.new (notified_status n.notified) new move).0 ∙ h.0 in absurd (cc (y))
        | inr h ↦ inr (record { content = h.content; is = h.is; got = offered_later e es Itl t proposal.Checked h.content h.got; here = h.here })
      ]

  pub known : (es : List Entry) → Made scheme (Registry c) es → (t : TransactionId) (x : Transition) → newest (transitions_of es) t ≡ Some x → same_code t.code c ≡ false → RecordedStatus c es t x
  known [] made t x h foreign = absurd (cc (h))
  known (e ∷ es) made t x h foreign =
      elim (newest_append e.transitions (transitions_of es) t) [
        | inl u ↦ known_later c e es t x (known es made.1 t x (sym u ∙ h) foreign)
        | inr u ↦
            let j : u.0 ≡ x = one_some u.0 x (sym u.3 ∙ h) in
            known_move es e t e.input x refl (subst (λ z. RegistryMove scheme c es e.input z) j (made_registry scheme c e es u.0 made u.1)) (subst (λ (z : Transition). z.id ≡ t) j u.2) foreign
            (λ q was. known es made.1 t q was foreign)
      ]

-- ---- what the log knows of a transfer: its initiator proposed it, and completed it where it stands so

pub record Proposer (scheme : Scheme) (es : List Entry) (t : TransactionId) (x : Transition) : Type 0 where
  pub content : Content
  pub is : x.content ≡ Some content
  pub got : Offered es (Registry t.code) t proposal.Proposed content
  pub initiator_known : is_no_registry scheme (Registry t.code) ≡ false
  pub ended : x.new ≡ Completed → Heard es (Registry t.code) t Completed

-- or it knows it by a request alone
pub record Forestalled (es : List Entry) (t : TransactionId) (x : Transition) : Type 0 where
  pub new : x.new ≡ Cancelled
  pub content : x.content ≡ None
  pub request : RequestMessage
  pub got : Got es (message.request request)
  pub sender : request.from ≡ Registry t.code
  pub about : request.id ≡ t

forestalled_later : (e : Entry) (es : List Entry) (t : TransactionId) (x : Transition) → Forestalled es t x → Forestalled (e ∷ es) t x
forestalled_later e es t x b = record { new = b.new; content = b.content; request = b.request; got = inr b.got; sender = b.sender; about = b.about }

pub checked_open : (found : List ℕ) → checked_status found ≡ Completed → ⊥
checked_open [] h = cc (h)
checked_open (n ∷ ns) h = cc (h)

module _ (scheme : Scheme) where
  -- it moves on from a status that no request alone brings
  pub went_on : {X : Type 0} (a told new : Status) → log_row (Stands a) (Notified told) ≡ Move new → a ≡ Cancelled → X
  went_on a told new move c = elim (log_from a told new move) [
    | inl m ↦ let y : Checked ≡ Cancelled = sym m.0 ∙ c in absurd (cc (y))
    | inr m ↦ let y : Accepted ≡ Cancelled = sym m.0 ∙ c in absurd (cc (y))
  ]

  proposer_move : (es : List Entry) (e : Entry) (t : TransactionId) (input : Input) (x : Transition) → e.input ≡ input → LogMove scheme es input x → x.id ≡ t
      → ((q : Transition) → newest (transitions_of es) t ≡ Some q → Forestalled es t q ⊎ Proposer scheme es t q) → Forestalled (e ∷ es) t x ⊎ Proposer scheme (e ∷ es) t x
  proposer_move es e t input x i (forestalls r moment f member none) same old =
      inl (record { new = refl; content = refl; request = r; got = inl (moment, i); sender = f ∙ ap (λ (z : TransactionId). Registry z.code) same; about = same })
  proposer_move es e t input x i (checks p moment found f s is none member) same old =
      let from : p.from ≡ Registry t.code = f ∙ ap (λ (z : TransactionId). Registry z.code) same in
      inr (record {
        content = p.content;
        is = refl;
        got = record { proposal = p; got = inl (moment, i); sender = from; about = same; status = s; content = refl };
        initiator_known = subst (λ (z : Node). is_no_registry scheme z ≡ false) from member;
        ended = λ h. absurd (checked_open found h);
      })
  proposer_move es e t input x i (passes n moment q held new was kept member right move) same old =
      let about : n.id ≡ t = sym (newest_id (transitions_of es) n.id q was).1 ∙ same in
      elim (old q (subst (λ z. newest (transitions_of es) z ≡ Some q) about was)) [
        | inl b ↦ went_on q.new (notified_status n.notified) new move b.new
        | inr p ↦ inr (record {
          content = p.content;
          is = p.is;
          got = offered_later e es (Registry t.code) t proposal.Proposed p.content p.got;
          initiator_known = p.initiator_known;
          ended = λ h. elim (log_from q.new (notified_status n.notified) new move) [
            | inl m ↦
                elim m.2 [
                  | inl a ↦ let y : Accepted ≡ Completed = sym a ∙ sym m.1 ∙ h in absurd (cc (y))
                  | inr a ↦ let y : Rejected ≡ Completed = sym a ∙ sym m.1 ∙ h in absurd (cc (y))
                ]
            | inr m ↦
                let w : is_from_another n.from n.id q.content Completed ≡ false = subst (λ s. is_from_another n.from n.id q.content s ≡ false) m.2 right in
                let who = node_of_same n.from (Registry n.id.code) (not-false (same_node n.from (Registry n.id.code)) w) in
                record { notification = n; got = inl (moment, i); sender = who ∙ ap (λ (z : TransactionId). Registry z.code) about; about = about; told = m.2 }
          ];
        })
      ]
  proposer_move es e t input x i (cancels given moment u q held why was kept checked) same old =
      let about : u ≡ t = sym (newest_id (transitions_of es) u q was).1 ∙ same in
      elim (old q (subst (λ z. newest (transitions_of es) z ≡ Some q) about was)) [
        | inl b ↦ let y : Checked ≡ Cancelled = sym checked ∙ b.new in absurd (cc (y))
        | inr p ↦ inr (record {
          content = p.content;
          is = p.is;
          got = offered_later e es (Registry t.code) t proposal.Proposed p.content p.got;
          initiator_known = p.initiator_known;
          ended = λ h. let y : Cancelled ≡ Completed = h in absurd (cc (y));
        })
      ]

  pub proposer_or_none : (es : List Entry) → Made scheme Itl es → (t : TransactionId) (x : Transition) → newest (transitions_of es) t ≡ Some x → Forestalled es t x ⊎ Proposer scheme es t x
  proposer_or_none [] made t x h = absurd (cc (h))
  proposer_or_none (e ∷ es) made t x h =
      elim (newest_append e.transitions (transitions_of es) t) [
        | inl u ↦
            elim (proposer_or_none es made.1 t x (sym u ∙ h)) [
              | inl b ↦ inl (forestalled_later e es t x b)
              | inr p ↦ inr (record {
                content = p.content;
                is = p.is;
                got = offered_later e es (Registry t.code) t proposal.Proposed p.content p.got;
                initiator_known = p.initiator_known;
                ended = λ d. heard_later e es (Registry t.code) t Completed (p.ended d);
              })
            ]
        | inr u ↦
            let j : u.0 ≡ x = one_some u.0 x (sym u.3 ∙ h) in
            proposer_move es e t e.input x refl (subst (λ z. LogMove scheme es e.input z) j (made_log scheme e es u.0 made u.1)) (subst (λ (z : Transition). z.id ≡ t) j u.2)
            (λ q was. proposer_or_none es made.1 t q was)
      ]

  pub proposer_unless : (es : List Entry) → Made scheme Itl es → (t : TransactionId) (x : Transition) → newest (transitions_of es) t ≡ Some x → (Forestalled es t x → ⊥) → Proposer scheme es t x
  proposer_unless es made t x h other =
      elim (proposer_or_none es made t x h) [
        | inl b ↦ absurd (other b)
        | inr p ↦ p
      ]

  -- it stands at a status that no request alone brings
  pub proposer : (es : List Entry) → Made scheme Itl es → (t : TransactionId) (x : Transition) → newest (transitions_of es) t ≡ Some x → (x.new ≡ Cancelled → ⊥) → Proposer scheme es t x
  proposer es made t x h other = proposer_unless es made t x h (λ b. other b.new)

  -- it has a content
  pub proposer_of : (es : List Entry) → Made scheme Itl es → (t : TransactionId) (x : Transition) (k : Content) → newest (transitions_of es) t ≡ Some x → x.content ≡ Some k → Proposer scheme es t x
  proposer_of es made t x k h content = proposer_unless es made t x h (λ b. let e = sym content ∙ b.content in cc (e))
