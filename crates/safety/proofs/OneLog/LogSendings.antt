-- What the log sends: which proposals it passes on, and to whom its notifications go. Each part goes through the
-- moves of `LogMove` and looks at the messages of the transition, and is then carried to the whole history. A
-- notification goes to the initiator, or to the acquirer of the content that the log knows, and a transfer that
-- was passed on is never Terminated. Nothing stands Proposed at the log.
use Rattle.std.proofs.Common.{◌≡◌, ℕ, List, [], ◌∷◌, Bool, false, not, Option, Some, ◌⊎◌, inl, inr, refl, sym, ap, subst, ◌∙◌}
use Rattle.std.specs.List.{list_any}
use Rattle.std.proofs.lemmas.Bool.{or_parts}
use Rattle.units.specs.Code.{same_code}
use Rattle.units.specs.declared.code.Node.TheVariants.{Itl, Registry}
use Rattle.status.specs.Content.{Content}
use Rattle.status.specs.declared.id.TransactionId.{TransactionId}
use Rattle.status.specs.declared.status.Status.{Status}
use Rattle.status.specs.declared.status.Status.TheVariants.{Proposed, Checked, Accepted, Rejected, Terminated, Cancelled, Completed}
use Rattle.wire.specs.NotifiedStatuses.{notified_status}
use Rattle.wire.specs.declared.input.Input.{Input}
use Rattle.protocol.proofs.MessageForms as message
use Rattle.protocol.proofs.MessageForms.{ProposalMessage, NotificationMessage, RequestMessage, one_notified, one_proposal, apart}
use Rattle.wire.specs.declared.message.ProposalStatus.TheVariants as proposal
use Rattle.scheme.specs.declared.registries.Scheme.{Scheme}
use Rattle.protocol.specs.AtLog.{ledger, is_from_another}
use Rattle.protocol.specs.Checks.{has_other_kind, log_causes, log_findings}
use Rattle.protocol.specs.History.{Transition, Entry, transitions_of, newest, sends, messages_of}
use Rattle.protocol.specs.Pieces.{Piece, pieces, repeats}
use Rattle.protocol.specs.Registries.{allotted, has_member}
use Rattle.safety.proofs.MovesAndHistories.TransitionForms.{checked_status, checked_message, told_to}
use Rattle.safety.proofs.MovesAndHistories.NewestTransitions.{Made, Heard, heard_later, made_log, newest_id, newest_append, newest_in}
use Rattle.safety.proofs.OneLog.LogInputs.{none_stand}
use Rattle.units.proofs.Lists.Membership.{In, In_cases, In_flat_map}
use Rattle.units.proofs.Lists.OneValue.{one_some}
use Rattle.safety.proofs.MovesAndHistories.TableMoves.{LogMove, checks, passes, cancels, forestalls}
use Rattle.safety.proofs.OneLog.LogHearings.{from_acquirer, log_pair, log_notified_move, log_keeps_content}
use Rattle.safety.proofs.MovesAndHistories.TableRows.{log_from}

-- a unit of another kind than it was allotted with
abbrev pub is_of_other_kind : Scheme → Piece → Bool
is_of_other_kind scheme p = has_other_kind (allotted scheme p.unit) p.kind

-- a proposal that the log found nothing wrong with
pub record Passed (scheme : Scheme) (p : ProposalMessage) : Type 0 where
  pub status : p.status ≡ proposal.Checked
  pub apart : repeats (pieces p.content.units) ≡ false
  pub acquirer_other : same_code p.content.acquirer p.id.code ≡ false
  pub kinds : list_any (is_of_other_kind scheme) (pieces p.content.units) ≡ false

-- a notification to the initiator
pub record ToInitiator (n : NotificationMessage) : Type 0 where
  pub said : notified_status n.notified ≡ Completed → ⊥
  pub to : n.to ≡ Registry n.id.code

-- a notification to the acquirer of the content
pub record ToAcquirer (n : NotificationMessage) (k : Option Content) : Type 0 where
  pub said : (notified_status n.notified ≡ Completed) ⊎ (notified_status n.notified ≡ Cancelled)
  pub content : Content
  pub known : k ≡ Some content
  pub to : n.to ≡ Registry content.acquirer

-- a notification to the acquirer of the content that the log knows
pub record ToKnown (es : List Entry) (n : NotificationMessage) : Type 0 where
  pub last : Transition
  pub is : newest (transitions_of es) n.id ≡ Some last
  pub goes : ToAcquirer n last.content

module _ (scheme : Scheme) where
  -- ---- proposals

  passed_move : (es : List Entry) (input : Input) (x : Transition) (p : ProposalMessage) → LogMove scheme es input x → In (message.proposal p) x.messages → Passed scheme p × (x.id ≡ p.id) × (x.new ≡ Checked)
  passed_move es input x p (checks q moment found f s is none member) h = offer found is h
    where
      offer : (g : List ℕ) → g ≡ log_findings scheme (ledger scheme es) q.id.code q.content → In (message.proposal p) (checked_message q.id q.content g ∷ [])
          → Passed scheme p × (q.id ≡ p.id) × (checked_status g ≡ Checked)
      offer [] is (inl e) =
          let s = one_proposal _ p e in
          let free = none_stand (log_causes scheme (ledger scheme es) q.id.code q.content) (sym is) in (
            subst (Passed scheme) s (record {
              status = refl;
              apart = free.1.0;
              acquirer_other = (or_parts (not (has_member scheme q.content.acquirer)) (same_code q.content.acquirer q.id.code) free.0).1;
              kinds = free.1.1.1.1.1.0;
            }),
            ap (λ (z : ProposalMessage). z.id) s,
            refl,
          )
      offer [] is (inr h) = absurd h
      offer (c ∷ cs) is (inl e) = apart e refl
      offer (c ∷ cs) is (inr h) = absurd h
  passed_move es input x p (passes n moment q held new old kept member right move) (inl e) = apart e refl
  passed_move es input x p (passes n moment q held new old kept member right move) (inr h) = absurd h
  passed_move es input x p (cancels given moment t q held why old kept was) (inl e) = apart e refl
  passed_move es input x p (cancels given moment t q held why old kept was) (inr (inl e)) = apart e refl
  passed_move es input x p (cancels given moment t q held why old kept was) (inr (inr h)) = absurd h
  passed_move es input x p (forestalls r moment f member none) (inl e) = apart e refl
  passed_move es input x p (forestalls r moment f member none) (inr h) = absurd h

  pub passed_on : (es : List Entry) → Made scheme Itl es → (p : ProposalMessage) → In (message.proposal p) (sends es) → Passed scheme p
  passed_on [] made p h = absurd h
  passed_on (e ∷ es) made p h =
      elim (In_cases (message.proposal p) (sends es) (messages_of e.transitions) h) [
        | inl old ↦ passed_on es made.1 p old
        | inr new ↦
            let g = In_flat_map (λ (q : Transition). q.messages) (message.proposal p) e.transitions new in
            (passed_move es e.input g.0 p (made_log scheme e es g.0 made g.1) g.2).0
      ]

  -- what the log knows it doesn't terminate
  pub never_terminates : (es : List Entry) (input : Input) (x q : Transition) → LogMove scheme es input x → newest (transitions_of es) x.id ≡ Some q → x.new ≡ Terminated → ⊥
  never_terminates es input x q (checks p moment found f s is none member) h e = let z = sym none ∙ h in cc (z)
  never_terminates es input x q (passes n moment p held new old kept member right move) h e =
      elim (log_from p.new (notified_status n.notified) new move) [
        | inl m ↦
            elim m.2 [
              | inl a ↦ let y : Accepted ≡ Terminated = sym a ∙ sym m.1 ∙ e in cc (y)
              | inr a ↦ let y : Rejected ≡ Terminated = sym a ∙ sym m.1 ∙ e in cc (y)
            ]
        | inr m ↦ let y : Completed ≡ Terminated = sym m.1 ∙ e in cc (y)
      ]
  never_terminates es input x q (forestalls r moment f member none) h e = let y : Cancelled ≡ Terminated = e in cc (y)
  never_terminates es input x q (cancels given moment t p held why old kept was) h e = let y : Cancelled ≡ Terminated = e in cc (y)

  -- a transfer that was passed on is not terminated
  pub passed_open : (es : List Entry) → Made scheme Itl es → (p : ProposalMessage) → In (message.proposal p) (sends es) → (x : Transition) × (newest (transitions_of es) p.id ≡ Some x) × (x.new ≡ Terminated → ⊥)
  passed_open [] made p h = absurd h
  passed_open (e ∷ es) made p h =
      elim (In_cases (message.proposal p) (sends es) (messages_of e.transitions) h) [
        | inl old ↦
            let o = passed_open es made.1 p old in
            elim (newest_append e.transitions (transitions_of es) p.id) [
              | inl u ↦ (o.0, u ∙ o.1, o.2)
              | inr u ↦ (u.0, u.3, never_terminates es e.input u.0 o.0 (made_log scheme e es u.0 made u.1) (subst (λ z. newest (transitions_of es) z ≡ Some o.0) (sym u.2) o.1))
            ]
        | inr new ↦
            let g = In_flat_map (λ (q : Transition). q.messages) (message.proposal p) e.transitions new in
            let move = made_log scheme e es g.0 made g.1 in
            let n = passed_move es e.input g.0 p move g.2 in
            let u = newest_in e.transitions (transitions_of es) g.0 p.id g.1 n.1 in
            let same = (log_pair scheme es e.input e.input u.0 g.0 refl (u.2 ∙ sym n.1) (made_log scheme e es u.0 made u.1) move).0 in
            (u.0, u.3, λ x. let y : Checked ≡ Terminated = sym n.2 ∙ sym same ∙ x in cc (y))
      ]

  -- ---- notifications

  passed_to : (q : Transition) (new : Status) (n : NotificationMessage) → q.id ≡ n.id → new ≡ notified_status n.notified → (k : Content) → told_to q.id k new ≡ n.to → q.content ≡ Some k → ToInitiator n ⊎ ToAcquirer n q.content
  passed_to q Completed n about said k to known = inr (record { said = inl (sym said); content = k; known = known; to = sym to })
  passed_to q Proposed n about said k to known = inl (record { said = λ e. let y : Proposed ≡ Completed = said ∙ e in cc (y); to = sym to ∙ ap (λ (z : TransactionId). Registry z.code) about })
  passed_to q Checked n about said k to known = inl (record { said = λ e. let y : Checked ≡ Completed = said ∙ e in cc (y); to = sym to ∙ ap (λ (z : TransactionId). Registry z.code) about })
  passed_to q Accepted n about said k to known = inl (record { said = λ e. let y : Accepted ≡ Completed = said ∙ e in cc (y); to = sym to ∙ ap (λ (z : TransactionId). Registry z.code) about })
  passed_to q Rejected n about said k to known = inl (record { said = λ e. let y : Rejected ≡ Completed = said ∙ e in cc (y); to = sym to ∙ ap (λ (z : TransactionId). Registry z.code) about })
  passed_to q Terminated n about said k to known = inl (record { said = λ e. let y : Terminated ≡ Completed = said ∙ e in cc (y); to = sym to ∙ ap (λ (z : TransactionId). Registry z.code) about })
  passed_to q Cancelled n about said k to known = inl (record { said = λ e. let y : Cancelled ≡ Completed = said ∙ e in cc (y); to = sym to ∙ ap (λ (z : TransactionId). Registry z.code) about })

  goes_move : (es : List Entry) (input : Input) (x : Transition) (n : NotificationMessage) → Made scheme Itl es → LogMove scheme es input x → In (message.notification n) x.messages → ToInitiator n ⊎ ToAcquirer n x.content
  goes_move es input x n made (checks p moment found f s is none member) h = inl (go found h)
    where
      go : (g : List ℕ) → In (message.notification n) (checked_message p.id p.content g ∷ []) → ToInitiator n
      go [] (inl e) = apart e refl
      go [] (inr h) = absurd h
      go (c ∷ cs) (inl e) = let s = one_notified _ n e in subst ToInitiator s (record { said = λ d. let y : Terminated ≡ Completed = d in cc (y); to = refl })
      go (c ∷ cs) (inr h) = absurd h
  goes_move es input x n made (passes m moment q held new old kept member right move) (inl e) =
      let s = one_notified _ n e in
      let g = log_notified_move scheme es input x n (passes m moment q held new old kept member right move) (inl e) in
      passed_to q new n g.0 g.1 held (ap (λ (z : NotificationMessage). z.to) s) kept
  goes_move es input x n made (passes m moment q held new old kept member right move) (inr h) = absurd h
  goes_move es input x n made (cancels given moment t q held why old kept was) (inl e) =
      let s = one_notified _ n e in inl (subst ToInitiator s (record { said = λ d. let y : Cancelled ≡ Completed = d in cc (y); to = refl }))
  goes_move es input x n made (cancels given moment t q held why old kept was) (inr (inl e)) =
      let s = one_notified _ n e in
      inr (subst (λ z. ToAcquirer z q.content) s (record { said = inr refl; content = held; known = kept; to = refl }))
  goes_move es input x n made (cancels given moment t q held why old kept was) (inr (inr h)) = absurd h
  goes_move es input x n made (forestalls r moment f member none) (inl e) =
      let s = one_notified _ n e in inl (subst ToInitiator s (record { said = λ d. let y : Cancelled ≡ Completed = d in cc (y); to = refl }))
  goes_move es input x n made (forestalls r moment f member none) (inr h) = absurd h

  -- to whom the log's notifications go
  pub goes : (es : List Entry) → Made scheme Itl es → (n : NotificationMessage) → In (message.notification n) (sends es) → ToInitiator n ⊎ ToKnown es n
  goes [] made n h = absurd h
  goes (e ∷ es) made n h =
      elim (In_cases (message.notification n) (sends es) (messages_of e.transitions) h) [
        | inl old ↦
            elim (goes es made.1 n old) [
              | inl i ↦ inl i
              | inr i ↦
                  elim (newest_append e.transitions (transitions_of es) n.id) [
                    | inl u ↦ inr (record { last = i.last; is = u ∙ i.is; goes = i.goes })
                    | inr u ↦
                        let k = log_keeps_content scheme es e.input u.0 i.last i.goes.content (made_log scheme e es u.0 made u.1) (subst (λ z. newest (transitions_of es) z ≡ Some i.last) (sym u.2) i.is) i.goes.known in
                        inr (record { last = u.0; is = u.3; goes = subst (ToAcquirer n) (i.goes.known ∙ sym k) i.goes })
                  ]
            ]
        | inr new ↦
            let g = In_flat_map (λ (q : Transition). q.messages) (message.notification n) e.transitions new in
            let move = made_log scheme e es g.0 made g.1 in
            let m = log_notified_move scheme es e.input g.0 n move g.2 in
            let u = newest_in e.transitions (transitions_of es) g.0 n.id g.1 m.0 in
            elim (goes_move es e.input g.0 n made.1 move g.2) [
              | inl i ↦ inl i
              | inr i ↦
                  inr (record {
                    last = u.0;
                    is = u.3;
                    goes = subst (ToAcquirer n) (sym (log_pair scheme es e.input e.input u.0 g.0 refl (u.2 ∙ sym m.0) (made_log scheme e es u.0 made u.1) move).1) i;
                  })
            ]
      ]

  -- ---- the log asks nobody for cancellation

  request_move : (es : List Entry) (input : Input) (x : Transition) (r : RequestMessage) → LogMove scheme es input x → In (message.request r) x.messages → ⊥
  request_move es input x r (checks p moment found f s is none member) h = go found h
    where
      go : (g : List ℕ) → In (message.request r) (checked_message p.id p.content g ∷ []) → ⊥
      go [] (inl e) = apart e refl
      go [] (inr i) = i
      go (c ∷ cs) (inl e) = apart e refl
      go (c ∷ cs) (inr i) = i
  request_move es input x r (passes n moment q held new old kept member right move) (inl e) = apart e refl
  request_move es input x r (passes n moment q held new old kept member right move) (inr h) = h
  request_move es input x r (cancels given moment t q held why old kept was) (inl e) = apart e refl
  request_move es input x r (cancels given moment t q held why old kept was) (inr (inl e)) = apart e refl
  request_move es input x r (cancels given moment t q held why old kept was) (inr (inr h)) = h
  request_move es input x r (forestalls q moment f member none) (inl e) = apart e refl
  request_move es input x r (forestalls q moment f member none) (inr h) = h

  pub no_request : (es : List Entry) → Made scheme Itl es → (r : RequestMessage) → In (message.request r) (sends es) → ⊥
  no_request [] made r h = h
  no_request (e ∷ es) made r h =
      elim (In_cases (message.request r) (sends es) (messages_of e.transitions) h) [
        | inl old ↦ no_request es made.1 r old
        | inr new ↦ let g = In_flat_map (λ (q : Transition). q.messages) (message.request r) e.transitions new in request_move es e.input g.0 r (made_log scheme e es g.0 made g.1) g.2
      ]

  -- ---- where the log stands Rejected, the acquirer of its content said so

  abbrev pub Refusal : List Entry → TransactionId → Transition → Type 0
  Refusal es t x = (k : Content) × (x.content ≡ Some k) × Heard es (Registry k.acquirer) t Rejected

  checked_rejects : (found : List ℕ) → checked_status found ≡ Rejected → ⊥
  checked_rejects [] h = cc (h)
  checked_rejects (c ∷ cs) h = cc (h)

  refusal_move : (es : List Entry) (e : Entry) (t : TransactionId) (input : Input) (x : Transition) → e.input ≡ input → LogMove scheme es input x → x.id ≡ t → x.new ≡ Rejected → Refusal (e ∷ es) t x
  refusal_move es e t input x i (checks p moment found f s is none member) same h = absurd (checked_rejects found h)
  refusal_move es e t input x i (passes n moment q held new old kept member right move) same h =
      let about : n.id ≡ t = sym (newest_id (transitions_of es) n.id q old).1 ∙ same in
      elim (log_from q.new (notified_status n.notified) new move) [
        | inl m ↦
            let said : notified_status n.notified ≡ Rejected = sym m.1 ∙ h in
            let f = from_acquirer scheme n.from q.content member (subst (λ s. is_from_another n.from n.id q.content s ≡ false) said right) in
            (f.0, f.1, record { notification = n; got = inl (moment, i); sender = f.2; about = about; told = said })
        | inr m ↦ absurd (let y : Completed ≡ Rejected = sym m.1 ∙ h in cc (y))
      ]
  refusal_move es e t input x i (forestalls r moment f member none) same h = absurd (let y : Cancelled ≡ Rejected = h in cc (y))
  refusal_move es e t input x i (cancels given moment u q held why old kept was) same h = absurd (let y : Cancelled ≡ Rejected = h in cc (y))

  pub refusal : (es : List Entry) → Made scheme Itl es → (t : TransactionId) (x : Transition) → newest (transitions_of es) t ≡ Some x → x.new ≡ Rejected → Refusal es t x
  refusal [] made t x h d = absurd (cc (h))
  refusal (e ∷ es) made t x h d =
      elim (newest_append e.transitions (transitions_of es) t) [
        | inl u ↦ let p = refusal es made.1 t x (sym u ∙ h) d in (p.0, p.1, heard_later e es (Registry p.0.acquirer) t Rejected p.2)
        | inr u ↦
            let j : u.0 ≡ x = one_some u.0 x (sym u.3 ∙ h) in
            refusal_move es e t e.input x refl (subst (λ z. LogMove scheme es e.input z) j (made_log scheme e es u.0 made u.1)) (subst (λ (z : Transition). z.id ≡ t) j u.2) d
      ]

  -- ---- nothing stands Proposed at the log

  checked_proposes : (found : List ℕ) → checked_status found ≡ Proposed → ⊥
  checked_proposes [] h = cc (h)
  checked_proposes (c ∷ cs) h = cc (h)

  proposes_move : (es : List Entry) (input : Input) (x : Transition) → LogMove scheme es input x → x.new ≡ Proposed → ⊥
  proposes_move es input x (checks p moment found f s is none member) h = checked_proposes found h
  proposes_move es input x (passes n moment q held new old kept member right move) h =
      elim (log_from q.new (notified_status n.notified) new move) [
        | inl m ↦
            elim m.2 [
              | inl a ↦ let y : Accepted ≡ Proposed = sym a ∙ sym m.1 ∙ h in cc (y)
              | inr a ↦ let y : Rejected ≡ Proposed = sym a ∙ sym m.1 ∙ h in cc (y)
            ]
        | inr m ↦ let y : Completed ≡ Proposed = sym m.1 ∙ h in cc (y)
      ]
  proposes_move es input x (forestalls r moment f member none) h = let y : Cancelled ≡ Proposed = h in cc (y)
  proposes_move es input x (cancels given moment t q held why old kept was) h = let y : Cancelled ≡ Proposed = h in cc (y)

  pub never_proposed : (es : List Entry) → Made scheme Itl es → (x : Transition) → In x (transitions_of es) → x.new ≡ Proposed → ⊥
  never_proposed [] made x i h = i
  never_proposed (e ∷ es) made x i h =
      elim (In_cases x e.transitions (transitions_of es) i) [
        | inl j ↦ proposes_move es e.input x (made_log scheme e es x made j) h
        | inr j ↦ never_proposed es made.1 x j h
      ]
