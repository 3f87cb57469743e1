-- What a registry's history says of what it heard, and of the Accepted that it sent. By induction over the
-- transitions, the status at which a transfer stands names its cause: the notification from the log that brought
-- it there (`told`, `told_own`), or the registry's own proposal. The causes are kept when the history gets longer.
-- A registry that sent Accepted took part as acquirer, and no later transition of that transfer is Rejected
-- (`accepted_sent`).
use Rattle.std.proofs.Common.{◌≡◌, ℕ, ◌+◌, List, [], ◌∷◌, true, false, Option, Some, None, ◌⊎◌, inl, inr, refl, sym, ap, subst, ◌∙◌}
use Rattle.units.proofs.Same.{code_of_same, same_code-refl}
use Rattle.units.specs.Code.{same_code}
use Rattle.units.specs.declared.code.Code.{Code}
use Rattle.units.specs.declared.code.Node.TheVariants.{Itl, Registry}
use Rattle.status.specs.Content.{Content}
use Rattle.status.specs.declared.id.TransactionId.{TransactionId}
use Rattle.status.specs.declared.moment.Moment.{Moment}
use Rattle.status.specs.declared.status.Status.{Status}
use Rattle.status.specs.declared.status.Status.TheVariants.{Proposed, Checked, Accepted, Rejected, Terminated, Cancelled, Completed}
use Rattle.status.proofs.Ids.{id_at-code}
use Rattle.wire.specs.NotifiedStatuses.{notified_status}
use Rattle.wire.specs.declared.input.Input.{Input}
use Rattle.wire.specs.declared.input.Input.TheVariants.{Received}
use Rattle.protocol.proofs.MessageForms as message
use Rattle.protocol.proofs.MessageForms.{ProposalMessage, NotificationMessage, one_notified, apart, received, one_proposal}
use Rattle.wire.specs.declared.message.ProposalStatus.TheVariants as proposal
use Rattle.scheme.specs.declared.registries.Scheme.{Scheme}
use Rattle.protocol.specs.AtRegistry.{holding}
use Rattle.protocol.specs.Checks.{acquirer_findings}
use Rattle.protocol.specs.History.{Transition, Entry, transitions_of, newest, sends, messages_of, proposals}
use Rattle.safety.proofs.MovesAndHistories.TransitionForms.{arrived_status, arrived_notified, concluded_messages}
use Rattle.safety.proofs.MovesAndHistories.NewestTransitions.{Made, Heard, Offered, heard_later, offered_later, made_registry, newest_id, newest_append, newest_in}
use Rattle.units.proofs.Lists.Membership.{In, In_cases, In_flat_map}
use Rattle.units.proofs.Lists.OneValue.{clash}
use Rattle.safety.proofs.MovesAndHistories.TableMoves.{RegistryMove, proposes, asks, arrives, bares, concludes, finishes}
use Rattle.safety.proofs.MovesAndHistories.TableRows.{word_to, initiator_from, acquirer_from}

-- the notification that an acquirer received when it moved to this status
abbrev pub Cause : Code → List Entry → TransactionId → Status → Type 0
Cause c es t Completed = Heard es Itl t Completed
Cause c es t Cancelled = Heard es Itl t Cancelled
Cause c es t Accepted = (k : Content) × Offered es Itl t proposal.Checked k × (k.acquirer ≡ c)
Cause c es t Rejected = (k : Content) × Offered es Itl t proposal.Checked k × (k.acquirer ≡ c)
Cause c es t _ = ⊥

cause_later : (c : Code) (e : Entry) (es : List Entry) (t : TransactionId) (s : Status) → Cause c es t s → Cause c (e ∷ es) t s
cause_later c e es t Completed h = heard_later e es Itl t Completed h
cause_later c e es t Cancelled h = heard_later e es Itl t Cancelled h
cause_later c e es t Accepted h = (h.0, offered_later e es Itl t proposal.Checked h.0 h.1, h.2)
cause_later c e es t Rejected h = (h.0, offered_later e es Itl t proposal.Checked h.0 h.1, h.2)
cause_later c e es t Proposed h = absurd h
cause_later c e es t Checked h = absurd h
cause_later c e es t Terminated h = absurd h

-- the notification that the initiator received, unless it has just proposed the transfer
abbrev pub OwnCause : List Entry → TransactionId → Status → Type 0
OwnCause es t s = (s ≡ Proposed) ⊎ Heard es Itl t (word_to s)

-- what an acquirer that accepted may stand at
abbrev pub IsTaken : Option Transition → Type 0
IsTaken None = ⊥
IsTaken (Some x) = (x.new ≡ Accepted) ⊎ ((x.new ≡ Completed) ⊎ (x.new ≡ Cancelled))

pub concluded_notified : (c : Code) (u : TransactionId) (new : Status) (n : NotificationMessage) → In (message.notification n) (concluded_messages c u new) → notified_status n.notified ≡ Completed
concluded_notified c u Completed n (inl e) = let s = one_notified _ n e in sym (ap (λ (z : NotificationMessage). notified_status z.notified) s)
concluded_notified c u Completed n (inr h) = absurd h
concluded_notified c u Proposed n h = absurd h
concluded_notified c u Checked n h = absurd h
concluded_notified c u Accepted n h = absurd h
concluded_notified c u Rejected n h = absurd h
concluded_notified c u Terminated n h = absurd h
concluded_notified c u Cancelled n h = absurd h

pub arrived_notified_status : (found : List ℕ) → notified_status (arrived_notified found) ≡ arrived_status found
arrived_notified_status [] = refl
arrived_notified_status (n ∷ ns) = refl

module _ (scheme : Scheme) (c : Code) where
  own_and_foreign : {X : Type 0} (t u : TransactionId) → t ≡ u → same_code t.code c ≡ true → same_code u.code c ≡ false → X
  own_and_foreign t u e own foreign = clash (same_code t.code c) own (ap (λ (z : TransactionId). same_code z.code c) e ∙ foreign)

  told_own_move : (es : List Entry) (e : Entry) (t : TransactionId) (input : Input) (x : Transition) → e.input ≡ input → RegistryMove scheme c es input x → x.id ≡ t → same_code t.code c ≡ true → OwnCause (e ∷ es) t x.new
  told_own_move es e t input x i (proposes o u none is fresh) same own = inl refl
  told_own_move es e t input x i (asks u q old mine stood) same own = inl refl
  told_own_move es e t input x i (arrives p moment found f s is none foreign mine) same own = own_and_foreign t p.id (sym same) own foreign
  told_own_move es e t input x i (bares n moment f cancelled none foreign) same own = own_and_foreign t n.id (sym same) own foreign
  told_own_move es e t input x i (concludes n moment q new f old mine move) same own =
      let m = initiator_from q.new (notified_status n.notified) new move in
      let about : n.id ≡ t = sym (newest_id (transitions_of es) n.id q old).1 ∙ same in
      inr (record { notification = n; got = inl (moment, i); sender = f; about = about; told = sym m.1 })
  told_own_move es e t input x i (finishes n moment q new f old foreign move none) same own =
      let about : n.id ≡ t = sym (newest_id (transitions_of es) n.id q old).1 ∙ same in
      own_and_foreign t n.id (sym about) own foreign

  pub told_own : (es : List Entry) → Made scheme (Registry c) es → (t : TransactionId) (x : Transition) → newest (transitions_of es) t ≡ Some x → same_code t.code c ≡ true → OwnCause es t x.new
  told_own [] made t x h own = absurd (cc (h))
  told_own (e ∷ es) made t x h own =
      elim (newest_append e.transitions (transitions_of es) t) [
        | inl u ↦
            elim (told_own es made.1 t x (sym u ∙ h) own) [
              | inl p ↦ inl p
              | inr p ↦ inr (heard_later e es Itl t (word_to x.new) p)
            ]
        | inr u ↦
            let s = sym u.3 ∙ h in
            let j : u.0 ≡ x = cc (s) in
            told_own_move es e t e.input x refl (subst (λ z. RegistryMove scheme c es e.input z) j (made_registry scheme c e es u.0 made u.1)) (subst (λ (z : Transition). z.id ≡ t) j u.2) own
      ]

  told_move : (es : List Entry) (e : Entry) (t : TransactionId) (input : Input) (x : Transition) → e.input ≡ input → RegistryMove scheme c es input x → x.id ≡ t → same_code t.code c ≡ false → Cause c (e ∷ es) t x.new
  told_move es e t input x i (proposes o u none is fresh) same foreign =
      let code : u.code ≡ c = id_at-code c (proposals es + 1) u is in
      own_and_foreign u t same (subst (λ z. same_code z c ≡ true) (sym code) (same_code-refl c)) foreign
  told_move es e t input x i (arrives p moment found f s is none foreign' mine) same foreign =
      let offered : Offered (e ∷ es) Itl t proposal.Checked p.content = record { proposal = p; got = inl (moment, i); sender = f; about = same; status = s; content = refl } in
      arrived_cause found offered
    where
      arrived_cause : (g : List ℕ) → Offered (e ∷ es) Itl t proposal.Checked p.content → Cause c (e ∷ es) t (arrived_status g)
      arrived_cause [] offered = (p.content, offered, code_of_same p.content.acquirer c mine)
      arrived_cause (y ∷ ys) offered = (p.content, offered, code_of_same p.content.acquirer c mine)
  told_move es e t input x i (asks u q old own stood) same foreign = own_and_foreign u t (sym (newest_id (transitions_of es) u q old).1 ∙ same) own foreign
  told_move es e t input x i (bares n moment f cancelled none foreign') same foreign = record { notification = n; got = inl (moment, i); sender = f; about = same; told = cancelled }
  told_move es e t input x i (concludes n moment q new f old own move) same foreign =
      let about : n.id ≡ t = sym (newest_id (transitions_of es) n.id q old).1 ∙ same in
      own_and_foreign n.id t about own foreign
  told_move es e t input x i (finishes n moment q new f old foreign' move none) same foreign =
      let about : n.id ≡ t = sym (newest_id (transitions_of es) n.id q old).1 ∙ same in
      let m = acquirer_from q.new (notified_status n.notified) new move in
      elim m.2 [
        | inl a ↦ subst (λ s. Cause c (e ∷ es) t s) (sym (m.1 ∙ a)) (record { notification = n; got = inl (moment, i); sender = f; about = about; told = a })
        | inr a ↦ subst (λ s. Cause c (e ∷ es) t s) (sym (m.1 ∙ a)) (record { notification = n; got = inl (moment, i); sender = f; about = about; told = a })
      ]

  pub told : (es : List Entry) → Made scheme (Registry c) es → (t : TransactionId) (x : Transition) → newest (transitions_of es) t ≡ Some x → same_code t.code c ≡ false → Cause c es t x.new
  told [] made t x h foreign = absurd (cc (h))
  told (e ∷ es) made t x h foreign =
      elim (newest_append e.transitions (transitions_of es) t) [
        | inl u ↦ cause_later c e es t x.new (told es made.1 t x (sym u ∙ h) foreign)
        | inr u ↦
            let s = sym u.3 ∙ h in
            let j : u.0 ≡ x = cc (s) in
            told_move es e t e.input x refl (subst (λ z. RegistryMove scheme c es e.input z) j (made_registry scheme c e es u.0 made u.1)) (subst (λ (z : Transition). z.id ≡ t) j u.2) foreign
      ]

  -- ---- an Accepted that was sent: who sent it took part as acquirer, and has not rejected

  arrive_pair : (es : List Entry) (i : Input) (p : ProposalMessage) (moment : Moment) (x : Transition) → i ≡ Received (message.proposal p) moment → RegistryMove scheme c es i x
      → x.new ≡ arrived_status (acquirer_findings scheme c (holding scheme c es) p.content)
  arrive_pair es i p moment x e (proposes o u none is fresh) = absurd (cc (e))
  arrive_pair es i p moment x e (arrives p' moment' found f s is none foreign mine) =
      let a = one_proposal p' p (received e) in
      ap arrived_status (is ∙ ap (λ (z : ProposalMessage). acquirer_findings scheme c (holding scheme c es) z.content) a)
  arrive_pair es i p moment x e (asks u q old own stood) = absurd (cc (e))
  arrive_pair es i p moment x e (bares n moment' f was none foreign) = apart (received e) refl
  arrive_pair es i p moment x e (concludes n moment' q new f old own move) = apart (received e) refl
  arrive_pair es i p moment x e (finishes n moment' q new f old foreign move none) = apart (received e) refl

  accepted_move : (es : List Entry) (input : Input) (q : Transition) (n : NotificationMessage) → RegistryMove scheme c es input q → In (message.notification n) q.messages → notified_status n.notified ≡ Accepted
      → (q.id ≡ n.id) × (same_code n.id.code c ≡ false) × ((x : Transition) → RegistryMove scheme c es input x → x.id ≡ n.id → x.new ≡ Accepted)
  accepted_move es input q n (proposes o u none is fresh) (inl e) said = apart e refl
  accepted_move es input q n (proposes o u none is fresh) (inr h) said = absurd h
  accepted_move es input q n (arrives p moment found f s is none foreign mine) (inl e) said =
      let m = one_notified _ n e in
      let about = ap (λ (z : NotificationMessage). z.id) m in
      let accepted : arrived_status found ≡ Accepted = sym (arrived_notified_status found) ∙ ap (λ (z : NotificationMessage). notified_status z.notified) m ∙ said in (
        about,
        subst (λ (z : TransactionId). same_code z.code c ≡ false) about foreign,
        λ x move same. arrive_pair es (Received (message.proposal p) moment) p moment x refl move ∙ sym (ap arrived_status is) ∙ accepted,
      )
  accepted_move es input q n (arrives p moment found f s is none foreign mine) (inr h) said = absurd h
  accepted_move es input q n (asks u p old own stood) (inl e) said = apart e refl
  accepted_move es input q n (asks u p old own stood) (inr h) said = absurd h
  accepted_move es input q n (bares m moment f was none foreign) h said = absurd h
  accepted_move es input q n (concludes m moment p new f old own move) h said = let x : Completed ≡ Accepted = sym (concluded_notified c p.id new n h) ∙ said in absurd (cc (x))
  accepted_move es input q n (finishes m moment p new f old foreign move none) h said = absurd h

  taken_keeps : (es : List Entry) (input : Input) (x : Transition) → RegistryMove scheme c es input x → same_code x.id.code c ≡ false → IsTaken (newest (transitions_of es) x.id) → IsTaken (Some x)
  taken_keeps es input x (proposes o u none is fresh) foreign taken =
      let code : u.code ≡ c = id_at-code c (proposals es + 1) u is in
      own_and_foreign u u refl (subst (λ z. same_code z c ≡ true) (sym code) (same_code-refl c)) foreign
  taken_keeps es input x (arrives p moment found f s is none foreign' mine) foreign taken = absurd (subst IsTaken none taken)
  taken_keeps es input x (asks u q old own stood) foreign taken = own_and_foreign u q.id (sym (newest_id (transitions_of es) u q old).1) own foreign
  taken_keeps es input x (bares n moment f cancelled none foreign') foreign taken = absurd (subst IsTaken none taken)
  taken_keeps es input x (concludes n moment q new f old own move) foreign taken = own_and_foreign n.id q.id (sym (newest_id (transitions_of es) n.id q old).1) own foreign
  taken_keeps es input x (finishes n moment q new f old foreign' move none) foreign taken =
      let m = acquirer_from q.new (notified_status n.notified) new move in
      elim m.2 [
        | inl a ↦ inr (inl (m.1 ∙ a))
        | inr a ↦ inr (inr (m.1 ∙ a))
      ]

  pub accepted_sent : (es : List Entry) → Made scheme (Registry c) es → (n : NotificationMessage) → In (message.notification n) (sends es) → notified_status n.notified ≡ Accepted
      → (same_code n.id.code c ≡ false) × IsTaken (newest (transitions_of es) n.id)
  accepted_sent [] made n h said = absurd h
  accepted_sent (e ∷ es) made n h said =
      elim (In_cases (message.notification n) (sends es) (messages_of e.transitions) h) [
        | inl old ↦
            let p = accepted_sent es made.1 n old said in (
              p.0,
              elim (newest_append e.transitions (transitions_of es) n.id) [
                | inl u ↦ subst IsTaken (sym u) p.1
                | inr u ↦
                    subst IsTaken (sym u.3)
                    (taken_keeps es e.input u.0 (made_registry scheme c e es u.0 made u.1) (subst (λ (z : TransactionId). same_code z.code c ≡ false) (sym u.2) p.0)
                    (subst (λ z. IsTaken (newest (transitions_of es) z)) (sym u.2) p.1))
              ],
            )
        | inr new ↦
            let g = In_flat_map (λ (q : Transition). q.messages) (message.notification n) e.transitions new in
            let m = accepted_move es e.input g.0 n (made_registry scheme c e es g.0 made g.1) g.2 said in
            let u = newest_in e.transitions (transitions_of es) g.0 n.id g.1 m.0 in
            (m.1, subst IsTaken (sym u.3) (inl (m.2 u.0 (made_registry scheme c e es u.0 made u.1) u.2)))
      ]
