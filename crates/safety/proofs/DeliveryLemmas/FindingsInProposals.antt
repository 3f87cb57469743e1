-- The log finds nothing in a proposal that was sent, but that a registry is not eligible. As long as the log does not
-- know the proposal, its initiator has had no answer, and so the transfer still waits there and its units are held.
-- Each of the other six findings is then refuted: the acquirer is a registry of the scheme, the units are allotted,
-- they are the initiator's in the log's book (`AccountedUnits`), each is there once and of its kind (`KindsOfOffers`),
-- and none is under way. A unit that is under way by another transfer would have a second owner, or wait twice at one
-- registry.
use Rattle.units.specs.Unit.{have_unit}
use Rattle.std.proofs.Common.{◌≡◌, ℕ, ◌+◌, List, [], ◌∷◌, Bool, true, false, not, Option, Some, None, ◌⊎◌, inl, inr, refl, sym, ap, subst, ◌∙◌, arith}
use Rattle.std.specs.Prelude.{◌&&◌, ◌||◌, is_some, is_none, filter}
use Rattle.std.specs.List.{list_any, count_by}
use Rattle.std.proofs.lemmas.Bool.{cases_Bool, and_parts, or_cases, or_from, not_from_true, eq-eqb}
use Rattle.units.proofs.Same.{code_of_same, same_code-refl}
use Rattle.units.specs.Code.{same_code}
use Rattle.units.specs.RefusalCodes.{wrong_acquirer, unit_repeated, unit_not_allotted, other_owner, other_transfer, other_kind, initiator_not_eligible, acquirer_not_eligible}
use Rattle.units.specs.declared.block.Unit.{Unit as Serial}
use Rattle.units.specs.declared.code.Code.{Code}
use Rattle.units.specs.declared.code.Node.{Node}
use Rattle.units.specs.declared.code.Node.TheVariants.{Itl, Registry}
use Rattle.status.specs.Content.{Content}
use Rattle.status.specs.declared.id.TransactionId.{TransactionId}
use Rattle.status.specs.declared.status.Status.{Status}
use Rattle.status.specs.declared.status.Status.TheVariants.{Proposed, Checked, Accepted, Rejected, Terminated, Cancelled, Completed}
use Rattle.protocol.proofs.MessageForms as message
use Rattle.protocol.proofs.MessageForms.{ProposalMessage}
use Rattle.scheme.specs.declared.members.Holder.{Holder}
use Rattle.scheme.specs.declared.registries.Scheme.{Scheme}
use Rattle.protocol.specs.AtLog.{ledger}
use Rattle.protocol.specs.Checks.{Causes, codes_of, is_owner, is_of_another, log_findings}
use Rattle.protocol.specs.Claims.{at_registry, is_received}
use Rattle.protocol.specs.History.{Transition, Entry, transitions_of, newest, stands_at, sends, has_serial, carries, gives, credits, at_start, busy}
use Rattle.protocol.specs.Owner.{At, Owns}
use Rattle.protocol.specs.Pieces.{Piece, pieces}
use Rattle.protocol.specs.Registries.{allotted, has_member}
use Rattle.safety.proofs.AgreementOfNodes.InitiatorRecords.{Begun, begun, log_one_content}
use Rattle.safety.proofs.OwnersOfUnits.AccountedUnits.{holder_is_owner}
use Rattle.safety.proofs.AgreementOfNodes.CausalHistories.{Causal, log_said}
use Rattle.safety.proofs.AgreementOfNodes.CompletionsAgree.{stood, log_completed}
use Rattle.units.proofs.Lists.SomePass.{list_any_not}
use Rattle.safety.proofs.OneRegistry.TransactionEnds.{offered, own_contents}
use Rattle.safety.proofs.OneLog.LogSendings.{is_of_other_kind}
use Rattle.safety.proofs.MovesAndHistories.NewestTransitions.{newest_id}
use Rattle.safety.proofs.DeliveryLemmas.KindsOfOffers.{sound_offer}
use Rattle.safety.proofs.OneRegistry.UnitsCountedOnce.{Waits, local_history}
use Rattle.safety.proofs.OneLog.OwnersInLog.{IsBusy}
use Rattle.units.proofs.Lists.Membership.{In, In_map, In_filter}
use Rattle.units.proofs.Lists.OneValue.{one_some, clash}
use Rattle.scheme.proofs.Told.{other_from_test}
use Rattle.safety.proofs.ListLemmas.TestsOfSameness.{other_code}
use Rattle.safety.proofs.OwnersOfUnits.UnitsWithOneOwner.{held_or_owed, one_owner, causal_one_owner}
use Rattle.safety.proofs.OneRegistry.InitiatorStatuses.{IsOwnStatus, own_statuses}
use Rattle.safety.proofs.MovesAndHistories.TableRows.{word_to}
use Rattle.safety.proofs.OneRegistry.RegistryHearings.{told_own}
use Rattle.protocol.proofs.UnitsOfBlocks.{covered}
use Rattle.safety.proofs.WorldLemmas.NodesWithStation.{Unplaced}
use Rattle.safety.proofs.DeliveryLemmas.WelcomeAtRegistry.{registry_known}

-- ---- codes and their causes

-- the cause of a code that is found stands
code_cause : (cs : Causes) (n : ℕ) → In n (codes_of cs) → (c : Bool × ℕ) × In c cs × (c.0 ≡ true) × (c.1 ≡ n)
code_cause [] n h = absurd h
code_cause (c ∷ cs) n h =
    let g = In_map (λ (d : Bool × ℕ). d.1) n (filter (λ (d : Bool × ℕ). d.0) (c ∷ cs)) h in
    let i = In_filter (λ (d : Bool × ℕ). d.0) (c ∷ cs) g.0 g.1 in
    (g.0, i.0, i.1, g.2)

not_this : {X : Type 0} (b : Bool) (n : ℕ) (c : Bool × ℕ) → (b, n) ≡ c → b ≡ false → c.0 ≡ true → X
not_this b n c e none stands = clash b (ap (λ (z : Bool × ℕ). z.0) e ∙ stands) none

-- what the log looks for, by whether each stands
abbrev causes_of : Bool → Bool → Bool → Bool → Bool → Bool → Bool → Bool → List (Bool × ℕ)
causes_of a b c d e g x y =
    (a, wrong_acquirer) ∷ (b, unit_repeated) ∷ (c, unit_not_allotted) ∷ (d, other_owner) ∷ (e, other_transfer) ∷ (g, other_kind) ∷ (x, initiator_not_eligible)
    ∷ (y, acquirer_not_eligible) ∷ []

-- one of the last two, where the causes of the first six don't stand
last_two : (a b c d e g x y : Bool) (n : ℕ) → a ≡ false → b ≡ false → c ≡ false → d ≡ false → e ≡ false → g ≡ false
    → In n (codes_of (causes_of a b c d e g x y)) → (n ≡ initiator_not_eligible) ⊎ (n ≡ acquirer_not_eligible)
last_two a b c d e g x y n no_a no_b no_c no_d no_e no_g i =
    let r = code_cause (causes_of a b c d e g x y) n i in
    pick r.0 r.1 r.2 r.3
  where
    pick : (z : Bool × ℕ) → In z (causes_of a b c d e g x y) → z.0 ≡ true → z.1 ≡ n → (n ≡ initiator_not_eligible) ⊎ (n ≡ acquirer_not_eligible)
    pick z (inl h) stands code = not_this a wrong_acquirer z h no_a stands
    pick z (inr (inl h)) stands code = not_this b unit_repeated z h no_b stands
    pick z (inr (inr (inl h))) stands code = not_this c unit_not_allotted z h no_c stands
    pick z (inr (inr (inr (inl h)))) stands code = not_this d other_owner z h no_d stands
    pick z (inr (inr (inr (inr (inl h))))) stands code = not_this e other_transfer z h no_e stands
    pick z (inr (inr (inr (inr (inr (inl h)))))) stands code = not_this g other_kind z h no_g stands
    pick z (inr (inr (inr (inr (inr (inr (inl h))))))) stands code = inl (sym code ∙ sym (ap (λ (v : Bool × ℕ). v.1) h))
    pick z (inr (inr (inr (inr (inr (inr (inr (inl h)))))))) stands code = inr (sym code ∙ sym (ap (λ (v : Bool × ℕ). v.1) h))
    pick z (inr (inr (inr (inr (inr (inr (inr (inr h)))))))) stands code = absurd h

-- ---- small cases

at_code : (c d : Code) → At c ≡ At d → c ≡ d
at_code c d e = cc (e)

none_some : {X : Type 0} (o : Option X) → is_none o ≡ true → is_some o ≡ false
none_some None e = refl
none_some (Some x) e = absurd (cc (e))

of_initiator : (a : Option Holder) (o : Option Code) (c : Code) → is_owner o c ≡ true → is_of_another a o c ≡ false
of_initiator None o c h = refl
of_initiator (Some a) o c h = not_from_true (is_owner o c) h

-- a transfer under way at the log, with the notification that its initiator received, leaves Completed there
busy_completed : (now log : Status) → IsOwnStatus now → IsBusy log → (log ≡ word_to now) ⊎ ((word_to now ≡ Accepted) × (log ≡ Completed)) → now ≡ Completed
busy_completed Completed log own under h = refl
busy_completed Checked log own under h = absurd own
busy_completed Accepted log own under h = absurd own
busy_completed Proposed log own under (inl e) = absurd (subst IsBusy e under)
busy_completed Rejected log own under (inl e) = absurd (subst IsBusy e under)
busy_completed Terminated log own under (inl e) = absurd (subst IsBusy e under)
busy_completed Cancelled log own under (inl e) = absurd (subst IsBusy e under)
busy_completed Proposed log own under (inr e) = absurd (subst IsBusy e.1 under)
busy_completed Rejected log own under (inr e) = absurd (subst IsBusy e.1 under)
busy_completed Terminated log own under (inr e) = absurd (subst IsBusy e.1 under)
busy_completed Cancelled log own under (inr e) = absurd (subst IsBusy e.1 under)

module _ (scheme : Scheme) (f : Node → List Entry) (causal : Causal scheme f) (unplaced : Unplaced scheme f) where
  -- a registry at which a transfer of the unit waits owns it
  waits_owns : (c : Code) (s : Serial) (t : TransactionId) → Waits c s (at_registry f c) t → Owns scheme f s (At c)
  waits_owns c s t w =
      let l = local_history scheme c s (f (Registry c)) (causal.made (Registry c)) in
      let k = l.kept t w in
      let h = l.high in (
        registry_known scheme f unplaced c t w.last w.is,
        eq-eqb (at_start scheme c s + count_by (credits c s) (at_registry f c)) (count_by (gives c s) (at_registry f c) + 1) (omega arith),
      )

  -- a proposal that was sent and that the log doesn't know waits
  still_waits : (c : Code) (p : ProposalMessage) → In (message.proposal p) (sends (f (Registry c))) → newest (transitions_of (f Itl)) p.id ≡ None → (s : Serial) → have_unit p.content.units s ≡ true → Waits c s (at_registry f c) p.id
  still_waits c p h none s has =
      let o = offered scheme c (f (Registry c)) (causal.made (Registry c)) p h in
      record {
        last = o.0;
        is = o.1;
        new = elim (told_own scheme c (f (Registry c)) (causal.made (Registry c)) p.id o.0 o.1 o.3) [
          | inl e ↦ e
          | inr g ↦ let l = log_said scheme f causal refl (Registry c) p.id (word_to o.0.new) g in let e = sym none ∙ l.1 in absurd (cc (e))
        ];
        own = o.3;
        has = subst (λ z. has_serial z s ≡ true) (sym o.2) has;
      }

  -- what the log has under way its acquirer has not completed
  not_received : (u : TransactionId) (x : Transition) → newest (transitions_of (f Itl)) u ≡ Some x → IsBusy x.new → (b : Begun f u x) → is_received f u b.last.content ≡ false
  not_received u x last under b =
      elim (cases_Bool (is_received f u b.last.content)) [
        | inl y ↦
            let a = b.content.acquirer in
            let q = stood (newest (at_registry f a) u) Completed (subst (λ k. is_received f u k ≡ true) b.there y) in
            let id = newest_id (at_registry f a) u q.0 q.1 in
            let foreign : same_code q.0.id.code a ≡ false =
            subst (λ (z : TransactionId). same_code z.code a ≡ false) (sym id.1) (other_code u.code a (λ e. other_from_test a u.code b.acquirer_other (sym e))) in
            let k = log_completed scheme f causal refl a q.0 id.0 q.2 foreign in
            let same : k.0 ≡ x = one_some k.0 x (sym (subst (λ z. newest (transitions_of (f Itl)) z ≡ Some k.0) id.1 k.1) ∙ last) in
            absurd (subst IsBusy (ap (λ (z : Transition). z.new) (sym same) ∙ k.2) under)
        | inr n ↦ n
      ]

  -- nothing that the log has under way has a unit that waits elsewhere
  not_busy : (c : Code) (t : TransactionId) (s : Serial) → newest (transitions_of (f Itl)) t ≡ None → Waits c s (at_registry f c) t
      → (u : TransactionId) (x : Transition) → newest (transitions_of (f Itl)) u ≡ Some x → IsBusy x.new → has_serial x.content s ≡ true → ⊥
  not_busy c t s none w u x last under has =
      let b = begun scheme f causal u x refl last (λ z. subst IsBusy z.new under) in
      let d = u.code in
      let es = f (Registry d) in
      let has_there : carries b.last s ≡ true = subst (λ z. has_serial z s ≡ true) (b.known ∙ sym b.there) has in
      elim (told_own scheme d es (causal.made (Registry d)) u b.last b.is (same_code-refl d)) [
        | inl e ↦
            let v : Waits d s (at_registry f d) u = record { last = b.last; is = b.is; new = e; own = same_code-refl d; has = has_there } in
            let same : c ≡ d = at_code c d (one_owner scheme f causal s (At c) (At d) (waits_owns c s t w) (waits_owns d s u v)) in
            let one : t ≡ u = (local_history scheme c s (f (Registry c)) (causal.made (Registry c))).one t u w (subst (λ z. Waits z s (at_registry f z) u) (sym same) v) in
            let e = sym none ∙ ap (newest (transitions_of (f Itl))) one ∙ last in
            cc (e)
        | inr g ↦
            let l = log_said scheme f causal refl (Registry d) u (word_to b.last.new) g in
            let same : l.0 ≡ x = one_some l.0 x (sym l.1 ∙ last) in
            let said = subst (λ (z : Transition). (z.new ≡ word_to b.last.new) ⊎ ((word_to b.last.new ≡ Accepted) × (z.new ≡ Completed))) same l.2 in
            let done = busy_completed b.last.new x.new (own_statuses scheme d es (causal.made (Registry d)) b.last (newest_id (transitions_of es) u b.last b.is).0 b.own) under said in
            held_or_owed scheme f causal s c u (waits_owns c s t w) (record { last = b.last; is = b.is; new = done; has = has_there; waits = not_received u x last under b })
      ]

  free_at_log : (c : Code) (t : TransactionId) (s : Serial) → newest (transitions_of (f Itl)) t ≡ None → Waits c s (at_registry f c) t → busy (transitions_of (f Itl)) s ≡ false
  free_at_log c t s none w =
      let xs = transitions_of (f Itl) in
      list_any_not (λ (x : Transition). (stands_at xs x.id Checked || stands_at xs x.id Accepted) && carries x s) xs (λ x i h.
      let parts = and_parts (stands_at xs x.id Checked || stands_at xs x.id Accepted) (carries x s) h in
      let clashes = λ (y : Transition) (is : newest xs x.id ≡ Some y) (under : IsBusy y.new). not_busy c t s none w x.id y is under (subst (λ z. has_serial z s ≡ true) (log_one_content scheme (f Itl) (causal.made Itl) x y i is) parts.1) in
      elim (or_cases (stands_at xs x.id Checked) (stands_at xs x.id Accepted) parts.0) [
        | inl a ↦ let q = stood (newest xs x.id) Checked a in clashes q.0 q.1 (subst IsBusy (sym q.2) tt)
        | inr a ↦ let q = stood (newest xs x.id) Accepted a in clashes q.0 q.1 (subst IsBusy (sym q.2) tt)
      ])

  -- what the log finds in a proposal that was sent and that it doesn't know
  pub only_eligibility : (c : Code) (p : ProposalMessage) → In (message.proposal p) (sends (f (Registry c))) → newest (transitions_of (f Itl)) p.id ≡ None
      → (n : ℕ) → In n (log_findings scheme (ledger scheme (f Itl)) p.id.code p.content) → (n ≡ initiator_not_eligible) ⊎ (n ≡ acquirer_not_eligible)
  only_eligibility c p h none n i =
      let k = p.content in
      let log = transitions_of (f Itl) in
      let known = ledger scheme (f Itl) in
      let o = offered scheme c (f (Registry c)) (causal.made (Registry c)) p h in
      let id = newest_id (at_registry f c) p.id o.0 o.1 in
      let code : p.id.code ≡ c = code_of_same p.id.code c o.3 in
      let own = own_contents scheme c (f (Registry c)) (causal.made (Registry c)) o.0 id.0 (subst (λ (z : TransactionId). same_code z.code c ≡ true) (sym id.1) o.3) in
      let same : own.content ≡ k = one_some own.content k (sym own.is ∙ o.2) in
      let offer = sound_offer scheme f causal c p h in
      let waits = λ (q : Piece) (j : In q (pieces k.units)). still_waits c p h none q.unit (covered k.units q j) in
      let owns = λ (q : Piece) (j : In q (pieces k.units)). waits_owns c q.unit p.id (waits q j) in
      let acquirer : (not (has_member scheme k.acquirer) || same_code k.acquirer p.id.code) ≡ false =
      subst (λ (z : Content). (not (has_member scheme z.acquirer) || same_code z.acquirer p.id.code) ≡ false) same
      (or_from (not (has_member scheme own.content.acquirer)) (same_code own.content.acquirer p.id.code) (not_from_true (has_member scheme own.content.acquirer) own.acquirer_known)
      (subst (λ z. same_code own.content.acquirer z ≡ false) (sym code) own.acquirer_other)) in
      let in_scheme = list_any_not (λ (q : Piece). is_none (allotted scheme q.unit)) (pieces k.units) (λ q j e.
      (causal_one_owner scheme f causal).none q.unit (At c) (none_some (allotted scheme q.unit) e) (owns q j)) in
      let owned = list_any_not (λ (q : Piece). is_of_another (allotted scheme q.unit) (known.owner q.unit) p.id.code) (pieces k.units) (λ q j e.
      let book = holder_is_owner scheme f causal refl c refl q.unit (owns q j).1 in
      let mine : is_owner (known.owner q.unit) p.id.code ≡ true = subst (λ w. is_owner w p.id.code ≡ true) (sym book) (subst (λ z. same_code c z ≡ true) (sym code) (same_code-refl c)) in
      clash (is_of_another (allotted scheme q.unit) (known.owner q.unit) p.id.code) e (of_initiator (allotted scheme q.unit) (known.owner q.unit) p.id.code mine)) in
      let free = list_any_not (λ (q : Piece). known.is_busy q.unit) (pieces k.units) (λ q j e. clash (known.is_busy q.unit) e (free_at_log c p.id q.unit none (waits q j))) in
      let kinds = list_any_not (is_of_other_kind scheme) (pieces k.units) (λ q j e. clash (is_of_other_kind scheme q) e (offer.kinds q j)) in
      last_two (not (has_member scheme k.acquirer) || same_code k.acquirer p.id.code) _ (list_any (λ (q : Piece). is_none (allotted scheme q.unit)) (pieces k.units))
      (list_any (λ (q : Piece). is_of_another (allotted scheme q.unit) (known.owner q.unit) p.id.code) (pieces k.units)) (list_any (λ (q : Piece). known.is_busy q.unit) (pieces k.units))
      (list_any (is_of_other_kind scheme) (pieces k.units)) (not (known.is_eligible p.id.code)) (has_member scheme k.acquirer && not (known.is_eligible k.acquirer)) n acquirer offer.apart in_scheme owned free kinds i
