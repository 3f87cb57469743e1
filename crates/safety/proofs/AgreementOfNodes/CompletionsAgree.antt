-- The completions of a transfer at its two registries. An acquirer completes when the log notifies it, the log
-- completed then, and the log completes when the initiator notifies it (`log_completed`, `initiator_completed`). The
-- offers show in the same way that the content is the same at all three nodes (`transfer`). At one registry no
-- transaction is completed twice, and completions can be counted by transaction.
use Rattle.std.proofs.Common.{◌≡◌, List, ◌∷◌, Bool, true, false, not, cond, Option, Some, None, option_map, inl, inr, refl, sym, ap, subst, ◌∙◌}
use Rattle.std.specs.Prelude.{◌&&◌}
use Rattle.std.proofs.lemmas.Bool.{and_parts, and_from, not-true}
use Rattle.units.specs.Code.{same_code}
use Rattle.units.specs.declared.block.Unit.{Unit as Serial}
use Rattle.units.specs.declared.code.Code.{Code}
use Rattle.units.specs.declared.code.Node.{Node}
use Rattle.units.specs.declared.code.Node.TheVariants.{Itl, Registry}
use Rattle.status.specs.Content.{Content}
use Rattle.status.specs.Status.{same_status}
use Rattle.status.specs.declared.id.TransactionId.{TransactionId}
use Rattle.status.specs.declared.status.Status.{Status}
use Rattle.status.specs.declared.status.Status.TheVariants.{Cancelled, Completed}
use Rattle.wire.specs.declared.input.Input.{Input}
use Rattle.protocol.proofs.MessageForms as message
use Rattle.wire.specs.declared.message.ProposalStatus.{ProposalStatus}
use Rattle.wire.specs.declared.message.ProposalStatus.TheVariants as proposal
use Rattle.scheme.specs.declared.registries.Scheme.{Scheme}
use Rattle.protocol.specs.AtLog.{is_no_registry}
use Rattle.protocol.specs.Claims.{at_registry}
use Rattle.protocol.specs.History.{Transition, Entry, transitions_of, newest, stands, sends, is_status, carries, gives, credits}
use Rattle.safety.proofs.AgreementOfNodes.CausalHistories.{Causal, CausalAmong, heard_sent, offered_sent, log_said}
use Rattle.units.proofs.Lists.NoRepeats.{NoRepeat}
use Rattle.protocol.proofs.CountsInLists.{picked, In_picked}
use Rattle.safety.proofs.OneRegistry.TransactionEnds.{each_move, ends_last, ends_once, offered, completed_sent, known, proposer, proposer_of}
use Rattle.safety.proofs.MovesAndHistories.NewestTransitions.{Made, Offered}
use Rattle.units.proofs.Lists.Membership.{In}
use Rattle.units.proofs.Lists.OneValue.{one_some}
use Rattle.safety.proofs.ListLemmas.TestsOfSameness.{status_of_same}
use Rattle.safety.proofs.MovesAndHistories.TableMoves.{RegistryMove}
use Rattle.safety.proofs.OneLog.LogHearings.{log_offered}
use Rattle.safety.proofs.OneRegistry.RegistryHearings.{Cause, told}

-- ---- one transition

pub done_status : (x : Transition) → x.new ≡ Completed → same_status x.new Completed ≡ true
done_status x done = subst (λ z. same_status z Completed ≡ true) (sym done) refl

-- what a completion gives away, and what it takes in
pub given : (c : Code) (s : Serial) (x : Transition) → gives c s x ≡ true → (x.new ≡ Completed) × (same_code x.id.code c ≡ true) × (carries x s ≡ true)
given c s x h =
    let a = and_parts (same_status x.new Completed) (same_code x.id.code c && carries x s) h in
    let b = and_parts (same_code x.id.code c) (carries x s) a.1 in
    (status_of_same x.new Completed a.0, b.0, b.1)

pub credited : (c : Code) (s : Serial) (x : Transition) → credits c s x ≡ true → (x.new ≡ Completed) × (same_code x.id.code c ≡ false) × (carries x s ≡ true)
credited c s x h =
    let a = and_parts (same_status x.new Completed) (not (same_code x.id.code c) && carries x s) h in
    let b = and_parts (not (same_code x.id.code c)) (carries x s) a.1 in
    (status_of_same x.new Completed a.0, not-true (same_code x.id.code c) b.0, b.1)

pub is_given : (c : Code) (s : Serial) (x : Transition) → x.new ≡ Completed → same_code x.id.code c ≡ true → carries x s ≡ true → gives c s x ≡ true
is_given c s x done own has = and_from (same_status x.new Completed) (same_code x.id.code c && carries x s) (done_status x done) (and_from (same_code x.id.code c) (carries x s) own has)

pub is_credited : (c : Code) (s : Serial) (x : Transition) → x.new ≡ Completed → same_code x.id.code c ≡ false → carries x s ≡ true → credits c s x ≡ true
is_credited c s x done foreign has =
    and_from (same_status x.new Completed) (not (same_code x.id.code c) && carries x s) (done_status x done) (and_from (not (same_code x.id.code c)) (carries x s) (ap not foreign) has)

-- the transition by which a transaction stands so
pub stood : (o : Option Transition) (s : Status) → is_status (option_map (λ (x : Transition). x.new) o) s ≡ true → (x : Transition) × (o ≡ Some x) × (x.new ≡ s)
stood None s h = absurd (cc (h))
stood (Some x) s h = (x, refl, status_of_same x.new s h)

pub stands_so : (xs : List Transition) (t : TransactionId) (x : Transition) (s : Status) → newest xs t ≡ Some x → x.new ≡ s → stands xs t ≡ Some s
stands_so xs t x s h e = ap (option_map (λ (z : Transition). z.new)) h ∙ ap Some e

-- ---- one registry

-- no transaction is completed twice at one registry
pub completed_once : (scheme : Scheme) (c : Code) (p : Transition → Bool) → ((x : Transition) → p x ≡ true → x.new ≡ Completed) → (es : List Entry) → Made scheme (Registry c) es → NoRepeat (picked p (transitions_of es))
completed_once scheme c p done = each_move scheme c (λ xs. NoRepeat (picked p xs)) tt (λ es input x made move old. more es input x made move old (p x))
  where
    more : (es : List Entry) (input : Input) (x : Transition) → Made scheme (Registry c) es → RegistryMove scheme c es input x → NoRepeat (picked p (transitions_of es)) → (b : Bool)
        → NoRepeat (cond b (x.id ∷ picked p (transitions_of es)) (picked p (transitions_of es)))
    more es input x made move old true = (
      (λ h. let q = In_picked p (transitions_of es) x.id h in ends_once scheme c es input x q.0 made move q.1 (done q.0 q.2) (sym q.3)),
      old,
    )
    more es input x made move old false = old

-- ---- the two registries of a transfer

-- what an acquirer has of a transfer, its initiator has
pub record AgreedTransfer (scheme : Scheme) (f : Node → List Entry) (c : Code) (t : TransactionId) (x : Transition) : Type 0 where
  pub content : Content
  pub is : x.content ≡ Some content
  pub here : content.acquirer ≡ c
  pub initiator : Transition
  pub newest_there : newest (at_registry f t.code) t ≡ Some initiator
  pub content_there : initiator.content ≡ Some content
  pub member_there : is_no_registry scheme (Registry t.code) ≡ false

module _ {trusted : Node → Bool} (scheme : Scheme) (f : Node → List Entry) (causal : CausalAmong trusted scheme f) where
  -- what was offered by a trusted initiator, it has with that content
  pub initiator_has : (t : TransactionId) (k : Content) → trusted (Registry t.code) ≡ true → Offered (f Itl) (Registry t.code) t proposal.Proposed k
      → (y : Transition) × (newest (at_registry f t.code) t ≡ Some y) × (y.content ≡ Some k)
  initiator_has t k trust got =
      let o = offered scheme t.code (f (Registry t.code)) (causal.made (Registry t.code)) got.proposal (offered_sent scheme f causal Itl (Registry t.code) t proposal.Proposed k trust got) in
      (o.0, subst (λ z. newest (at_registry f t.code) z ≡ Some o.0) got.about o.1, o.2 ∙ ap Some got.content)

module _ {trusted : Node → Bool} (scheme : Scheme) (f : Node → List Entry) (causal : CausalAmong trusted scheme f) (log : trusted Itl ≡ true) where
  -- what was offered by the log, it has with that content
  pub log_has : (c : Code) (t : TransactionId) (k : Content) → Offered (f (Registry c)) Itl t proposal.Checked k → (y : Transition) × (newest (transitions_of (f Itl)) t ≡ Some y) × (y.content ≡ Some k)
  log_has c t k got =
      let o = log_offered scheme (f Itl) (causal.made Itl) got.proposal (offered_sent scheme f causal (Registry c) Itl t proposal.Checked k log got) in
      (o.0, subst (λ z. newest (transitions_of (f Itl)) z ≡ Some o.0) got.about o.1, o.2 ∙ ap Some got.content)

  -- the log completed what an acquirer completed
  pub log_completed : (c : Code) (x : Transition) → In x (at_registry f c) → x.new ≡ Completed → same_code x.id.code c ≡ false → (y : Transition) × (newest (transitions_of (f Itl)) x.id ≡ Some y) × (y.new ≡ Completed)
  log_completed c x i done foreign =
      let last = ends_last scheme c (f (Registry c)) (causal.made (Registry c)) x i done in
      let heard = subst (Cause c (f (Registry c)) x.id) done (told scheme c (f (Registry c)) (causal.made (Registry c)) x.id x last foreign) in
      let l = log_said scheme f causal log (Registry c) x.id Completed heard in (
        l.0,
        l.1,
        elim l.2 [
          | inl e ↦ e
          | inr e ↦ e.1
        ],
      )

module _ (scheme : Scheme) (f : Node → List Entry) (causal : Causal scheme f) where
  pub transfer : (c : Code) (t : TransactionId) (x : Transition) → newest (at_registry f c) t ≡ Some x → same_code t.code c ≡ false → x.new ≡ Completed → AgreedTransfer scheme f c t x
  transfer c t x last foreign done =
      elim (known scheme c (f (Registry c)) (causal.made (Registry c)) t x last foreign) [
        | inl e ↦ let y : Completed ≡ Cancelled = sym done ∙ e.0 in absurd (cc (y))
        | inr k ↦
            let o = log_has scheme f causal refl c t k.content k.got in
            let p = proposer_of scheme (f Itl) (causal.made Itl) t o.0 k.content o.1 o.2 in
            let content : p.content ≡ k.content = one_some p.content k.content (sym p.is ∙ o.2) in
            let i = initiator_has scheme f causal t p.content refl p.got in
            record { content = k.content; is = k.is; here = k.here; initiator = i.0; newest_there = i.1; content_there = i.2 ∙ ap Some content; member_there = p.initiator_known }
      ]

  -- what an acquirer completed, its initiator completed
  pub initiator_completed : (c : Code) (x : Transition) → In x (at_registry f c) → x.new ≡ Completed → same_code x.id.code c ≡ false
      → (q : Transition) × In q (at_registry f x.id.code) × (q.id ≡ x.id) × (q.new ≡ Completed)
  initiator_completed c x i done foreign =
      let d = x.id.code in
      let l = log_completed scheme f causal refl c x i done foreign in
      let heard = (proposer scheme (f Itl) (causal.made Itl) x.id l.0 l.1 (λ e. let y : Completed ≡ Cancelled = sym l.2 ∙ e in cc (y))).ended l.2 in
      let q = completed_sent scheme d (f (Registry d)) (causal.made (Registry d)) heard.notification (heard_sent scheme f causal Itl (Registry d) x.id Completed refl heard) heard.told in
      (q.0, q.1, q.2 ∙ heard.about, q.3)
