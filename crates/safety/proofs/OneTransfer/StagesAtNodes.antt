-- What is known of a transfer at its three nodes, in a causal family of histories: its stage is the newest transition at
-- its initiator, and the newest ones at the log and at the acquirer agree with it.
use Rattle.std.proofs.lemmas.Bool.{cases_Bool}
use Rattle.std.proofs.Common.{◌≡◌, List, true, false, Option, Some, inl, inr, refl, sym, ap, subst, ◌∙◌, ◌⊎◌, None}
use Rattle.units.proofs.Same.{same_code-refl, code_of_same}
use Rattle.units.specs.Code.{same_code, same_node}
use Rattle.units.specs.declared.code.Code.{Code}
use Rattle.units.specs.declared.code.Node.{Node}
use Rattle.units.specs.declared.code.Node.TheVariants.{Itl, Registry}
use Rattle.status.specs.Content.{Content}
use Rattle.status.specs.declared.id.TransactionId.{TransactionId}
use Rattle.status.specs.declared.rows.RecordedStatus.{RecordedStatus}
use Rattle.status.specs.declared.rows.RecordedStatus.TheVariants.{Stands}
use Rattle.status.specs.declared.rows.Row.{Row}
use Rattle.status.specs.declared.rows.RowInput.{RowInput}
use Rattle.status.specs.declared.rows.RowInput.TheVariants.{Notified}
use Rattle.status.specs.declared.status.Status.{Status}
use Rattle.status.specs.declared.status.Status.TheVariants.{Proposed, Completed, Cancelled, Checked, Accepted, Rejected, Terminated}
use Rattle.wire.specs.declared.notified.NotifiedStatus.{NotifiedStatus}
use Rattle.scheme.specs.declared.registries.Scheme.{Scheme}
use Rattle.protocol.specs.Claims.{IsEnd, IsUnderWay, StandsAt}
use Rattle.protocol.specs.Effects.{notifies, proposes}
use Rattle.protocol.specs.History.{Entry, Transition, newest, sends, transitions_of}
use Rattle.protocol.specs.Registries.{has_member}
use Rattle.protocol.specs.WayOut.{IsOpen}
use Rattle.safety.proofs.AgreementOfNodes.CausalHistories.{Causal, heard_sent, log_said, offered_sent}
use Rattle.safety.proofs.AgreementOfNodes.CompletionsAgree.{log_has, initiator_has}
use Rattle.safety.proofs.OneRegistry.TransactionEnds.{offered, proposer, known, proposer_of, own_contents}
use Rattle.safety.proofs.MovesAndHistories.NewestTransitions.{newest_id, newest_stands, Offered, Heard}
use Rattle.units.proofs.Lists.Membership.{In}
use Rattle.units.proofs.Lists.OneValue.{one_some}
use Rattle.safety.proofs.OneTransfer.SentByTransitions.{SaysAtLog, SaysOther, SaysOwn, log_has_said, other_said, own_said, transition_sends, own_offered, cancelled_said, Tells}
use Rattle.safety.proofs.OneTransfer.MessageRows.{Last}
use Rattle.safety.proofs.WorldLemmas.NodesWithStation.{Unplaced}
use Rattle.safety.proofs.MovesAndHistories.TableRows.{word_to}
use Rattle.safety.proofs.OneRegistry.RegistrySendings.{rejected_sent}
use Rattle.safety.proofs.OneLog.LogSendings.{refusal, passed_open}
use Rattle.safety.proofs.AgreementOfNodes.InitiatorRecords.{initiated}
use Rattle.status.specs.Rows.{initiator_row}
use Rattle.status.specs.declared.rows.Row.TheVariants.{Move}
use Rattle.safety.proofs.OneRegistry.RegistryHearings.{Cause, IsTaken, told, OwnCause, told_own}
use Rattle.wire.specs.declared.message.ProposalStatus.TheVariants as proposal
use Rattle.wire.specs.declared.notified.NotifiedStatus.TheVariants as notified
use Rattle.protocol.proofs.MessageForms as message
use Rattle.protocol.proofs.NodeIndices.{other_way}

-- the newest transition of the transfer at its initiator
pub record Stage (scheme : Scheme) (f : Node → List Entry) (t : TransactionId) (x : Transition) (k : Content) : Type 0 where
  pub is : Last f (Registry t.code) t x
  pub content : x.content ≡ Some k
  pub initiator : has_member scheme t.code ≡ true
  pub acquirer : has_member scheme k.acquirer ≡ true
  pub other : same_code t.code k.acquirer ≡ false

-- a table is read at a status and a notification
pub table_at : (table : RecordedStatus → RowInput → Row) (a b c d : Status) → a ≡ b → c ≡ d → table (Stands a) (Notified c) ≡ table (Stands b) (Notified d)
table_at table a b c d e h = ap (λ z. table (Stands z) (Notified c)) e ∙ ap (λ z. table (Stands b) (Notified z)) h

-- what has ended is not open
pub ended_not_open : (s : Status) → IsEnd s → (s ≡ Proposed) ⊎ IsUnderWay s → ⊥
ended_not_open Proposed e h = e
ended_not_open Checked e h = e
ended_not_open Accepted e h = e
ended_not_open Rejected e (inl h) = cc (h)
ended_not_open Rejected e (inr (inl h)) = cc (h)
ended_not_open Rejected e (inr (inr h)) = cc (h)
ended_not_open Terminated e (inl h) = cc (h)
ended_not_open Terminated e (inr (inl h)) = cc (h)
ended_not_open Terminated e (inr (inr h)) = cc (h)
ended_not_open Cancelled e (inl h) = cc (h)
ended_not_open Cancelled e (inr (inl h)) = cc (h)
ended_not_open Cancelled e (inr (inr h)) = cc (h)
ended_not_open Completed e (inl h) = cc (h)
ended_not_open Completed e (inr (inl h)) = cc (h)
ended_not_open Completed e (inr (inr h)) = cc (h)

abbrev pub IsAnswer : Status → Type 0
IsAnswer Accepted = Unit {0}
IsAnswer Rejected = Unit {0}
IsAnswer Terminated = Unit {0}
IsAnswer Cancelled = Unit {0}
IsAnswer _ = ⊥

abbrev pub answered_to : Status → Status
answered_to Accepted = Completed
answered_to st = st

pub answer_row : (st : Status) → IsAnswer st → initiator_row (Stands Proposed) (Notified st) ≡ Move (answered_to st)
answer_row Accepted h = refl
answer_row Rejected h = refl
answer_row Terminated h = refl
answer_row Cancelled h = refl
answer_row Proposed h = absurd h
answer_row Checked h = absurd h
answer_row Completed h = absurd h

pub answer_says : (l : Transition) (st : Status) → IsAnswer st → SaysAtLog l st → Tells l Itl (Registry l.id.code) st
answer_says l Accepted h says = says
answer_says l Rejected h says = says
answer_says l Terminated h says = says
answer_says l Cancelled h says = says
answer_says l Proposed h says = absurd h
answer_says l Checked h says = absurd h
answer_says l Completed h says = absurd h

-- what was accepted at the acquirer
pub taken_at : (o : Option Transition) → IsTaken o → (p : Transition) × (o ≡ Some p) × ((p.new ≡ Accepted) ⊎ ((p.new ≡ Completed) ⊎ (p.new ≡ Cancelled)))
taken_at None h = absurd h
taken_at (Some p) h = (p, refl, h)

-- what holds of the newest transition of a node
pub only : (f : Node → List Entry) (t : TransactionId) (n : Node) (x : Transition) → Last f n t x → IsEnd x.new → (y : Transition) → Last f n t y → IsEnd y.new
only f t n x is e y at = subst (λ (z : Transition). IsEnd z.new) (one_some x y (sym is ∙ at)) e

module _ (scheme : Scheme) (f : Node → List Entry) (causal : Causal scheme f) (t : TransactionId) (x : Transition) (k : Content) (s : Stage scheme f t x k) where
  pub foreign : same_node (Registry k.acquirer) (Registry t.code) ≡ false
  foreign = other_way (Registry t.code) (Registry k.acquirer) s.other

  -- the log knows the same content
  pub log_content : (l : Transition) → Last f Itl t l → (l.new ≡ Cancelled → ⊥) → l.content ≡ Some k
  log_content l is other =
      let p = proposer scheme (f Itl) (causal.made Itl) t l is other in
      let o =
      offered scheme t.code (f (Registry t.code)) (causal.made (Registry t.code)) p.got.proposal
      (offered_sent scheme f causal Itl (Registry t.code) t proposal.Proposed p.content refl p.got) in
      let at_t : Last f (Registry t.code) t o.0 = subst (λ z. Last f (Registry t.code) z o.0) p.got.about o.1 in
      let same : o.0 ≡ x = one_some o.0 x (sym at_t ∙ s.is) in
      p.is ∙ ap Some (sym p.got.content) ∙ sym o.2 ∙ ap (λ (z : Transition). z.content) same ∙ s.content

  -- an acquirer that was not notified of a cancellation is the one that the initiator named
  pub acquirer_is : (c : Code) (p : Transition) → same_code t.code c ≡ false → Last f (Registry c) t p → (p.new ≡ Cancelled → ⊥) → c ≡ k.acquirer
  acquirer_is c p elsewhere is going =
      elim (known scheme c (f (Registry c)) (causal.made (Registry c)) t p is elsewhere) [
        | inl e ↦ absurd (going e.0)
        | inr z ↦
            let o = log_has scheme f causal refl c t z.content z.got in
            let q = proposer_of scheme (f Itl) (causal.made Itl) t o.0 z.content o.1 o.2 in
            let i = initiator_has scheme f causal t q.content refl q.got in
            let same : i.0 ≡ x = one_some i.0 x (sym i.1 ∙ s.is) in
            let there : q.content ≡ k = one_some q.content k (sym i.2 ∙ ap (λ (y : Transition). y.content) same ∙ s.content) in
            let here : z.content ≡ q.content = one_some z.content q.content (sym o.2 ∙ q.is) in
            sym z.here ∙ ap (λ (y : Content). y.acquirer) (here ∙ there)
      ]

  -- it is not open where it has come to an end at its three nodes
  pub closed_when : IsEnd x.new → ((l : Transition) → Last f Itl t l → IsEnd l.new) → ((p : Transition) → Last f (Registry k.acquirer) t p → IsEnd p.new) → IsOpen f t → ⊥
  closed_when own log acquirer o = go o.0 o.1 o.2 o.3
    where
      go : (n : Node) (st : Status) → StandsAt f n t st → (st ≡ Proposed) ⊎ IsUnderWay st → ⊥
      go Itl st is under =
          let g = newest_stands (transitions_of (f Itl)) t st (newest (transitions_of (f Itl)) t) refl is in
          ended_not_open st (subst IsEnd g.2 (log g.0 g.1)) under
      go (Registry c) st is under =
          let g = newest_stands (transitions_of (f (Registry c))) t st (newest (transitions_of (f (Registry c))) t) refl is in
          elim (cases_Bool (same_code t.code c)) [
            | inl mine ↦
                let here : Last f (Registry t.code) t g.0 = subst (λ z. Last f (Registry z) t g.0) (sym (code_of_same t.code c mine)) g.1 in
                let same : g.0 ≡ x = one_some g.0 x (sym here ∙ s.is) in
                ended_not_open st (subst IsEnd (ap (λ (y : Transition). y.new) (sym same) ∙ g.2) own) under
            | inr elsewhere ↦
                let named = acquirer_is c g.0 elsewhere g.1 (λ e. ended_not_open st (subst IsEnd (sym e ∙ g.2) tt) under) in
                ended_not_open st (subst IsEnd g.2 (acquirer g.0 (subst (λ z. Last f (Registry z) t g.0) named g.1))) under
          ]

  pub id_at : (n : Node) (y : Transition) → Last f n t y → In y (transitions_of (f n)) × (y.id ≡ t)
  id_at n y is = newest_id (transitions_of (f n)) t y is

  -- what the nodes' newest transitions sent
  pub told_by : (n : Node) (y : Transition) (to : Node) (said : NotifiedStatus) → Last f n t y → In (notifies n to y.id said) y.messages → In (notifies n to t said) (sends (f n))
  told_by n y to said is h =
      let id = id_at n y is in
      subst (λ z. In (notifies n to z said) (sends (f n))) id.1 (transition_sends (f n) y (notifies n to y.id said) id.0 h)

  pub log_tells : (l : Transition) → Last f Itl t l → (st : Status) → l.new ≡ st → SaysAtLog l st
  log_tells l is st e = subst (SaysAtLog l) e (log_has_said scheme (f Itl) (causal.made Itl) l (id_at Itl l is).0)

  -- the acquirer is notified of a transfer that the log cancelled with a content
  pub log_tells_acquirer : (l : Transition) → Last f Itl t l → l.new ≡ Cancelled → l.content ≡ Some k → In (notifies Itl (Registry k.acquirer) t notified.Cancelled) (sends (f Itl))
  log_tells_acquirer l is e content = told_by Itl l (Registry k.acquirer) notified.Cancelled is (cancelled_said scheme (f Itl) (causal.made Itl) l (id_at Itl l is).0 e k content)

  pub own_tells : (st : Status) → x.new ≡ st → SaysOwn t.code x st
  own_tells st e =
      let id = id_at (Registry t.code) x s.is in
      subst (SaysOwn t.code x) e
      (own_said scheme t.code (f (Registry t.code)) (causal.made (Registry t.code)) x id.0 (subst (λ (z : TransactionId). same_code z.code t.code ≡ true) (sym id.1) (same_code-refl t.code)))

  -- it proposed the content
  pub own_offer : In (proposes (Registry t.code) Itl t proposal.Proposed k) (sends (f (Registry t.code)))
  own_offer =
      let id = id_at (Registry t.code) x s.is in
      let o =
      own_offered scheme t.code (f (Registry t.code)) (causal.made (Registry t.code)) x id.0
      (subst (λ (z : TransactionId). same_code z.code t.code ≡ true) (sym id.1) (same_code-refl t.code)) in
      let same : o.0 ≡ k = one_some o.0 k (sym o.1 ∙ s.content) in
      subst (λ z. In (proposes (Registry t.code) Itl z proposal.Proposed k) (sends (f (Registry t.code)))) id.1
      (subst (λ z. In (proposes (Registry t.code) Itl x.id proposal.Proposed z) (sends (f (Registry t.code)))) same o.2)

  pub other_tells : (p : Transition) → Last f (Registry k.acquirer) t p → (st : Status) → p.new ≡ st → SaysOther k.acquirer p st
  other_tells p is st e =
      let id = id_at (Registry k.acquirer) p is in
      subst (SaysOther k.acquirer p) e
      (other_said scheme k.acquirer (f (Registry k.acquirer)) (causal.made (Registry k.acquirer)) p id.0 (subst (λ (z : TransactionId). same_code z.code k.acquirer ≡ false) (sym id.1) s.other))

  pub acquirer_content : (p : Transition) → Last f (Registry k.acquirer) t p → (p.new ≡ Cancelled → ⊥) → (c : Content) × (p.content ≡ Some c)
  acquirer_content p there other =
      elim (known scheme k.acquirer (f (Registry k.acquirer)) (causal.made (Registry k.acquirer)) t p there s.other) [
        | inl e ↦ absurd (other e.0)
        | inr z ↦ (z.content, z.is)
      ]

module _ (scheme : Scheme) (f : Node → List Entry) (causal : Causal scheme f) (t : TransactionId) where
  -- where the log stands Rejected or Terminated, the acquirer has not accepted
  pub ended_acquirer : (x l p : Transition) (k : Content) → Stage scheme f t x k → Last f Itl t l → (l.new ≡ Rejected) ⊎ (l.new ≡ Terminated) → Last f (Registry k.acquirer) t p → IsEnd p.new
  ended_acquirer x l p k s log which there = go p.new refl (told scheme k.acquirer (f (Registry k.acquirer)) (causal.made (Registry k.acquirer)) t p there s.other)
    where
      refused : p.new ≡ Accepted → l.new ≡ Rejected → ⊥
      refused e d =
          let r = refusal scheme (f Itl) (causal.made Itl) t l log d in
          let content : r.0 ≡ k = one_some r.0 k (sym r.1 ∙ log_content scheme f causal t x k s l log (λ y. let z : Rejected ≡ Cancelled = sym d ∙ y in cc (z))) in
          let sent =
          subst (λ (z : Content). In (message.notification r.2.notification) (sends (f (Registry z.acquirer)))) content
          (heard_sent scheme f causal Itl (Registry r.0.acquirer) t Rejected refl r.2) in
          let q = rejected_sent scheme k.acquirer (f (Registry k.acquirer)) (causal.made (Registry k.acquirer)) r.2.notification sent r.2.told in
          let at_t : newest (transitions_of (f (Registry k.acquirer))) t ≡ Some q.0 = subst (λ z. newest (transitions_of (f (Registry k.acquirer))) z ≡ Some q.0) r.2.about q.1 in
          let y : Accepted ≡ Rejected = sym e ∙ ap (λ (z : Transition). z.new) (one_some p q.0 (sym there ∙ at_t)) ∙ q.2 in
          cc (y)

      passed : (m : Content) → Offered (f (Registry k.acquirer)) Itl t proposal.Checked m → l.new ≡ Terminated → ⊥
      passed m got d =
          let o = passed_open scheme (f Itl) (causal.made Itl) got.proposal (offered_sent scheme f causal (Registry k.acquirer) Itl t proposal.Checked m refl got) in
          let at_t : Last f Itl t o.0 = subst (λ z. Last f Itl z o.0) got.about o.1 in
          o.2 (ap (λ (z : Transition). z.new) (one_some o.0 l (sym at_t ∙ log)) ∙ d)

      go : (st : Status) → p.new ≡ st → Cause k.acquirer (f (Registry k.acquirer)) t st → IsEnd st
      go Accepted e h = elim which [
        | inl d ↦ refused e d
        | inr d ↦ passed h.0 h.1 d
      ]
      go Rejected e h = tt
      go Terminated e h = tt
      go Cancelled e h = tt
      go Completed e h = tt
      go Proposed e h = h
      go Checked e h = h

  -- the log stands at the end that it notified the initiator of
  pub told_end : (x : Transition) → Last f (Registry t.code) t x → (st : Status) → x.new ≡ st → (st ≡ Proposed → ⊥) → word_to st ≡ st → (st ≡ Accepted → ⊥) → (l : Transition) × Last f Itl t l × (l.new ≡ st)
  told_end x is st e other word not_accepted =
      elim (subst (OwnCause (f (Registry t.code)) t) e (told_own scheme t.code (f (Registry t.code)) (causal.made (Registry t.code)) t x is (same_code-refl t.code))) [
        | inl d ↦ absurd (other d)
        | inr h ↦
            let l = log_said scheme f causal refl (Registry t.code) t st (subst (Heard (f (Registry t.code)) Itl t) word h) in (
              l.0,
              l.1,
              elim l.2 [
                | inl d ↦ d
                | inr d ↦ absurd (not_accepted d.0)
              ],
            )
      ]

  -- nothing is known anywhere of what its initiator doesn't know
  pub unknown : newest (transitions_of (f (Registry t.code))) t ≡ None → IsOpen f t → ⊥
  unknown none o = go o.0 o.1 o.2 o.3
    where
      at_log : (l : Transition) → Last f Itl t l → ⊥
      at_log l log = let i = initiated scheme f causal t l refl log in let e = sym none ∙ i.is in cc (e)

      go : (n : Node) (st : Status) → StandsAt f n t st → (st ≡ Proposed) ⊎ IsUnderWay st → ⊥
      go Itl st is under = let g = newest_stands (transitions_of (f Itl)) t st (newest (transitions_of (f Itl)) t) refl is in at_log g.0 g.1
      go (Registry d) st is under =
          let es = f (Registry d) in
          let g = newest_stands (transitions_of es) t st (newest (transitions_of es) t) refl is in
          elim (cases_Bool (same_code t.code d)) [
            | inl mine ↦
                let here : Last f (Registry t.code) t g.0 = subst (λ z. Last f (Registry z) t g.0) (sym (code_of_same t.code d mine)) g.1 in
                let e = sym none ∙ here in
                cc (e)
            | inr elsewhere ↦
                elim (known scheme d es (causal.made (Registry d)) t g.0 g.1 elsewhere) [
                  | inl e ↦ ended_not_open st (subst IsEnd (sym e.0 ∙ g.2) tt) under
                  | inr z ↦ let h = log_has scheme f causal refl d t z.content z.got in at_log h.0 h.1
                ]
          ]

module _ (scheme : Scheme) (f : Node → List Entry) (causal : Causal scheme f) (unplaced : Unplaced scheme f) (t : TransactionId) where
  pub stage : (x : Transition) → Last f (Registry t.code) t x → (k : Content) × Stage scheme f t x k
  stage x is =
      let id = newest_id (transitions_of (f (Registry t.code))) t x is in
      let own =
      own_contents scheme t.code (f (Registry t.code)) (causal.made (Registry t.code)) x id.0 (subst (λ (z : TransactionId). same_code z.code t.code ≡ true) (sym id.1) (same_code-refl t.code)) in
      let member : has_member scheme t.code ≡ true =
      elim (cases_Bool (has_member scheme t.code)) [
        | inl y ↦ y
        | inr n ↦ absurd (let e = subst (λ (es : List Entry). newest (transitions_of es) t ≡ Some x) (unplaced (Registry t.code) n) is in cc (e))
      ] in (
        own.content,
        record {
          is = is;
          content = own.is;
          initiator = member;
          acquirer = own.acquirer_known;
          other = other_way (Registry own.content.acquirer) (Registry t.code) own.acquirer_other;
        },
      )
