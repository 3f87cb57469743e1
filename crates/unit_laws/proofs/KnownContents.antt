-- Each content that a node knows of a transfer is that of a proposal that the transfer's initiator sent: the initiator
-- has it from its order, the log from the initiator's proposal, and the acquirer from the log's, which passes it on.
use Rattle.std.proofs.Common.{◌≡◌, List, true, false, Some, inl, inr, refl, sym, ap, subst, ◌∙◌}
use Rattle.std.proofs.lemmas.Bool.{cases_Bool}
use Rattle.units.specs.Code.{same_code}
use Rattle.units.specs.declared.code.Code.{Code}
use Rattle.units.specs.declared.code.Node.{Node}
use Rattle.units.specs.declared.code.Node.TheVariants.{Itl, Registry}
use Rattle.units.proofs.Same.{code_of_same}
use Rattle.status.specs.Content.{Content}
use Rattle.status.specs.declared.id.TransactionId.{TransactionId}
use Rattle.wire.specs.declared.message.ProposalStatus.TheVariants as proposal
use Rattle.scheme.specs.declared.registries.Scheme.{Scheme}
use Rattle.protocol.specs.Claims.{at_registry}
use Rattle.protocol.specs.History.{Entry, Transition, newest, sends, transitions_of}
use Rattle.protocol.proofs.MessageForms as message
use Rattle.protocol.proofs.MessageForms.{ProposalMessage}
use Rattle.safety.proofs.AgreementOfNodes.CausalHistories.{Causal, offered_sent}
use Rattle.safety.proofs.AgreementOfNodes.CompletionsAgree.{log_has}
use Rattle.safety.proofs.AgreementOfNodes.InitiatorRecords.{log_one_content}
use Rattle.safety.proofs.MovesAndHistories.TableMoves.{newest_some}
use Rattle.safety.proofs.OneRegistry.ProposedTransfers.{was_proposed}
use Rattle.safety.proofs.OneRegistry.SoundHistories.{sound_history}
use Rattle.safety.proofs.OneRegistry.TransactionEnds.{known, offered, proposer_of}
use Rattle.units.proofs.Lists.Membership.{In}
use Rattle.units.proofs.Lists.OneValue.{one_some}

-- the transfer's initiator sent a proposal with the content
pub record HasProposed (f : Node → List Entry) (t : TransactionId) (k : Content) : Type 0 where
  pub proposal : ProposalMessage
  pub sent : In (message.proposal proposal) (sends (f (Registry t.code)))
  pub about : proposal.id ≡ t
  pub content : proposal.content ≡ k

module _ (scheme : Scheme) (f : Node → List Entry) (causal : Causal scheme f) where
  -- what the log knows of a transfer
  newest_at_log : (t : TransactionId) (y : Transition) (k : Content) → newest (transitions_of (f Itl)) t ≡ Some y → y.content ≡ Some k → HasProposed f t k
  newest_at_log t y k last content =
      let p = proposer_of scheme (f Itl) (causal.made Itl) t y k last content in
      record {
        proposal = p.got.proposal;
        sent = offered_sent scheme f causal Itl (Registry t.code) t proposal.Proposed p.content refl p.got;
        about = p.got.about;
        content = p.got.content ∙ one_some p.content k (sym p.is ∙ content);
      }

  at_log : (x : Transition) (k : Content) → In x (transitions_of (f Itl)) → x.content ≡ Some k → HasProposed f x.id k
  at_log x k i content =
      let y = newest_some (transitions_of (f Itl)) x i in
      newest_at_log x.id y.0 k y.1 (sym (log_one_content scheme (f Itl) (causal.made Itl) x y.0 i y.1) ∙ content)

  at_initiator : (c : Code) (x : Transition) (k : Content) → In x (at_registry f c) → x.content ≡ Some k → same_code x.id.code c ≡ true → HasProposed f x.id k
  at_initiator c x k i content own =
      let es = f (Registry c) in
      let made = causal.made (Registry c) in
      let p = was_proposed scheme c es made x i own in
      let o = offered scheme c es made p.0 p.1 in
      let last : newest (transitions_of es) x.id ≡ Some o.0 = subst (λ t. newest (transitions_of es) t ≡ Some o.0) p.2 o.1 in
      let same = (sound_history scheme c es made).contents x o.0 i last in
      record {
        proposal = p.0;
        sent = subst (λ d. In (message.proposal p.0) (sends (f (Registry d)))) (sym (code_of_same x.id.code c own)) p.1;
        about = p.2;
        content = one_some p.0.content k (sym o.2 ∙ same ∙ content);
      }

  at_acquirer : (c : Code) (x : Transition) (k : Content) → In x (at_registry f c) → x.content ≡ Some k → same_code x.id.code c ≡ false → HasProposed f x.id k
  at_acquirer c x k i content foreign =
      let es = f (Registry c) in
      let made = causal.made (Registry c) in
      let q = newest_some (transitions_of es) x i in
      let same = (sound_history scheme c es made).contents x q.0 i q.1 in
      elim (known scheme c es made x.id q.0 q.1 foreign) [
        | inl bare ↦ let none = sym bare.1 ∙ same ∙ content in absurd (cc (none))
        | inr taken ↦
            let y = log_has scheme f causal refl c x.id taken.content taken.got in
            let here = one_some taken.content k (sym taken.is ∙ same ∙ content) in
            newest_at_log x.id y.0 k y.1 (y.2 ∙ ap (λ (z : Content). Some z) here)
      ]

  pub known_content : (n : Node) (x : Transition) (k : Content) → In x (transitions_of (f n)) → x.content ≡ Some k → HasProposed f x.id k
  known_content Itl x k i content = at_log x k i content
  known_content (Registry c) x k i content =
      elim (cases_Bool (same_code x.id.code c)) [
        | inl own ↦ at_initiator c x k i content own
        | inr foreign ↦ at_acquirer c x k i content foreign
      ]
