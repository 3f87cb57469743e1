-- What is owed is open at the acquirer.
use Rattle.safety.proofs.OneRegistry.RegistryHearings.{IsTaken, accepted_sent}
use Rattle.safety.proofs.OneLog.LogHearings.{log_backed}
use Rattle.safety.proofs.OneRegistry.TransactionEnds.{proposer_of}
use Rattle.std.specs.Prelude.{option_map}
use Rattle.safety.proofs.AgreementOfNodes.CausalHistories.{Causal, LogAgrees, completed_agrees, ended, heard_sent}
use Rattle.std.proofs.Common.{◌≡◌, List, true, false, Option, Some, None, inl, inr, refl, sym, ap, subst, ◌∙◌}
use Rattle.units.specs.declared.code.Code.{Code}
use Rattle.units.specs.declared.code.Node.{Node}
use Rattle.units.specs.declared.code.Node.TheVariants.{Itl, Registry}
use Rattle.status.specs.declared.id.TransactionId.{TransactionId}
use Rattle.status.specs.declared.status.Status.{Status}
use Rattle.status.specs.declared.status.Status.TheVariants.{Completed, Accepted}
use Rattle.scheme.specs.declared.registries.Scheme.{Scheme}
use Rattle.protocol.specs.Claims.{at_registry, is_received}
use Rattle.protocol.specs.History.{Entry, Transition, is_status, newest, stands_at}
use Rattle.protocol.specs.WayOut.{IsOpen}
use Rattle.safety.proofs.AgreementOfNodes.CompletionsAgree.{initiator_has}
use Rattle.units.proofs.Lists.OneValue.{one_some}

pub owed_open : (scheme : Scheme) (f : Node → List Entry) → Causal scheme f → (t : TransactionId) (y : Transition) → newest (at_registry f t.code) t ≡ Some y → y.new ≡ Completed → is_received f t y.content ≡ false → (IsOpen f t → ⊥) → ⊥
owed_open scheme f causal t y y_is y_new y_waits closed =
    let done = ap (option_map (λ (z : Transition). z.new)) y_is ∙ ap Some y_new in
    let agrees = completed_agrees scheme f causal refl (Registry t.code) t done in
    let b = log_backed scheme (f Itl) (causal.made Itl) t agrees.0 agrees.1 agrees.2 in
    let p = proposer_of scheme (f Itl) (causal.made Itl) t agrees.0 b.content agrees.1 b.known in
    let i = initiator_has scheme f causal t p.content refl p.got in
    let a = b.content.acquirer in
    let content : y.content ≡ Some b.content = ap (λ (z : Transition). z.content) (one_some y i.0 (sym y_is ∙ i.1)) ∙ i.2 ∙ sym p.is ∙ b.known in
    let waits : is_received f t (Some b.content) ≡ false = subst (λ k. is_received f t k ≡ false) content y_waits in
    let sent = heard_sent scheme f causal Itl (Registry a) t Accepted refl b.heard in
    let taken = subst (λ z. IsTaken (newest (at_registry f a) z)) b.heard.about (accepted_sent scheme a (f (Registry a)) (causal.made (Registry a)) b.heard.notification sent b.heard.told).1 in
    at_acquirer a (newest (at_registry f a) t) refl taken waits agrees
  where
    at_acquirer : (a : Code) (q : Option Transition) → newest (at_registry f a) t ≡ q → IsTaken q → stands_at (at_registry f a) t Completed ≡ false → LogAgrees f t → ⊥
    at_acquirer a None is taken waits agrees = taken
    at_acquirer a (Some x) is (inl e) waits agrees = closed (Registry a, Accepted, ap (option_map (λ (z : Transition). z.new)) is ∙ ap Some e, inr (inr refl))
    at_acquirer a (Some x) is (inr (inl e)) waits agrees =
        let z : true ≡ false = sym (ap (λ (z : Option Status). is_status z Completed) (ap (option_map (λ (z : Transition). z.new)) is ∙ ap Some e)) ∙ waits in
        cc (z)
    at_acquirer a (Some x) is (inr (inr e)) waits agrees = ended scheme f causal refl (Registry a) t refl agrees (inr (inr (ap (option_map (λ (z : Transition). z.new)) is ∙ ap Some e)))
