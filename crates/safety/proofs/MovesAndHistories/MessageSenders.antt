-- Each message that a node sends names the node as its sender.
use Rattle.std.proofs.Common.{◌≡◌, ℕ, List, [], ◌∷◌, inl, inr, refl, sym, ap, ◌∙◌}
use Rattle.units.specs.declared.code.Code.{Code}
use Rattle.units.specs.declared.code.Node.{Node}
use Rattle.units.specs.declared.code.Node.TheVariants.{Itl, Registry}
use Rattle.status.specs.Content.{Content}
use Rattle.status.specs.declared.id.TransactionId.{TransactionId}
use Rattle.status.specs.declared.status.Status.{Status}
use Rattle.status.specs.declared.status.Status.TheVariants.{Proposed, Checked, Accepted, Rejected, Terminated, Cancelled, Completed}
use Rattle.wire.specs.declared.input.Input.{Input}
use Rattle.wire.specs.declared.message.Message.{Message}
use Rattle.scheme.specs.declared.registries.Scheme.{Scheme}
use Rattle.protocol.specs.History.{Transition, Entry, sends, messages_of}
use Rattle.safety.proofs.MovesAndHistories.TransitionForms.{concluded_messages, checked_message}
use Rattle.safety.proofs.MovesAndHistories.NewestTransitions.{Made, made_registry, made_log}
use Rattle.units.proofs.Lists.Membership.{In, In_cases, In_flat_map}
use Rattle.safety.proofs.MovesAndHistories.TableMoves.{RegistryMove, proposes, asks, arrives, bares, concludes, finishes, LogMove, checks, passes, cancels, forestalls}

sender_concluded : (c : Code) (u : TransactionId) (new : Status) (m : Message) → In m (concluded_messages c u new) → m.from ≡ Registry c
sender_concluded c u Completed m (inl e) = ap (λ (z : Message). z.from) (sym e)
sender_concluded c u Completed m (inr h) = absurd h
sender_concluded c u Proposed m h = absurd h
sender_concluded c u Checked m h = absurd h
sender_concluded c u Accepted m h = absurd h
sender_concluded c u Rejected m h = absurd h
sender_concluded c u Terminated m h = absurd h
sender_concluded c u Cancelled m h = absurd h

sender_registry : (scheme : Scheme) (c : Code) (es : List Entry) (input : Input) (x : Transition) (m : Message) → RegistryMove scheme c es input x → In m x.messages → m.from ≡ Registry c
sender_registry scheme c es input x m (proposes o t none is fresh) (inl e) = ap (λ (z : Message). z.from) (sym e)
sender_registry scheme c es input x m (proposes o t none is fresh) (inr h) = absurd h
sender_registry scheme c es input x m (arrives p moment found f s is none foreign mine) (inl e) = ap (λ (z : Message). z.from) (sym e)
sender_registry scheme c es input x m (arrives p moment found f s is none foreign mine) (inr h) = absurd h
sender_registry scheme c es input x m (asks t q old own stood) (inl e) = ap (λ (z : Message). z.from) (sym e)
sender_registry scheme c es input x m (asks t q old own stood) (inr h) = absurd h
sender_registry scheme c es input x m (bares n moment f told none foreign) h = absurd h
sender_registry scheme c es input x m (concludes n moment q new f old own move) h = sender_concluded c q.id new m h
sender_registry scheme c es input x m (finishes n moment q new f old foreign move none) h = absurd h

sender_checked : (t : TransactionId) (k : Content) (found : List ℕ) → (checked_message t k found).from ≡ Itl
sender_checked t k [] = refl
sender_checked t k (c ∷ cs) = refl

sender_log : (scheme : Scheme) (es : List Entry) (input : Input) (x : Transition) (m : Message) → LogMove scheme es input x → In m x.messages → m.from ≡ Itl
sender_log scheme es input x m (checks p moment found f s is none member) (inl e) = ap (λ (z : Message). z.from) (sym e) ∙ sender_checked p.id p.content found
sender_log scheme es input x m (checks p moment found f s is none member) (inr h) = absurd h
sender_log scheme es input x m (passes n moment q held new old kept member right move) (inl e) = ap (λ (z : Message). z.from) (sym e)
sender_log scheme es input x m (passes n moment q held new old kept member right move) (inr h) = absurd h
sender_log scheme es input x m (cancels given moment t q held why old kept was) (inl e) = ap (λ (z : Message). z.from) (sym e)
sender_log scheme es input x m (cancels given moment t q held why old kept was) (inr (inl e)) = ap (λ (z : Message). z.from) (sym e)
sender_log scheme es input x m (cancels given moment t q held why old kept was) (inr (inr h)) = absurd h
sender_log scheme es input x m (forestalls r moment f member none) (inl e) = ap (λ (z : Message). z.from) (sym e)
sender_log scheme es input x m (forestalls r moment f member none) (inr h) = absurd h

pub sender_sends : (scheme : Scheme) (n : Node) (es : List Entry) → Made scheme n es → (m : Message) → In m (sends es) → m.from ≡ n
sender_sends scheme n [] made m h = absurd h
sender_sends scheme Itl (e ∷ es) made m h =
    elim (In_cases m (sends es) (messages_of e.transitions) h) [
      | inl old ↦ sender_sends scheme Itl es made.1 m old
      | inr new ↦ let g = In_flat_map (λ (x : Transition). x.messages) m e.transitions new in sender_log scheme es e.input g.0 m (made_log scheme e es g.0 made g.1) g.2
    ]
sender_sends scheme (Registry c) (e ∷ es) made m h =
    elim (In_cases m (sends es) (messages_of e.transitions) h) [
      | inl old ↦ sender_sends scheme (Registry c) es made.1 m old
      | inr new ↦ let g = In_flat_map (λ (x : Transition). x.messages) m e.transitions new in sender_registry scheme c es e.input g.0 m (made_registry scheme c e es g.0 made g.1) g.2
    ]
