-- Where each message that was received in the name of a trusted node was sent, a message from one trusted node to another
-- is refused by its addressee only where the journal is full.
use Rattle.std.proofs.Common.{◌≡◌, List, Bool, true, inl, inr, sym, ◌∙◌}
use Rattle.units.specs.declared.code.Code.{Code}
use Rattle.units.specs.declared.code.Node.{Node}
use Rattle.units.specs.declared.code.Node.TheVariants.{Itl, Registry}
use Rattle.status.specs.declared.moment.Moment.{Moment}
use Rattle.wire.specs.declared.input.Input.TheVariants.{Received}
use Rattle.wire.specs.declared.message.Message.{Message}
use Rattle.protocol.proofs.MessageForms.{Form, form, of_proposal, of_notification, of_request}
use Rattle.scheme.specs.declared.registries.Scheme.{Scheme}
use Rattle.protocol.specs.History.{Entry, sends}
use Rattle.protocol.specs.Verdict.{verdict}
use Rattle.safety.proofs.AgreementOfNodes.CausalHistories.{CausalAmong}
use Rattle.safety.proofs.OneLog.LogSendings.{goes, no_request}
use Rattle.safety.proofs.OneRegistry.RegistrySendings.{Says, offers, answers, completes, says, asks_log}
use Rattle.units.proofs.Lists.Membership.{In}
use Rattle.safety.proofs.MovesAndHistories.RefusalCauses.{Welcome}
use Rattle.safety.proofs.OneLog.LogHearings.{log_offered}
use Rattle.safety.proofs.WorldLemmas.NodesWithStation.{Unplaced}
use Rattle.safety.proofs.DeliveryLemmas.WelcomeAtLog.{log_welcome}
use Rattle.safety.proofs.DeliveryLemmas.WelcomeAtRegistry.{registry_welcome}

registry_not_log : (c : Code) → Registry c ≡ Itl → ⊥
registry_not_log c e = cc (e)

-- registries send to the log alone
pub said_to_log : (scheme : Scheme) (c : Code) (es : List Entry) (m : Message) → Says scheme c es m → m.to ≡ Itl
said_to_log scheme c es m (offers p from to status own) = to
said_to_log scheme c es m (answers n k from to which foreign got here) = to
said_to_log scheme c es m (completes n from to said own) = to
said_to_log scheme c es m (asks_log r from to own) = to

module _ {trusted : Node → Bool} (scheme : Scheme) (f : Node → List Entry) (causal : CausalAmong trusted scheme f) where
  -- the log sends nothing to itself
  not_to_itself : (m : Message) → Form m → In m (sends (f Itl)) → m.to ≡ Itl → ⊥
  not_to_itself m (of_proposal p) h e = registry_not_log p.content.acquirer (sym (log_offered scheme (f Itl) (causal.made Itl) p h).3 ∙ e)
  not_to_itself m (of_request r) h e = no_request scheme (f Itl) (causal.made Itl) r h
  not_to_itself m (of_notification n) h e =
      elim (goes scheme (f Itl) (causal.made Itl) n h) [
        | inl g ↦ registry_not_log n.id.code (sym g.to ∙ e)
        | inr g ↦ registry_not_log g.goes.content.acquirer (sym g.goes.to ∙ e)
      ]

  pub welcome : trusted Itl ≡ true → Unplaced scheme f → (from to : Node) → trusted from ≡ true → trusted to ≡ true → (m : Message) (moment : Moment) → m.from ≡ from → m.to ≡ to → In m (sends (f from)) → Welcome (verdict scheme to (f to) (Received m moment))
  unfolding verdict
  welcome log unplaced Itl Itl here there m moment a b h = absurd (not_to_itself m (form m) h b)
  welcome log unplaced Itl (Registry c) here there m moment a b h = registry_welcome scheme f causal log c there m moment h b
  welcome log unplaced (Registry c) Itl here there m moment a b h = log_welcome scheme f causal log unplaced c m moment here h
  welcome log unplaced (Registry c) (Registry d) here there m moment a b h =
      absurd (registry_not_log d (sym b ∙ said_to_log scheme c (f (Registry c)) m (says scheme c (f (Registry c)) (causal.made (Registry c)) m h)))
