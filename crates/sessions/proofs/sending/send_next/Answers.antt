use Rattle.std.proofs.Common.{ℕ, Option, Some, refl, subst, ◌∙◌}
use Rattle.wire.specs.declared.message.Message.{Message}
use Rattle.sessions.specs.Sending.{IsReceivedBy}
use Rattle.sessions.proofs.SentMessages.{tries_send}
use Rattle.sessions.proofs.sending.send_next.Goals as goal

pub returns-then-key-keys-clause-sends : goal.returns-then-key-keys-clause-sends
returns-then-key-keys-clause-sends g c =
    ((c.in-Some.message, subst (λ (found : Option (ℕ × Message)). g.D.SharedNode.is_to_send c.args.peer c.args.keys.from found) c.in-Some.is c.in-Ok.ensures), refl)

pub returns-else-key-keys-clause-sends : goal.returns-else-key-keys-clause-sends
returns-else-key-keys-clause-sends g c =
    let to_send = g.D.SharedNode.is_to_send in
    let got = IsReceivedBy (g.N.Network.leads c.args.network.now) g.N.Reader.Read.remaining g.N.Writer.Write.contents in
    tries_send to_send got c.args.peer c.args.keys.from _ _ _ c.in-Some.message _ (subst (λ (found : Option (ℕ × Message)). to_send c.args.peer c.args.keys.from found) c.in-Some.is c.in-Ok.ensures) c.send.ensures

pub returns-in-None-clause-sends : goal.returns-in-None-clause-sends
returns-in-None-clause-sends g c = (subst (λ (found : Option (ℕ × Message)). g.D.SharedNode.is_to_send c.args.peer c.args.keys.from found) c.in-None.is c.in-Ok.ensures, refl)
