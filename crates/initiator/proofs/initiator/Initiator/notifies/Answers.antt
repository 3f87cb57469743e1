use Rattle.std.proofs.Common.{◌≡◌, subst}
use Rattle.std.specs.Result.{IfOk}
use Rattle.protocol.specs.Effects.{initiator_sends}
use Rattle.status.specs.declared.rows.RowInput.TheVariants.{Notified}
use Rattle.initiator.proofs.initiator.Initiator.notifies.Goals as goal

pub returns : goal.returns
returns c content = subst (λ i. IfOk c.on_notified.result (λ messages. messages ≡ initiator_sends i.code c.args.id content (Notified c.args.told))) c.self.view_is (c.on_notified.ensures content)
