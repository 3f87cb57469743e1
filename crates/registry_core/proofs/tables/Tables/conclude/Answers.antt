use Rattle.std.proofs.Common.{arith, Ok, refl, ap, ◌∙◌}
use Rattle.std.proofs.lemmas.Grind.{elements}
use Rattle.wire.specs.declared.message.Body.TheVariants.{Notification}
use Rattle.protocol.proofs.MessageForms.{as_body, as_received, notification_with}
use Rattle.registry_core.specs.declared.effect.RegistryEffect.TheVariants.{Conclude}
use Rattle.registry_core.specs.Taking.{IsWelcome}
use Rattle.registry_core.proofs.RolesDecide.{concluded, conclusion_sent, moves_so, takes_failed, takes_stale}
use Rattle.registry_core.proofs.tables.Tables.conclude.Goals as goal

pub returns-in_err-decision : goal.returns-in_err-decision
returns-in_err-decision c =
    takes_failed c.requires.kept (concluded c.requires.kept (as_received c.args.message.now (Notification c.args.notified.now) c.requires.body c.requires.input.1) (as_body (IsWelcome c.args.self.now) c.args.message.now (Notification c.args.notified.now) c.requires.body c.requires.welcome) c.requires.own c.status-told.ensures c.notice.ensures) c.in_err-decision.was c.from_residual.ensures.1

pub record-requires-clause-transitions : goal.record-requires-clause-transitions
record-requires-clause-transitions c =
    moves_so c.requires.kept (concluded c.requires.kept (as_received c.args.message.now (Notification c.args.notified.now) c.requires.body c.requires.input.1) (as_body (IsWelcome c.args.self.now) c.args.message.now (Notification c.args.notified.now) c.requires.body c.requires.welcome) c.requires.own c.status-told.ensures c.notice.ensures) (Conclude c.args.message.now.id c.in-Moves.new) (as_received c.args.message.now (Notification c.args.notified.now) c.requires.body c.requires.input.1) (c.in_ok-decision.was ∙ ap Ok c.in-Moves.is)
    (conclusion_sent c.requires.kept (notification_with c.args.message.now c.args.notified.now) c.requires.input.0 c.in-Moves.new c.status-told.ensures c.in_ok-messages-in-Moves.ensures) (refl, refl, c.requires.own)

pub returns-in-Stays : goal.returns-in-Stays
returns-in-Stays c = takes_stale c.requires.kept (concluded c.requires.kept (as_received c.args.message.now (Notification c.args.notified.now) c.requires.body c.requires.input.1) (as_body (IsWelcome c.args.self.now) c.args.message.now (Notification c.args.notified.now) c.requires.body c.requires.welcome) c.requires.own c.status-told.ensures c.notice.ensures) (c.in_ok-decision.was ∙ ap Ok c.in-Stays.is) c.from.ensures

pub returns-in_err-messages-in-Moves : goal.returns-in_err-messages-in-Moves
returns-in_err-messages-in-Moves c = grind (arith, elements)
