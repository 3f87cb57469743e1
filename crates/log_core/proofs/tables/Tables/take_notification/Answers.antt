use Rattle.std.proofs.Common.{Ok, sym, ap, subst, ◌∙◌}
use Rattle.protocol.specs.Deciding.{content_in}
use Rattle.status.specs.declared.rows.RowInput.TheVariants.{Notified}
use Rattle.wire.specs.NotifiedStatuses.{notified_codes, notified_status}
use Rattle.wire.specs.declared.message.Body.TheVariants.{Notification}
use Rattle.protocol.proofs.MessageForms.{as_body, as_received, notification_with}
use Rattle.log_core.specs.Taking.{IsMessageOrCleanUp, IsWelcome}
use Rattle.log_core.specs.declared.effect.LogEffect.TheVariants.{Transfers}
use Rattle.log_core.specs.declared.effect.TransferEffect.TheVariants.{Advance}
use Rattle.log_core.proofs.DecidedMessages.{IsDecided, last, moves_so, notified, notified_column, row_moves, sent_of, takes_failed, takes_stale, to_advance}
use Rattle.log_core.proofs.EffectsOfMessages.{notified_effect}
use Rattle.log_core.proofs.tables.Tables.take_notification.Goals as goal

pub returns-in_err-decision : goal.returns-in_err-decision
returns-in_err-decision c =
    let x = notification_with c.args.message.now c.args.notified.now in
    let is = subst (λ s. IsDecided c.requires.kept x.id (Notified s) c.decide.result) c.status.ensures c.decide.ensures in
    takes_failed c.requires.kept (notified c.requires.kept (as_received c.args.message.now (Notification c.args.notified.now) c.requires.body c.requires.input) (as_body (IsWelcome c.args.self.now) c.args.message.now (Notification c.args.notified.now) c.requires.body c.requires.welcome) is) c.in_err-decision.was c.from_residual.ensures.1

pub record-requires-clause-transitions : goal.record-requires-clause-transitions
record-requires-clause-transitions c =
    let kept = c.requires.kept in
    let x = notification_with c.args.message.now c.args.notified.now in
    let new = c.in-Moves.new in
    let to = to_advance kept x c.args.moment in
    let is = subst (λ s. IsDecided kept x.id (Notified s) c.decide.result) c.status.ensures c.decide.ensures in
    let moved = c.in_ok-decision.was ∙ ap Ok c.in-Moves.is in
    moves_so kept (notified kept (as_received c.args.message.now (Notification c.args.notified.now) c.requires.body c.requires.input) (as_body (IsWelcome c.args.self.now) c.args.message.now (Notification c.args.notified.now) c.requires.body c.requires.welcome) is) (Transfers (Advance x.id new) c.args.moment) moved (sent_of kept x.id (notified_codes x.notified) (notified_column kept x) c.content-content.ensures c.in_ok-messages-in-Moves.ensures)
    (subst IsMessageOrCleanUp (sym c.requires.input) tt, notified_effect x.id c.args.moment (to new).messages (last kept x.id) new (content_in (last kept x.id)) (notified_status x.notified) (row_moves kept x.id (notified_column kept x) is moved))

pub returns-in-Stays : goal.returns-in-Stays
returns-in-Stays c =
    let x = notification_with c.args.message.now c.args.notified.now in
    let is = subst (λ s. IsDecided c.requires.kept x.id (Notified s) c.decide.result) c.status.ensures c.decide.ensures in
    takes_stale c.requires.kept (notified c.requires.kept (as_received c.args.message.now (Notification c.args.notified.now) c.requires.body c.requires.input) (as_body (IsWelcome c.args.self.now) c.args.message.now (Notification c.args.notified.now) c.requires.body c.requires.welcome) is) (c.in_ok-decision.was ∙ ap Ok c.in-Stays.is) c.from.ensures
