use Rattle.std.proofs.Common.{arith, Ok, [], sym, ap, subst, ◌∙◌}
use Rattle.status.specs.declared.rows.RowInput.TheVariants.{Request}
use Rattle.wire.specs.declared.message.Body.TheVariants as messages
use Rattle.protocol.proofs.MessageForms.{as_body, as_received, request_with}
use Rattle.log_core.specs.Taking.{IsMessageOrCleanUp, IsWelcome}
use Rattle.log_core.specs.Transfers.{IsWithdrawal}
use Rattle.log_core.specs.declared.effect.LogEffect.TheVariants.{Transfers}
use Rattle.log_core.proofs.DecidedMessages.{last, moves_so, requested, row_moves, sent_of, takes_failed, takes_stale, to_withdraw}
use Rattle.log_core.proofs.EffectsOfMessages.{request_effect}
use Rattle.log_core.proofs.tables.Tables.withdraw.Goals as goal

pub returns-in_err-decision : goal.returns-in_err-decision
returns-in_err-decision c = takes_failed c.requires.kept (requested c.requires.kept (as_received c.args.message.now messages.Request c.requires.body c.requires.input) (as_body (IsWelcome c.args.self.now) c.args.message.now messages.Request c.requires.body c.requires.welcome) c.decide.ensures) c.in_err-decision.was c.from_residual.ensures.1

pub record-requires-clause-transitions : goal.record-requires-clause-transitions
record-requires-clause-transitions c =
    let kept = c.requires.kept in
    let x = request_with c.args.message.now in
    let new = c.in-Moves.field-0 in
    let effect = c.in_ok-effect-in-Moves.effect in
    let to = to_withdraw kept x c.args.moment in
    let moved = c.in_ok-decision.was ∙ ap Ok c.in-Moves.is in
    moves_so kept (requested kept (as_received c.args.message.now messages.Request c.requires.body c.requires.input) (as_body (IsWelcome c.args.self.now) c.args.message.now messages.Request c.requires.body c.requires.welcome) c.decide.ensures) (Transfers effect c.args.moment) moved (sent_of kept x.id [] Request c.content.ensures c.in_ok-messages-in-Moves.ensures) (
      subst IsMessageOrCleanUp (sym c.requires.input) tt,
      request_effect x.id c.args.moment (to new).messages (last kept x.id) new effect (row_moves kept x.id Request c.decide.ensures moved) (subst (λ o. IsWithdrawal x.id o effect) (kept.kept.transfers x.id) c.in_ok-effect-in-Moves.ensures),
    )

pub returns-in-Stays : goal.returns-in-Stays
returns-in-Stays c = takes_stale c.requires.kept (requested c.requires.kept (as_received c.args.message.now messages.Request c.requires.body c.requires.input) (as_body (IsWelcome c.args.self.now) c.args.message.now messages.Request c.requires.body c.requires.welcome) c.decide.ensures) (c.in_ok-decision.was ∙ ap Ok c.in-Stays.is) c.from.ensures

pub record-requires-clause-allowed : goal.record-requires-clause-allowed
record-requires-clause-allowed c = grind arith
