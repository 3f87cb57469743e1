use Rattle.std.proofs.Common.{Some, Ok, sym, ap, subst, ◌∙◌}
use Rattle.std.specs.Prelude.{option_map}
use Rattle.log_core.specs.Readings.{of_transition}
use Rattle.wire.specs.declared.message.Body.TheVariants.{Proposal}
use Rattle.protocol.proofs.MessageForms.{as_body, as_received, proposal_with}
use Rattle.log_core.specs.Taking.{IsMessageOrCleanUp, IsWelcome}
use Rattle.log_core.specs.declared.effect.LogEffect.TheVariants.{Transfers}
use Rattle.log_core.specs.declared.effect.TransferEffect.TheVariants.{Begin}
use Rattle.log_core.proofs.DecidedMessages.{IsDecided, check_sent, checked, checked_column, findings, last, moves_so, proposal_column, row_moves, takes_failed, takes_stale, to_check}
use Rattle.log_core.proofs.EffectsOfMessages.{proposal_effect, proposal_unknown}
use Rattle.log_core.proofs.tables.Tables.check.Goals as goal

pub returns-in_err-decision : goal.returns-in_err-decision
returns-in_err-decision c =
    let kept = c.requires.kept in
    let col = checked_column kept (proposal_with c.args.message.now c.args.proposal.now) c.in_ok-found.ensures c.column_of_proposal.ensures in
    takes_failed kept (checked kept (as_received c.args.message.now (Proposal c.args.proposal.now) c.requires.body c.requires.input) (as_body (IsWelcome c.args.self.now) c.args.message.now (Proposal c.args.proposal.now) c.requires.body c.requires.welcome) col c.decide.ensures) c.in_err-decision.was c.from_residual-in_err-decision.ensures.1

pub record-requires-clause-transitions : goal.record-requires-clause-transitions
record-requires-clause-transitions c =
    let kept = c.requires.kept in
    let x = proposal_with c.args.message.now c.args.proposal.now in
    let new = c.in-Moves.new in
    let to = to_check kept x c.args.moment in
    let col = checked_column kept x c.in_ok-found.ensures c.column_of_proposal.ensures in
    let moved = c.in_ok-decision.was ∙ ap Ok c.in-Moves.is in
    let row = row_moves kept x.id (proposal_column kept x) (subst (λ k. IsDecided kept x.id k c.decide.result) col c.decide.ensures) moved in
    let unknown = proposal_unknown x.id c.args.moment (to new).messages (last kept x.id) new (findings kept x) row in
    moves_so kept (checked kept (as_received c.args.message.now (Proposal c.args.proposal.now) c.requires.body c.requires.input) (as_body (IsWelcome c.args.self.now) c.args.message.now (Proposal c.args.proposal.now) c.requires.body c.requires.welcome) col c.decide.ensures) (Transfers (Begin x.id new (Some c.in_ok-copy-in-Moves.field-0)) c.args.moment) moved (check_sent kept x c.args.moment new c.in_ok-found.ensures unknown c.in_ok-messages-in-Moves.ensures)
    (subst IsMessageOrCleanUp (sym c.requires.input) tt, proposal_effect x.id c.args.moment (to new).messages (last kept x.id) new x.content c.in_ok-copy-in-Moves.field-0 (findings kept x) c.in_ok-copy-in-Moves.ensures row)

pub record-requires-clause-allowed : goal.record-requires-clause-allowed
record-requires-clause-allowed c =
    let kept = c.requires.kept in
    let x = proposal_with c.args.message.now c.args.proposal.now in
    let new = c.in-Moves.new in
    let to = to_check kept x c.args.moment in
    let col = checked_column kept x c.in_ok-found.ensures c.column_of_proposal.ensures in
    let row = row_moves kept x.id (proposal_column kept x) (subst (λ k. IsDecided kept x.id k c.decide.result) col c.decide.ensures) (c.in_ok-decision.was ∙ ap Ok c.in-Moves.is) in
    kept.kept.transfers x.id ∙ ap (option_map of_transition) (proposal_unknown x.id c.args.moment (to new).messages (last kept x.id) new (findings kept x) row)

pub returns-in-Stays : goal.returns-in-Stays
returns-in-Stays c =
    let kept = c.requires.kept in
    let col = checked_column kept (proposal_with c.args.message.now c.args.proposal.now) c.in_ok-found.ensures c.column_of_proposal.ensures in
    takes_stale kept (checked kept (as_received c.args.message.now (Proposal c.args.proposal.now) c.requires.body c.requires.input) (as_body (IsWelcome c.args.self.now) c.args.message.now (Proposal c.args.proposal.now) c.requires.body c.requires.welcome) col c.decide.ensures) (c.in_ok-decision.was ∙ ap Ok c.in-Stays.is) c.from.ensures
