use Rattle.std.proofs.Common.{Ok, refl, sym, ap, ◌∙◌}
use Rattle.wire.specs.declared.message.Body.TheVariants.{Proposal}
use Rattle.protocol.proofs.MessageForms.{as_body, as_received, proposal_with}
use Rattle.registry_core.specs.declared.effect.RegistryEffect.TheVariants.{Arrive}
use Rattle.registry_core.specs.Taking.{IsWelcome}
use Rattle.registry_core.proofs.RolesDecide.{arrival_sent, arrived, moves_so, takes_failed, takes_stale}
use Rattle.registry_core.proofs.tables.Tables.arrive.Goals as goal

pub returns-in_err-decision : goal.returns-in_err-decision
returns-in_err-decision c =
    takes_failed c.requires.kept (arrived c.requires.kept (as_received c.args.message.now (Proposal c.args.proposal.now) c.requires.body c.requires.input.1) (as_body (IsWelcome c.args.self.now) c.args.message.now (Proposal c.args.proposal.now) c.requires.body c.requires.welcome) c.in_ok-found.ensures c.proposal.ensures) c.in_err-decision.was c.from_residual-in_err-decision.ensures.1

pub record-requires-clause-transitions : goal.record-requires-clause-transitions
record-requires-clause-transitions c =
    moves_so c.requires.kept (arrived c.requires.kept (as_received c.args.message.now (Proposal c.args.proposal.now) c.requires.body c.requires.input.1) (as_body (IsWelcome c.args.self.now) c.args.message.now (Proposal c.args.proposal.now) c.requires.body c.requires.welcome) c.in_ok-found.ensures c.proposal.ensures) (Arrive c.args.message.now.id c.in-Moves.new c.in_ok-content-in-Moves.content) (as_received c.args.message.now (Proposal c.args.proposal.now) c.requires.body c.requires.input.1) (c.in_ok-decision.was ∙ ap Ok c.in-Moves.is)
    (arrival_sent c.requires.kept (proposal_with c.args.message.now c.args.proposal.now) c.requires.input.0 c.in_ok-found.ensures c.proposal.ensures (c.in_ok-decision.was ∙ ap Ok c.in-Moves.is) c.in_ok-messages-in-Moves.ensures) (refl, refl, sym c.in_ok-content-in-Moves.ensures)

pub returns-in-Stays : goal.returns-in-Stays
returns-in-Stays c = takes_stale c.requires.kept (arrived c.requires.kept (as_received c.args.message.now (Proposal c.args.proposal.now) c.requires.body c.requires.input.1) (as_body (IsWelcome c.args.self.now) c.args.message.now (Proposal c.args.proposal.now) c.requires.body c.requires.welcome) c.in_ok-found.ensures c.proposal.ensures) (c.in_ok-decision.was ∙ ap Ok c.in-Stays.is) c.from.ensures
