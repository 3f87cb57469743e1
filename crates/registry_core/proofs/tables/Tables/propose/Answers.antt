use Rattle.std.proofs.Common.{Ok, refl, sym, ap, subst, Some, ◌∙◌}
use Rattle.registry_core.specs.declared.effect.RegistryEffect.TheVariants.{Open}
use Rattle.registry_core.proofs.RolesDecide.{moves_so, order_given_up, proposal_sent, proposed, takes_failed, takes_stale}
use Rattle.registry_core.proofs.TakenInputs.{GivenUp, are_same, takes_err}
use Rattle.registry_core.proofs.tables.Tables.propose.Goals as goal

pub returns-in_err-new_transfer : goal.returns-in_err-new_transfer
returns-in_err-new_transfer c =
    takes_err c.args.self.now.scheme c.args.self.now.code c.args.self.now c.args.self.now c.args.input.now c.from_residual.result _ c.requires.kept (are_same c.args.self.now) c.from_residual.ensures.1
    (λ r e. subst (λ q. GivenUp c.args.self.now.scheme c.args.self.now.code c.args.self.now c.args.input.now q.code) (sym e) (order_given_up c.requires.kept c.requires.input c.in_err-new_transfer.ensures.refused))

pub returns-in_err-decision : goal.returns-in_err-decision
returns-in_err-decision c =
    takes_failed c.requires.kept (proposed c.requires.kept c.requires.input c.in_ok-new_transfer.ensures.ok c.in_ok-new_transfer.ensures.id c.propose.ensures) c.in_err-decision.was c.from_residual-in_err-decision.ensures.1

pub record-requires-clause-transitions : goal.record-requires-clause-transitions
record-requires-clause-transitions c =
    moves_so c.requires.kept (proposed c.requires.kept c.requires.input c.in_ok-new_transfer.ensures.ok c.in_ok-new_transfer.ensures.id c.propose.ensures) (Open c.in_ok-new_transfer.new_transfer) c.requires.input
    (c.in_ok-decision.was ∙ ap Ok c.in-Moves.is) (proposal_sent c.requires.kept c.args.order.now c.in-Moves.field-0 c.in_ok-new_transfer.ensures.content c.in_ok-messages-in-Moves.ensures) (refl, ap Some (sym c.in_ok-new_transfer.ensures.content))

pub returns-in-Stays : goal.returns-in-Stays
returns-in-Stays c =
    takes_stale c.requires.kept (proposed c.requires.kept c.requires.input c.in_ok-new_transfer.ensures.ok c.in_ok-new_transfer.ensures.id c.propose.ensures) (c.in_ok-decision.was ∙ ap Ok c.in-Stays.is) c.from.ensures
