use Rattle.std.proofs.Common.{Ok, refl, ap, ◌∙◌}
use Rattle.registry_core.specs.declared.effect.RegistryEffect.TheVariants.{Ask}
use Rattle.registry_core.proofs.RolesDecide.{moves_so, request_sent, requested, takes_failed, takes_stale}
use Rattle.registry_core.proofs.tables.Tables.request.Goals as goal

pub returns-in_err-decision : goal.returns-in_err-decision
returns-in_err-decision c =
    takes_failed c.requires.kept (requested c.requires.kept c.requires.input c.request.ensures) c.in_err-decision.was c.from_residual.ensures.1

pub record-requires-clause-transitions : goal.record-requires-clause-transitions
record-requires-clause-transitions c =
    moves_so c.requires.kept (requested c.requires.kept c.requires.input c.request.ensures) (Ask c.args.id) c.requires.input (c.in_ok-decision.was ∙ ap Ok c.in-Moves.is)
    (request_sent c.requires.kept c.args.id c.in-Moves.field-0 c.in_ok-messages-in-Moves.ensures) refl

pub returns-in-Stays : goal.returns-in-Stays
returns-in-Stays c = takes_stale c.requires.kept (requested c.requires.kept c.requires.input c.request.ensures) (c.in_ok-decision.was ∙ ap Ok c.in-Stays.is) c.from.ensures
