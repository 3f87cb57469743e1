use Rattle.std.proofs.Common.{subst}
use Rattle.desk.specs.Desks.{IsConfirmation}
use Rattle.node_state.specs.Views.{StateView}
use Rattle.desk.proofs.at_desk.AtDesk.confirmation_of.Goals as goal

pub returns-clause-confirmation : goal.returns-clause-confirmation
returns-clause-confirmation g c = (
  c.self.inside.stored,
  record { keeps = c.state.ensures.keeps; fault = _; at = c.self.invariant },
  subst (λ (held : StateView). IsConfirmation held c.args.taken.length c.confirmation_of.result) c.state.ensures.state c.confirmation_of.ensures.confirmation,
)
