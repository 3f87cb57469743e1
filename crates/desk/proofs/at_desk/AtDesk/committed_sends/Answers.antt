use Rattle.std.proofs.Common.{◌≡◌, length, subst}
use Rattle.protocol.specs.History.{sends}
use Rattle.node_state.specs.Views.{StateView, committed_past}
use Rattle.desk.proofs.at_desk.AtDesk.committed_sends.Goals as goal

pub returns : goal.returns
returns g c = (
  c.self.inside.stored,
  record { keeps = c.state.ensures.keeps; fault = _; at = c.self.invariant },
  subst (λ (held : StateView). c.committed_sends.result ≡ length (sends (committed_past held))) c.state.ensures.state c.committed_sends.ensures,
)
