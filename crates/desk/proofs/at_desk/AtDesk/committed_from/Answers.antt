use Rattle.std.proofs.Common.{◌≡◌, take, drop, subst}
use Rattle.std.proofs.lemmas.Result.{IfOk-weaker}
use Rattle.desk.specs.Keeping.{AreCommitted}
use Rattle.node_state.specs.Views.{StateView, committed_records}
use Rattle.desk.proofs.at_desk.AtDesk.committed_from.Goals as goal

pub returns : goal.returns
returns g c =
    IfOk-weaker c.committed_from.result (λ records. records.items ≡ take c.args.most (drop c.args.from (committed_records c.state.result.now))) (λ records. AreCommitted g.S.NodeStore g.O.Opening.opened c.args.from c.args.most records.items)
    (λ records is. (
      c.self.inside.stored,
      record { keeps = c.state.ensures.keeps; fault = _; at = c.self.invariant },
      subst (λ (held : StateView). records.items ≡ take c.args.most (drop c.args.from (committed_records held))) c.state.ensures.state is,
    )) c.committed_from.ensures
