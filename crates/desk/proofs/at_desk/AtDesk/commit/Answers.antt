use Rattle.desk.proofs.AtDesks.{at_committed}
use Rattle.desk.proofs.at_desk.AtDesk.commit.Goals as goal

pub invariant_of-self : goal.invariant_of-self
invariant_of-self g c =
    let did = c.commit-committed.ensures in
    rw c.fault_after-self-inside.ensures
    (at_committed g.S.NodeStore g.O.Opening.opened c.self.inside.stored c.commit-committed.new.self _ c.commit-committed.result c.self.inside.fault did.commits did.faults c.self.invariant)

pub returns : goal.returns
returns g c =
    let did = c.commit-committed.ensures in
    let at = at_committed g.S.NodeStore g.O.Opening.opened c.self.inside.stored c.commit-committed.new.self _ c.commit-committed.result c.self.inside.fault did.commits did.faults c.self.invariant in (
      c.self.inside.stored,
      c.commit-committed.new.self,
      record { keeps = did.kept; fault = _; at = c.self.invariant },
      record { keeps = did.keeps; fault = _; at = at },
      did.commits,
    )
