use Rattle.std.proofs.Common.{inr}
use Rattle.desk.proofs.AtDesks.{at_taken}
use Rattle.desk.proofs.at_desk.AtDesk.take.Goals as goal

pub invariant_of-self : goal.invariant_of-self
invariant_of-self g c =
    let did = c.take.ensures in
    at_taken g.S.NodeStore g.O.Opening.opened c.self.inside.stored.state c.take.new.self.state c.self.inside.stored.store c.take.new.self.store c.args.input c.take.result.told c.self.inside.fault did.kept did.told did.store c.self.invariant

pub returns-clause-told : goal.returns-clause-told
returns-clause-told g c = inr (c.self.inside.stored.state, c.take.new.self.state, c.take.ensures.told, c.take.ensures.length)
