use Rattle.desk.proofs.Keepings.{kept_taken}
use Rattle.desk.proofs.stored.Stored.take.Goals as goal

pub invariant_of-self : goal.invariant_of-self
invariant_of-self g c = kept_taken g.S.NodeStore c.self.inside.state c.take.new.self c.args.input c.take.result.told c.self.inside.store c.take.ensures.told c.self.invariant
