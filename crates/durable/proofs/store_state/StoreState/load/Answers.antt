use Rattle.durable.proofs.Linked.{linked_loads}
use Rattle.durable.proofs.store_state.StoreState.load.Goals as goal

pub returns-in-Open-clause-loads : goal.returns-in-Open-clause-loads
returns-in-Open-clause-loads g c = linked_loads g.D.Disk c.args.self.now _ c.load.new.self c.in-Open.is 0 (λ places. places) c.load.result c.load.ensures.loads
