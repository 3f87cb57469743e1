use Rattle.std.proofs.Common.{take, drop}
use Rattle.durable.proofs.Linked.{linked_loads}
use Rattle.durable.proofs.store_state.StoreState.load_page.Goals as goal

pub returns-in-Open-clause-loads : goal.returns-in-Open-clause-loads
returns-in-Open-clause-loads g c = linked_loads g.D.Disk c.args.self.now _ c.load_page.new.self c.in-Open.is c.args.from (λ places. take c.args.max (drop c.args.from places)) c.load_page.result c.load_page.ensures.loads
