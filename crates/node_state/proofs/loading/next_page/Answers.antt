use Rattle.node_state.proofs.Reading.{ran_before}
use Rattle.node_state.proofs.loading.next_page.Goals as goal

pub returns-clause-runs : goal.returns-clause-runs
returns-clause-runs g c = ran_before g.S.NodeStore c.args.store.now c.load_page.new.self (λ waits. (c.load_page.ensures.loads.reopen waits).1)
