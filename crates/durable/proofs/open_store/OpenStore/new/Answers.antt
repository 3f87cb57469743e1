use Rattle.sqlite.specs.Held.{state}
use Rattle.durable.proofs.OpenedAs.{opened_same}
use Rattle.durable.proofs.open_store.OpenStore.new.Goals as goal

pub returns-clause-durable : goal.returns-clause-durable
returns-clause-durable g c honest next held =
    let ready = c.requires.ready honest in
    let same = g.met.S.Store.settled c.args.conn.store held.0 ready.is_open held.1 in
    opened_same (state g.S.Store c.args.conn).committed.trees held.0 next ready.store same held.2
