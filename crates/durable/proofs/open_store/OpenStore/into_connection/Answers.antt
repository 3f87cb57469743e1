use Rattle.std.proofs.Common.{subst}
use Rattle.durable.specs.Connected.{IsSound}
use Rattle.sqlite.specs.Held.{state}
use Rattle.durable.proofs.OpenedAs.{opened_same}
use Rattle.durable.proofs.open_store.OpenStore.into_connection.Goals as goal

pub returns-clause-durable : goal.returns-clause-durable
returns-clause-durable g c honest runs next held =
    let counted = (subst (IsSound g.S.Store) c.self.view_is c.self.invariant).2 honest runs in
    let same = g.met.S.Store.settled c.args.self.conn.store held.0 counted.ready.is_open held.1 in
    opened_same (state g.S.Store c.args.self.conn).committed.trees held.0 next counted.ready.store same held.2

pub returns-clause-settled : goal.returns-clause-settled
returns-clause-settled g c honest runs db left =
    let counted = (subst (IsSound g.S.Store) c.self.view_is c.self.invariant).2 honest runs in
    g.met.S.Store.settled c.args.self.conn.store db counted.ready.is_open left

pub returns-clause-store : goal.returns-clause-store
returns-clause-store g c honest runs = ((subst (IsSound g.S.Store) c.self.view_is c.self.invariant).2 honest runs).ready.store
