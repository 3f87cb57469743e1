use Rattle.std.proofs.lemmas.Result.{err_from_is_err_and}
use Rattle.durable.proofs.sql_store.SqlStore.open_files.Goals as goal

pub returns-in_err-store-clause-named : goal.returns-in_err-store-clause-named
returns-in_err-store-clause-named g c = let p = err_from_is_err_and c.from_residual.result c.from_residual.ensures.1 in rw (p.1, p.2) c.in_err-store.ensures.named

pub returns-in_err-store-clause-fault : goal.returns-in_err-store-clause-fault
returns-in_err-store-clause-fault g c = let p = err_from_is_err_and c.from_residual.result c.from_residual.ensures.1 in rw (p.1, p.2) c.in_err-store.ensures.fault

pub returns-in_err-store-clause-unharmed : goal.returns-in_err-store-clause-unharmed
returns-in_err-store-clause-unharmed g c = let p = err_from_is_err_and c.from_residual.result c.from_residual.ensures.1 in rw (p.1, p.2) c.in_err-store.ensures.unharmed

pub returns-in_err-store-clause-spared : goal.returns-in_err-store-clause-spared
returns-in_err-store-clause-spared g c = let p = err_from_is_err_and c.from_residual.result c.from_residual.ensures.1 in rw (p.1, p.2) c.in_err-store.ensures.spared
