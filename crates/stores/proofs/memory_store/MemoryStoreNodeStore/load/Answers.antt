use Rattle.std.proofs.Common.{rules}
use Rattle.stores.proofs.memory_store.MemoryStoreNodeStore.load.Goals as goal

pub returns-clause-ok : goal.returns-clause-ok
returns-clause-ok c = search rules

pub returns-clause-records : goal.returns-clause-records
returns-clause-records c = search rules
