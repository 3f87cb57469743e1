use Rattle.std.proofs.Common.{rules}
use Rattle.stores.proofs.memory_store.MemoryStoreNodeStore.append.Goals as goal

pub returns-in-Some-eq0-clause-device : goal.returns-in-Some-eq0-clause-device
returns-in-Some-eq0-clause-device c = search rules
