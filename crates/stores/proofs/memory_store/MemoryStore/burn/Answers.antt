use Rattle.std.proofs.Common.{rules}
use Rattle.stores.proofs.memory_store.MemoryStore.burn.Goals as goal

pub returns-clause-device : goal.returns-clause-device
returns-clause-device c = search rules
