use Rattle.std.proofs.Common.{◌≡◌, take}
use Rattle.stores.proofs.memory_store.copies.Given as goal

abbrev pub invariant-loop-input : goal.invariant-loop-input
invariant-loop-input l = l.copies.items ≡ take l.input-index l.inputs
