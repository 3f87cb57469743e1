use Rattle.std.proofs.Common.{◌≡◌, ◌++◌, ℕ, Some, length, map}
use Rattle.std.specs.Prelude.{slice_get}
use Rattle.desk.specs.Keeping.{IsKept}
use Rattle.world.specs.declared.any_core.Core.{Core}
use Rattle.loading.specs.Opened.{opened_core}
use Rattle.loading.proofs.cores.pair_up.Given as goal

abbrev pub invariant-loop-core : goal.invariant-loop-core
invariant-loop-core g l = record {
  count : length l.stores.rest.items ≡ length l.core-iterator.rest.items;
  kept : (k : ℕ) (core : Core) (store : _) → slice_get l.core-iterator.rest.items k ≡ Some core → slice_get l.stores.rest.items k ≡ Some store → IsKept g.S.NodeStore (record { state = opened_core core; store = store });
  states : map (λ s. s.state) l.nodes.items ++ map opened_core l.core-iterator.rest.items ≡ map opened_core l.fn.cores.items;
  stores_are : map (λ s. s.store) l.nodes.items ++ l.stores.rest.items ≡ l.fn.stores.items;
}
