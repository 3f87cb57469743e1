use Rattle.std.proofs.Common.{◌≡◌, ◌≤◌, ℕ, length, map, take}
use Rattle.std.specs.Prelude.{All, slice_get}
use Rattle.protocol.specs.Registries.{nodes}
use Rattle.world.specs.Cores.{journal_of, node_of, scheme_of}
use Rattle.loading.specs.Stores.{AreLoadedTo, AreUnwritten}
use Rattle.loading.proofs.cores.load_cores.Given as goal

abbrev pub invariant-loop-store : goal.invariant-loop-store
invariant-loop-store g l = record {
  loaded : AreLoadedTo g.S.NodeStore l.store-index l.scheme (nodes l.scheme) l.initial.stores l.stores (map journal_of l.cores.items);
  nodes : map node_of l.cores.items ≡ take l.store-index (nodes l.scheme);
  schemes : All (λ core. scheme_of core ≡ l.scheme) l.cores.items;
  later : (k : ℕ) → l.store-index ≤ k → slice_get l.stores k ≡ slice_get l.initial.stores k;
  kept : AreUnwritten g.S.NodeStore l.initial.stores l.stores;
  count : length l.cores.items ≡ l.store-index;
}
