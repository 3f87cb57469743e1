use Rattle.std.proofs.Common.{◌≡◌, length, take}
use Rattle.commands.specs.Opened.{AreStoresIn}
use Rattle.commands.proofs.opening.open_stores.Given as goal

abbrev pub invariant-loop-at : goal.invariant-loop-at
invariant-loop-at g l = record {
  count : length l.stores.items ≡ l.at;
  are : AreStoresIn g.A.Archive l.archive g.A.Store.NodeStore l.folder (take l.at l.names.items) l.stores.items;
}
