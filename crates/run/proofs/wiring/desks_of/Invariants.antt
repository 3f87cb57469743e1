use Rattle.std.proofs.Common.{◌≡◌, ◌+◌, length}
use Rattle.std.specs.Prelude.{All}
use Rattle.desk.specs.Keeping.{MayOpen}
use Rattle.run.proofs.wiring.desks_of.Given as goal

abbrev pub invariant-loop-node : goal.invariant-loop-node
invariant-loop-node g l = record {
  count : length l.desks.items + length l.node-iterator.rest.items ≡ length l.names;
  may_open : All (MayOpen g.S.NodeStore g.O.Opening.opened) l.node-iterator.rest.items;
}
