use Rattle.std.proofs.Common.{◌≡◌, ◌+◌, drop, length, map, take}
use Rattle.std.specs.Prelude.{All}
use Rattle.sessions.specs.Orders.{AreAll, HasOnly}
use Rattle.ended_nodes.specs.Ended.{seats_in, stored_in}
use Rattle.run.specs.Gathered.{AreGatheredTo}
use Rattle.serving.specs.Ends.{EndsWell}
use Rattle.run.proofs.gathering.end_all.Given as goal

abbrev pub invariant-loop-desk : goal.invariant-loop-desk
invariant-loop-desk g l = record {
  names : map (λ e. e.stored.state.node) l.ended.items ≡ take (length l.ended.items) l.names;
  well : All (EndsWell g.S.NodeStore g.K.Opening.opened) (stored_in l.ended.items);
  count : length l.ended.items + length l.desk-iterator.rest.items ≡ length l.names;
  rest : l.script.rest.items ≡ drop (length l.ended.items) l.fn.script.items;
  each : AreGatheredTo g.K.Taking.takes (length l.ended.items) l.fn.script.items (seats_in l.ended.items);
  such : AreAll (HasOnly g.K.Taking.takes) l.threads.rest.items;
}
