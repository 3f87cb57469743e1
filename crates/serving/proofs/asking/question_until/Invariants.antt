use Rattle.std.proofs.Common.{◌≤◌, max}
use Rattle.node_state.specs.declared.notes.Asked.TheVariants.{Query}
use Rattle.serving.specs.Heard.{Grows, HasHeard}
use Rattle.serving.specs.Orders.{Adds}
use Rattle.serving.proofs.Noting.{Waits}
use Rattle.serving.proofs.asking.question_until.Given as goal

abbrev pub invariant-loop-asked : goal.invariant-loop-asked
invariant-loop-asked g l = record {
  heard : HasHeard l.seat (Query l.awaited.id) l.told;
  grows : Grows l.initial.seat l.seat;
  adds : Adds (Query l.awaited.id) l.fn.seat l.seat l.told;
  waits : Waits l.awaited.id l.awaited.status l.asked l.fn.seat l.seat l.told;
  most : l.asked ≤ max 1 l.awaited.turns;
}
