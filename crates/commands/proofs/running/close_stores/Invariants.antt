use Rattle.std.proofs.Common.{◌≡◌, ◌++◌, List, IfErr, OnOk}
use Rattle.desk.specs.Keeping.{StoredView}
use Rattle.ended_nodes.specs.Ended.{stored_in}
use Rattle.commands.specs.Commands.{AreClosed, HasClosingFault}
use Rattle.commands.proofs.running.close_stores.Given as goal

abbrev pub invariant-loop-ended : goal.invariant-loop-ended
invariant-loop-ended g l = record {
  closed : (done : List (StoredView g.row.A-Store.Denot)) × (stored_in l.fn.nodes.items ≡ done ++ stored_in l.ended-iterator.rest.items) × OnOk l.first (AreClosed (g.A.Archive.closes l.archive) done);
  first : IfErr l.first (HasClosingFault (g.A.Archive.closes l.archive) (g.A.Archive.unclosed l.archive) (stored_in l.fn.nodes.items));
}
