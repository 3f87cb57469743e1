use Rattle.std.proofs.Common.{◌∙◌}
use Rattle.node_state.proofs.JournalFronts.{fault_of_front, front_brought}
use Rattle.settling.proofs.judging.bring.Goals as goal

pub returns-in-Ok-clause-journal : goal.returns-in-Ok-clause-journal
returns-in-Ok-clause-journal g c =
    c.in-Ok.ensures.ok
    ∙ front_brought (g.C.NodeCore.journal_of c.args.core.now) (g.C.NodeCore.journal_of c.rewind.new.core) c.args.journal.now c.records-start.result c.args.records c.requires.front c.in_ok-rewind.ensures.journal c.records-start.ensures c.in_ok-rewind.ensures.short

pub returns-in-Err-clause-fault : goal.returns-in-Err-clause-fault
returns-in-Err-clause-fault g c =
    fault_of_front (g.C.NodeCore.scheme_of c.args.core.now) (g.C.NodeCore.scheme_of c.rewind.new.core) (g.C.NodeCore.node_of c.args.core.now) (g.C.NodeCore.node_of c.rewind.new.core) c.args.journal.now _ c.args.records c.in-Err.fault
    c.rewind.ensures.scheme c.rewind.ensures.node
    (front_brought (g.C.NodeCore.journal_of c.args.core.now) (g.C.NodeCore.journal_of c.rewind.new.core) c.args.journal.now c.records-start.result c.args.records c.requires.front c.in_ok-rewind.ensures.journal c.records-start.ensures c.in_ok-rewind.ensures.short)
    c.in-Err.ensures.fault
