use Rattle.std.proofs.Common.{◌≡◌, length, take}
use Rattle.std.specs.List.{AllWithin}
use Rattle.settling.specs.Settling.{Bears}
use Rattle.settling.proofs.judging.unborne_of.Given as goal

abbrev pub invariant-loop-note : goal.invariant-loop-note
invariant-loop-note g l = record {
  scheme : g.C.NodeCore.scheme_of l.core ≡ g.C.NodeCore.scheme_of l.initial.core;
  node : g.C.NodeCore.node_of l.core ≡ g.C.NodeCore.node_of l.initial.core;
  front : g.C.NodeCore.journal_of l.core ≡ take (length (g.C.NodeCore.journal_of l.core)) l.journal;
  borne : AllWithin (λ note. Bears (g.C.NodeCore.scheme_of l.initial.core) (g.C.NodeCore.node_of l.initial.core) l.journal note.now) l.notes 0 l.note-index;
}
