use Rattle.std.proofs.Common.{◌≡◌, ◌++◌, take}
use Rattle.protocol.proofs.resuming.resume.Given as goal

abbrev pub invariant-loop-input : goal.invariant-loop-input
invariant-loop-input g l = record {
  scheme : g.C.NodeCore.scheme_of l.core ≡ g.C.NodeCore.scheme_of l.initial.core;
  node : g.C.NodeCore.node_of l.core ≡ g.C.NodeCore.node_of l.initial.core;
  journal : g.C.NodeCore.journal_of l.core ≡ g.C.NodeCore.journal_of l.initial.core ++ take l.input-index l.inputs;
}
