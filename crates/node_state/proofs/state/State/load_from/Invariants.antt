use Rattle.std.proofs.Common.{◌≡◌, false, ◌-◌, ◌^◌, length}
use Rattle.node_state.specs.Loading.{IsReadTo}
use Rattle.node_state.proofs.state.State.load_from.Given as goal

abbrev pub invariant-loop-core : goal.invariant-loop-core
invariant-loop-core g l = record {
  scheme : g.C.NodeCore.scheme_of l.core ≡ g.C.NodeCore.scheme_of l.fn.core;
  node : g.C.NodeCore.node_of l.core ≡ g.C.NodeCore.node_of l.fn.core;
  read : IsReadTo g.S.NodeStore l.initial.store l.store (g.C.NodeCore.journal_of l.core);
  faults : g.S.NodeStore.faults l.store ≡ g.S.NodeStore.faults l.initial.store;
  own : g.S.NodeStore.is_own l.initial.store → g.S.NodeStore.is_honest l.store → g.S.NodeStore.must_reopen l.store ≡ false → g.S.NodeStore.is_own l.store;
  whose : g.S.NodeStore.whose l.store ≡ g.S.NodeStore.whose l.initial.store;
}

abbrev pub decreases-loop-core : goal.decreases-loop-core
decreases-loop-core g l = 2 ^ 64 - length (g.C.NodeCore.journal_of l.core)
