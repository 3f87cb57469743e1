use Rattle.std.proofs.Common.{◌≡◌, ◌||◌, take}
use Rattle.std.specs.BTreeSet.{contains}
use Rattle.records.specs.Awaiting.{among, unacknowledged_cmp}
use Rattle.records.specs.declared.unacknowledged.Unacknowledged.{Unacknowledged}
use Rattle.records.proofs.awaiting.await_all.Given as goal

abbrev pub invariant-loop-i : goal.invariant-loop-i
invariant-loop-i l = (q : Unacknowledged) → contains unacknowledged_cmp l.unacknowledged q ≡ (contains unacknowledged_cmp l.initial.unacknowledged q || among l.start (take l.i l.messages) q)
