use Rattle.std.proofs.Common.{◌≡◌, ◌≤◌, ◌-◌, false}
use Rattle.show.specs.Pages.{Shows}
use Rattle.show.proofs.showing.write_records.Given as goal

abbrev pub invariant-loop-place : goal.invariant-loop-place
invariant-loop-place g l = record {
  shows : Shows g.S.NodeStore l.form l.fn.store l.store (g.W.Write.contents l.fn.writer) (g.W.Write.contents l.writer) l.place l.written;
  runs : g.S.NodeStore.must_reopen l.store ≡ false;
  within : l.place ≤ l.count;
}

abbrev pub decreases-loop-place : goal.decreases-loop-place
decreases-loop-place g l = l.count - l.place
