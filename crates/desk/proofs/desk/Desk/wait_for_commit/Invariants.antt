use Rattle.std.proofs.Common.{◌≡◌}
use Rattle.desk.proofs.desk.Desk.wait_for_commit.Given as goal

abbrev pub invariant-loop : goal.invariant-loop
invariant-loop g l = l.awaited ≡ l.fn.taken
