use Rattle.std.proofs.Common.{◌≡◌, ◌++◌, ℕ, List, take}
use Rattle.events.specs.Runs.{AreEventLines}
use Rattle.events.proofs.text.push_events.Given as goal

abbrev pub invariant-loop-event : goal.invariant-loop-event
invariant-loop-event l = (lines : List ℕ) × AreEventLines lines (take l.event-index l.events) × (l.text.items ≡ l.fn.text.items ++ lines)
