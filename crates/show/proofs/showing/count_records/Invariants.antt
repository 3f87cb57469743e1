use Rattle.std.proofs.Common.{◌≡◌, ◌-◌, ◌^◌, List, length}
use Rattle.wire.specs.declared.input.Input.{Input}
use Rattle.show.specs.Pages.{Reads}
use Rattle.show.proofs.showing.count_records.Given as goal

abbrev pub invariant-loop-count : goal.invariant-loop-count
invariant-loop-count g l =
    (inputs : List Input) × (length inputs ≡ l.count)
    × Reads g.S.NodeStore l.fn.store l.store 0 inputs

abbrev pub decreases-loop-count : goal.decreases-loop-count
decreases-loop-count g l = 2 ^ 63 - l.count
