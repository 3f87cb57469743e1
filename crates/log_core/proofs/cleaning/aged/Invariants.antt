use Rattle.std.proofs.Common.{◌≡◌, ◌++◌, List, map}
use Rattle.std.specs.BTreeSet.{IsOrdered}
use Rattle.std.specs.List.{AllByRecursion}
use Rattle.log_core.specs.Cleaning.{IsAged}
use Rattle.log_core.specs.Kept.{waiting_cmp}
use Rattle.log_core.specs.declared.waiting.Waiting.{Waiting}
use Rattle.log_core.proofs.cleaning.aged.Given as goal

-- the entries that were passed are the front, and each has stood Checked for a day
abbrev pub invariant-loop-waiting : goal.invariant-loop-waiting
invariant-loop-waiting l =
    (front : List Waiting) × (l.checked.keys ≡ front ++ l.waiting-iterator) × AllByRecursion (IsAged l.moment.seconds) front × (map (λ (w : Waiting). w.id) front ≡ l.ids.items) × IsOrdered waiting_cmp l.checked
