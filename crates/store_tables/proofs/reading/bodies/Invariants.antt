use Rattle.std.proofs.Common.{◌≡◌, ◌+◌, ◌++◌, drop, map}
use Rattle.store_tables.specs.Pages.{bodies_from}
use Rattle.store_tables.proofs.reading.bodies.Given as goal

abbrev pub invariant-loop-at : goal.invariant-loop-at
invariant-loop-at l = bodies_from l.first l.rows ≡ map (λ body. body.now) l.bodies.items ++ bodies_from (l.first + l.at) (drop l.at l.rows)
