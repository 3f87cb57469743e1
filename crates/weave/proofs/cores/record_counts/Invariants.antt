use Rattle.std.proofs.Common.{◌≡◌, length, map, take}
use Rattle.world.specs.Cores as node_cores
use Rattle.weave.proofs.cores.record_counts.Given as goal

abbrev pub invariant-loop-core : goal.invariant-loop-core
invariant-loop-core l = l.counts.items ≡ map (λ core. length (node_cores.journal_of core)) (take l.core-index l.cores)
