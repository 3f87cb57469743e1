use Rattle.std.proofs.Common.{rules}
use Rattle.units.specs.Keys.{unit_cmp, first_unit}
use Rattle.units.specs.declared.block.Block.{Block}
use Rattle.scheme.proofs.Told.{sorted_by}
use Rattle.scheme.proofs.faults.sort.Goals as goal

pub returns-clause-sorted : goal.returns-clause-sorted
returns-clause-sorted c = sorted_by (λ (b : Block). first_unit b.raw) unit_cmp c.sort_unstable_by_key.new.self c.sort_unstable_by_key.ensures.sorted (λ a r q h. search rules)
