use Rattle.units.proofs.SpanLists.{kept}
use Rattle.units.proofs.unit_map.UnitMap.count_where.Goals as goal

pub count_where-requires-clause-kept : goal.count_where-requires-clause-kept
count_where-requires-clause-kept g c = kept c.self.inside.spans c.self.invariant.ordered c.self.invariant.parted
