use Rattle.units.proofs.SpanMaps.{whole_same}
use Rattle.units.proofs.unit_map.UnitMap.copy.Goals as goal

pub invariant_of-result : goal.invariant_of-result
invariant_of-result g c = whole_same c.in_ok-spans.spans c.self.inside.spans c.in_ok-spans.ensures c.self.invariant
