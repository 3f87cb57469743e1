use Rattle.std.proofs.Common.{ap}
use Rattle.units.specs.Intervals.{labels_of}
use Rattle.units.specs.Spans.{intervals_of}
use Rattle.units.proofs.unit_map.UnitMap.new.Goals as goal

pub returns : goal.returns
unfolding labels_of
returns g c = ap (λ es. labels_of (intervals_of es)) c.new.ensures.empty
