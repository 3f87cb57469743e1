use Rattle.std.proofs.Common.{sym}
use Rattle.units.specs.Spans.{intervals_of}
use Rattle.units.proofs.Labels.{get_view}
use Rattle.units.proofs.SpanLists.{kept, canonical}
use Rattle.units.proofs.unit_map.UnitMap.pieces.Goals as goal

pub returns-clause-kept : goal.returns-clause-kept
returns-clause-kept g c = kept c.self.inside.spans c.self.invariant.ordered c.self.invariant.parted

pub returns-clause-joined : goal.returns-clause-joined
returns-clause-joined g c = canonical c.self.inside.spans c.self.invariant.ordered c.self.invariant.parted c.self.invariant.joined

pub returns-clause-means : goal.returns-clause-means
returns-clause-means g c u = sym (get_view (intervals_of c.self.inside.spans.entries) c.args.self.now c.self.view_is u)
