use Rattle.std.proofs.Common.{sym, ◌∙◌}
use Rattle.units.specs.Spans.{intervals_of}
use Rattle.units.proofs.Labels.{get_view}
use Rattle.units.proofs.unit_map.UnitMap.get.Goals as goal

pub returns : goal.returns
returns g c = sym (get_view (intervals_of c.self.inside.spans.entries) c.args.self.now c.self.view_is c.args.unit.now ∙ c.in_ok-interval.ensures.some.1 c.args.unit.now c.in_ok-interval.ensures.some.0)

pub returns-in_err-interval : goal.returns-in_err-interval
returns-in_err-interval g c = c.from_residual.ensures ∙ sym (get_view (intervals_of c.self.inside.spans.entries) c.args.self.now c.self.view_is c.args.unit.now ∙ c.in_err-interval.ensures.none)
