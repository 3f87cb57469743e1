use Rattle.std.proofs.Common.{sym, ap, subst, ◌∙◌}
use Rattle.units.specs.Intervals.{label_at, AreKept}
use Rattle.units.specs.Spans.{intervals_of}
use Rattle.units.proofs.Labels.{get_view}
use Rattle.units.proofs.SpanLists.{kept}
use Rattle.units.proofs.unit_map.UnitMap.in_order.Goals as goal

pub in_order-requires : goal.in_order-requires
in_order-requires g c = subst AreKept (sym (c.deref.ensures.value ∙ c.in_ok-intervals.ensures)) (kept c.self.inside.spans c.self.invariant.ordered c.self.invariant.parted)

pub returns-clause-same : goal.returns-clause-same
returns-clause-same g c u = c.in_ok-in_order.ensures.same u ∙ ap (λ is. label_at is u) (c.deref.ensures.value ∙ c.in_ok-intervals.ensures) ∙ sym (get_view (intervals_of c.self.inside.spans.entries) c.args.self.now c.self.view_is u)
