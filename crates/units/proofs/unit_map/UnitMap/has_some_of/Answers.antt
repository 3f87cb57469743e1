use Rattle.std.proofs.Common.{sym, ap, ◌∙◌}
use Rattle.std.specs.Option.{option_map}
use Rattle.units.specs.Spans.{intervals_of}
use Rattle.units.specs.declared.block.Unit.{Unit as Serial}
use Rattle.units.proofs.Labels.{get_view}
use Rattle.units.proofs.LabelTests.{on_true, on_false}
use Rattle.units.proofs.unit_map.UnitMap.has_some_of.Goals as goal

pub returns-clause-some : goal.returns-clause-some
returns-clause-some g c passes gives =
    let view = λ (u : Serial). get_view (intervals_of c.self.inside.spans.entries) c.args.self.now c.self.view_is u in
    on_true c.some_passes.result _ _ (λ f. (f.0, f.1, ap (option_map passes) (view f.0) ∙ f.2)) (c.some_passes.ensures.some passes gives)

pub returns-clause-none : goal.returns-clause-none
returns-clause-none g c passes gives =
    let view = λ (u : Serial). get_view (intervals_of c.self.inside.spans.entries) c.args.self.now c.self.view_is u in
    on_false c.some_passes.result _ _ (λ f u h e. f u h (ap (option_map passes) (sym (view u)) ∙ e)) (c.some_passes.ensures.none passes gives)
