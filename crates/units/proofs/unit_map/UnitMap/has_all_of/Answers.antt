use Rattle.std.proofs.Common.{sym, ap, ◌∙◌}
use Rattle.std.specs.Option.{option_map}
use Rattle.units.specs.Spans.{intervals_of}
use Rattle.units.specs.declared.block.Unit.{Unit as Serial}
use Rattle.units.proofs.Labels.{get_view}
use Rattle.units.proofs.LabelTests.{on_true, on_false}
use Rattle.units.proofs.unit_map.UnitMap.has_all_of.Goals as goal

pub returns-clause-all : goal.returns-clause-all
returns-clause-all g c passes gives =
    let view = λ (u : Serial). get_view (intervals_of c.self.inside.spans.entries) c.args.self.now c.self.view_is u in
    on_true c.all_pass.result _ _ (λ f u h. ap (option_map passes) (view u) ∙ f u h) (c.all_pass.ensures.all passes gives)

pub returns-clause-some : goal.returns-clause-some
returns-clause-some g c passes gives =
    let view = λ (u : Serial). get_view (intervals_of c.self.inside.spans.entries) c.args.self.now c.self.view_is u in
    on_false c.all_pass.result _ _ (λ f. (f.0, f.1, λ e. f.2 (ap (option_map passes) (sym (view f.0)) ∙ e))) (c.all_pass.ensures.some passes gives)
