use Rattle.std.proofs.Common.{IsSome, true, sym, subst, ◌∙◌, rules}
use Rattle.units.specs.Spans.{intervals_of, labels_in}
use Rattle.units.specs.declared.block.Unit.{Unit as Serial}
use Rattle.units.proofs.BlockLists.{is_there, not_there}
use Rattle.units.proofs.Labels.{get_view}
use Rattle.units.proofs.LabelTests.{on_not_true, on_not_false}
use Rattle.units.proofs.unit_map.UnitMap.has_none_of.Goals as goal

pub returns-clause-none : goal.returns-clause-none
returns-clause-none g c =
    let view = λ (u : Serial). get_view (intervals_of c.self.inside.spans.entries) c.args.self.now c.self.view_is u in
    on_not_false c.some_passes.result _ _ (λ f u h. view u ∙ not_there (labels_in c.self.inside.spans u) (f u h)) (c.some_passes.ensures.none (λ m. true) (λ m r h. search rules))

pub returns-clause-some : goal.returns-clause-some
returns-clause-some g c =
    let view = λ (u : Serial). get_view (intervals_of c.self.inside.spans.entries) c.args.self.now c.self.view_is u in
    on_not_true c.some_passes.result _ _ (λ f. (f.0, f.1, subst (λ o. IsSome o) (sym (view f.0)) (is_there (labels_in c.self.inside.spans f.0) f.2))) (c.some_passes.ensures.some (λ m. true) (λ m r h. search rules))
