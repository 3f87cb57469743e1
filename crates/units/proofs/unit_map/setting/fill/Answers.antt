use Rattle.std.proofs.Common.{rules, sym, ap, subst, ◌∙◌, refl, IsSome}
use Rattle.std.specs.BTreeMap as tree
use Rattle.units.specs.Keys.{unit_cmp}
use Rattle.units.specs.Spans.{filled}
use Rattle.units.proofs.SpanFills.{filled_some_at, filled_none_at, first_stays}
use Rattle.units.proofs.unit_map.setting.fill.Goals as goal

pub returns-in-Some-clause-filled : goal.returns-in-Some-clause-filled
returns-in-Some-clause-filled g c q =
    let b = c.args.block.now.raw in
    let old = tree.get unit_cmp c.args.spans.now in
    let middle = tree.get unit_cmp c.change_between.new.spans in
    let some = first_stays b old middle c.unit-first.result c.after.result c.unit-last.result c.unit-first.ensures c.after.ensures c.change_between.ensures.outside (c.requires.key (subst (λ o. IsSome o) (sym c.in-Some.is) refl)) in
    filled_some_at _ b c.in-Some.label old middle (tree.get unit_cmp c.overwrite.new.spans) c.unit-first.result c.after.result c.unit-last.result c.unit-first.ensures c.after.ensures c.unit-last.ensures
    (λ m r h. search rules) c.args.block.now.in_range c.change_between.ensures.inside c.change_between.ensures.outside (c.overwrite.ensures.puts some) q
    ∙ ap (λ o. filled b o old q) (sym c.in-Some.is)

pub returns-in-None-clause-filled : goal.returns-in-None-clause-filled
returns-in-None-clause-filled g c q =
    let b = c.args.block.now.raw in
    let old = tree.get unit_cmp c.args.spans.now in
    let new = tree.get unit_cmp c.change_between-in-None.new.spans in
    filled_none_at _ b old new c.unit-first.result c.unit-last.result c.unit-first.ensures c.unit-last.ensures (λ m r h. search rules)
    c.change_between-in-None.ensures.inside c.change_between-in-None.ensures.outside q
    ∙ ap (λ o. filled b o old q) (sym c.in-None.is)
