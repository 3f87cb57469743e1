use Rattle.std.proofs.Common.{None, sym, subst}
use Rattle.std.specs.BTreeMap as tree
use Rattle.std.specs.Map.{lookup}
use Rattle.std.proofs.lemmas.Map.Lookups.{btree_map_from_get}
use Rattle.units.specs.Keys.{unit_cmp}
use Rattle.units.specs.SpanSteps.{IsBegun, Restores}
use Rattle.units.specs.declared.block.Unit.{Unit as Serial}
use Rattle.units.proofs.SpanFills.{prepared}
use Rattle.units.proofs.UnitKeys.{exact_units, units_total}
use Rattle.units.proofs.unit_map.setting.prepare.Goals as goal

pub returns-in-Ok-clause-prepared : goal.returns-in-Ok-clause-prepared
returns-in-Ok-clause-prepared g c =
    let old = tree.get unit_cmp c.args.spans.now in
    let middle = tree.get unit_cmp c.begin.new.spans in
    let new = tree.get unit_cmp c.begin-2.new.spans in
    record {
      prepared = prepared c.args.block.now.raw c.args.label old middle new c.args.block.now.in_range
          (subst (λ u. IsBegun u c.args.label old middle) c.unit.ensures c.in_ok-first.ensures.begun)
          (subst (λ u. IsBegun u None middle new) c.unit-2.ensures c.in-Ok.ensures.begun);
      middle = middle;
      first = c.in_ok-first.ensures.undo;
      end = c.in-Ok.ensures.undo;
    }

pub returns-in-Err-clause-err : goal.returns-in-Err-clause-err
returns-in-Err-clause-err g c =
    let before = tree.get unit_cmp c.args.spans.now in
    btree_map_from_get units_total c.undo.new.spans c.args.spans.now c.undo.ensures.ordered c.requires.ordered
    (c.undo.ensures.restored before (subst (λ es. Restores c.in_ok-first.first before (λ (q : Serial). lookup (tree.is_at (unit_cmp q)) es)) (sym c.in-Err.ensures.err) c.in_ok-first.ensures.undo)) exact_units
