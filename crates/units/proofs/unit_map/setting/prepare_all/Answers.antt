use Rattle.std.proofs.Common.{sym, ap, subst, ◌∙◌, arith}
use Rattle.std.specs.BTreeMap as tree
use Rattle.std.specs.List.{AllByRecursion}
use Rattle.std.specs.Map.{lookup}
use Rattle.std.proofs.lemmas.Map.Lookups.{btree_map_from_get}
use Rattle.units.specs.Keys.{unit_cmp}
use Rattle.units.specs.SpanSteps.{ArePrepared}
use Rattle.units.specs.Spans.{AreParted}
use Rattle.units.specs.declared.block.Unit.{Unit as Serial}
use Rattle.units.proofs.SettingBlocks.{blocks_of, prepared_next}
use Rattle.units.proofs.UnitKeys.{exact_units, units_total}
use Rattle.units.proofs.unit_map.setting.prepare_all.Goals as goal

pub loop-block-preserved : goal.loop-block-preserved
loop-block-preserved g c =
    let items = c.push_front_reserved.ensures.items in
    let newest = c.in-Ok.newest in
    let label = subst (λ r. g.F.Fn.post c.args.label.now (newest.block, tt) r) (sym c.in-Ok.ensures.label) (subst (λ b. g.F.Fn.post c.args.label.now (b, tt) c.label.result) (sym c.in-Ok.ensures.block) c.label.ensures) in
    record {
      count = omega arith;
      room = omega arith;
      prepared = subst (λ ps. ArePrepared ps (tree.get unit_cmp c.args.spans.now) (tree.get unit_cmp c.prepare.new.spans)) (sym items) (tree.get unit_cmp c.loop-block.spans, (c.loop-block.invariant.prepared, c.in-Ok.ensures.prepared));
      same_blocks = ap blocks_of items ∙ prepared_next c.args.blocks.now c.loop-block.block-index c.block-item.result newest c.loop-block.prepared.items c.loop-block-test.true c.block-item.is c.in-Ok.ensures.block c.loop-block.invariant.same_blocks;
      labels = subst (λ ps. AllByRecursion (λ p. g.F.Fn.post c.args.label.now (p.block, tt) p.label) ps) (sym items) (label, c.loop-block.invariant.labels);
      parted = c.in-Ok.ensures.prepared.prepared.parted;
      ordered = c.prepare.ensures.ordered;
    }

pub returns-in-Err-clause-parted : goal.returns-in-Err-clause-parted
returns-in-Err-clause-parted g c =
    let before = tree.get unit_cmp c.args.spans.now in
    let back = c.undo_all.ensures.restored before (subst (λ es. ArePrepared c.loop-block.prepared.items before (λ (q : Serial). lookup (tree.is_at (unit_cmp q)) es)) (sym c.in-Err.ensures.err) c.loop-block.invariant.prepared) in
    subst AreParted (λ i q. sym (back q) i) c.requires.parted

pub returns-in-Err-clause-err : goal.returns-in-Err-clause-err
returns-in-Err-clause-err g c =
    let before = tree.get unit_cmp c.args.spans.now in
    btree_map_from_get units_total c.undo_all.new.spans c.args.spans.now c.undo_all.ensures.ordered c.requires.ordered
    (c.undo_all.ensures.restored before (subst (λ es. ArePrepared c.loop-block.prepared.items before (λ (q : Serial). lookup (tree.is_at (unit_cmp q)) es)) (sym c.in-Err.ensures.err) c.loop-block.invariant.prepared)) exact_units
