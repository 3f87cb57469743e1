use Rattle.std.proofs.Common.{subst, arith}
use Rattle.std.specs.BTreeMap as tree
use Rattle.units.specs.Keys.{unit_cmp}
use Rattle.units.proofs.SettingBlocks.{AreSetting, all_prepared, next_key, filled_next, all_set, all_mean}
use Rattle.units.proofs.unit_map.setting.set_each.Goals as goal

pub loop-newest-init : goal.loop-newest-init
loop-newest-init g c = record {
  setting = all_prepared (λ b r. g.F.Fn.post c.args.label.now (b, tt) r) c.args.blocks.now c.requires.apart c.in_ok-prepared.prepared.items (tree.get unit_cmp c.args.spans.now) (tree.get unit_cmp c.prepare_all.new.spans)
      c.in_ok-prepared.ensures.same_blocks c.in_ok-prepared.ensures.prepared c.in_ok-prepared.ensures.labels c.prepare_all.ensures.parted;
  ordered = c.prepare_all.ensures.ordered;
}

pub fill-requires-clause-key : goal.fill-requires-clause-key
fill-requires-clause-key g c some =
    let old = tree.get unit_cmp c.args.spans.now in
    let now = tree.get unit_cmp c.loop-newest.spans in
    next_key (λ b r. g.F.Fn.post c.args.label.now (b, tt) r) c.args.blocks.now c.requires.apart c.in-Some.newest c.pop_front.new.self.items old now
    (subst (λ ps. AreSetting (λ b r. g.F.Fn.post c.args.label.now (b, tt) r) c.args.blocks.now ps old now) c.in-Some.ensures.items c.loop-newest.invariant.setting) some

pub loop-newest-preserved : goal.loop-newest-preserved
loop-newest-preserved g c =
    let old = tree.get unit_cmp c.args.spans.now in
    let now = tree.get unit_cmp c.loop-newest.spans in
    record {
      setting = filled_next (λ b r. g.F.Fn.post c.args.label.now (b, tt) r) c.args.blocks.now c.requires.apart c.in-Some.newest c.pop_front.new.self.items old now
          (subst (λ ps. AreSetting (λ b r. g.F.Fn.post c.args.label.now (b, tt) r) c.args.blocks.now ps old now) c.in-Some.ensures.items c.loop-newest.invariant.setting)
          (tree.get unit_cmp c.fill.new.spans) c.fill.ensures.filled;
      ordered = c.fill.ensures.ordered;
    }

pub returns-clause-set : goal.returns-clause-set
returns-clause-set g c =
    all_set (λ b r. g.F.Fn.post c.args.label.now (b, tt) r) c.args.blocks.now c.requires.apart c.loop-newest.prepared.items (tree.get unit_cmp c.args.spans.now) (tree.get unit_cmp c.loop-newest.spans)
    (omega (arith, c.in_default.ensures.cases.0)) c.loop-newest.invariant.setting

pub returns-clause-means : goal.returns-clause-means
returns-clause-means g c given gives =
    all_mean (λ b r. g.F.Fn.post c.args.label.now (b, tt) r) c.args.blocks.now c.requires.apart c.loop-newest.prepared.items (tree.get unit_cmp c.args.spans.now) (tree.get unit_cmp c.loop-newest.spans)
    (omega (arith, c.in_default.ensures.cases.0)) c.loop-newest.invariant.setting given gives
