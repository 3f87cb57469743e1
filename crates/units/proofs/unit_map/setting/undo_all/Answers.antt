use Rattle.std.proofs.Common.{subst}
use Rattle.std.specs.BTreeMap as tree
use Rattle.units.specs.Keys.{unit_cmp}
use Rattle.units.specs.SpanSteps.{ArePrepared}
use Rattle.units.proofs.SettingBlocks.{taken_back}
use Rattle.units.proofs.unit_map.setting.undo_all.Goals as goal

pub loop-newest-preserved : goal.loop-newest-preserved
loop-newest-preserved g c =
    let now = tree.get unit_cmp c.loop-newest.spans in
    record {
      prepared = λ before prepared.
          taken_back c.in-Some.newest c.pop_front.new.self.items before now (tree.get unit_cmp c.undo.new.spans) (tree.get unit_cmp c.undo-in-Some.new.spans)
          (subst (λ ps. ArePrepared ps before now) c.in-Some.ensures.items (c.loop-newest.invariant.prepared before prepared)) c.undo.ensures.restored c.undo-in-Some.ensures.restored;
      ordered = c.undo-in-Some.ensures.ordered;
    }
