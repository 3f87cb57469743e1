use Rattle.std.proofs.Common.{length}
use Rattle.std.specs.BTreeMap as tree
use Rattle.std.specs.BTreeMap.{IsOrdered}
use Rattle.units.specs.Keys.{unit_cmp}
use Rattle.units.proofs.SettingBlocks.{AreSetting}
use Rattle.units.proofs.unit_map.setting.set_each.Given as goal

abbrev pub decreases-loop-newest : goal.decreases-loop-newest
decreases-loop-newest g l = length l.prepared.items

-- the newest blocks are filled
abbrev pub invariant-loop-newest : goal.invariant-loop-newest
invariant-loop-newest g l = record {
  setting : AreSetting (λ b r. g.F.Fn.post l.label (b, tt) r) l.blocks l.prepared.items (tree.get unit_cmp l.fn.spans) (tree.get unit_cmp l.spans);
  ordered : IsOrdered unit_cmp l.spans;
}
