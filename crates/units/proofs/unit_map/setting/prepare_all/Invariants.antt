use Rattle.std.proofs.Common.{◌≡◌, ◌≤◌, length, take}
use Rattle.std.specs.BTreeMap as tree
use Rattle.std.specs.BTreeMap.{IsOrdered}
use Rattle.std.specs.List.{AllByRecursion}
use Rattle.std.specs.VecDeque.{deque_capacity, deque_len}
use Rattle.units.specs.Keys.{unit_cmp}
use Rattle.units.specs.SpanSteps.{ArePrepared}
use Rattle.units.specs.Spans.{AreParted}
use Rattle.units.proofs.SettingBlocks.{blocks_of}
use Rattle.units.proofs.unit_map.setting.prepare_all.Given as goal

-- the blocks so far are prepared, and there is room for the others
abbrev pub invariant-loop-block : goal.invariant-loop-block
invariant-loop-block g l = record {
  count : deque_len l.prepared ≡ l.block-index;
  room : length l.blocks ≤ deque_capacity l.prepared;
  prepared : ArePrepared l.prepared.items (tree.get unit_cmp l.fn.spans) (tree.get unit_cmp l.spans);
  same_blocks : blocks_of l.prepared.items ≡ take l.block-index l.blocks;
  labels : AllByRecursion (λ p. g.F.Fn.post l.label (p.block, tt) p.label) l.prepared.items;
  parted : AreParted (tree.get unit_cmp l.spans);
  ordered : IsOrdered unit_cmp l.spans;
}
