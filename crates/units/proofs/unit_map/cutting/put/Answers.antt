use Rattle.std.specs.BTreeMap as tree
use Rattle.units.specs.Keys.{unit_cmp}
use Rattle.units.proofs.SpanCuts.{begun_put}
use Rattle.units.proofs.unit_map.cutting.put.Goals as goal

pub returns-clause-begun : goal.returns-clause-begun
returns-clause-begun g c = begun_put c.args.unit c.args.label (tree.get unit_cmp c.args.spans.now) (tree.get unit_cmp c.insert.new.self) c.requires.parted c.requires.range c.requires.absent c.requires.none c.in_ok-insert.ensures.updates.0
