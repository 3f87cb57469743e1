use Rattle.std.specs.BTreeMap as tree
use Rattle.units.specs.Keys.{unit_cmp}
use Rattle.units.proofs.SpanHalves.{begun_cut, restores_cut}
use Rattle.units.proofs.SpanPuts.{still_there, is_some_from}
use Rattle.units.proofs.unit_map.cutting.cut.Goals as goal

pub returns-clause-begun : goal.returns-clause-begun
returns-clause-begun g c given = begun_cut c.args.at c.args.unit c.args.span (tree.get unit_cmp c.args.spans.now) (tree.get unit_cmp c.insert.new.self) (tree.get unit_cmp c.overwrite.new.spans) c.requires.parted c.requires.there c.requires.within c.requires.absent c.in_ok-insert.ensures.updates.0 (c.overwrite.ensures.puts (still_there c.args.at c.args.unit c.args.span (tree.get unit_cmp c.args.spans.now) (tree.get unit_cmp c.insert.new.self) c.in_ok-insert.ensures.updates.0 (is_some_from (tree.get unit_cmp c.args.spans.now c.args.at) c.args.span c.requires.there))) given

pub returns-clause-undo : goal.returns-clause-undo
returns-clause-undo g c = restores_cut c.args.at c.args.unit c.args.span (tree.get unit_cmp c.args.spans.now) (tree.get unit_cmp c.insert.new.self) (tree.get unit_cmp c.overwrite.new.spans) c.requires.parted c.requires.there c.requires.within c.requires.absent c.in_ok-insert.ensures.updates.0 (c.overwrite.ensures.puts (still_there c.args.at c.args.unit c.args.span (tree.get unit_cmp c.args.spans.now) (tree.get unit_cmp c.insert.new.self) c.in_ok-insert.ensures.updates.0 (is_some_from (tree.get unit_cmp c.args.spans.now c.args.at) c.args.span c.requires.there)))
