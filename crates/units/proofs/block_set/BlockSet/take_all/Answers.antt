use Rattle.std.proofs.Common.{None, ap, ◌∙◌, rules}
use Rattle.std.specs.Prelude.{if◌then◌else◌}
use Rattle.std.specs.FinMap.{get}
use Rattle.units.specs.Unit.{covers}
use Rattle.units.specs.declared.block.Block.{Block}
use Rattle.units.proofs.BlockLists.{none_of}
use Rattle.units.proofs.block_set.BlockSet.take_all.Goals as goal

pub returns-clause-ok : goal.returns-clause-ok
returns-clause-ok c u =
    let blocks = c.args.blocks.now in
    c.in_ok-set_all.ensures.ok (λ (b : Block). None) (λ b r h. search (rules, h)) u
    ∙ none_of blocks u (get c.self.inside.kinds u)
    ∙ ap (λ m. if covers blocks u then None else get m u) c.self.view_is
