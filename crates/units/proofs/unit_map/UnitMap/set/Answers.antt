use Rattle.std.proofs.Common.{◌≡◌, Bool, true, false, Option, Some, None, cond, refl, rules, ◌∙◌}
use Rattle.std.specs.FinMap.{get}
use Rattle.std.specs.Option.{option_map_or}
use Rattle.std.proofs.lemmas.Result.{on_ok_weaker}
use Rattle.units.specs.Unit.{has_unit}
use Rattle.units.specs.declared.block.Block.{Block}
use Rattle.units.proofs.unit_map.UnitMap.set.Goals as goal

-- one block alone
one_block : {M : Type 0} (t : Bool) (b : Block) (label o : Option M) → option_map_or (λ (x : Block). label) (cond t (Some b) None) o ≡ cond t label o
one_block true b label o = refl
one_block false b label o = refl

pub returns-clause-ok : goal.returns-clause-ok
returns-clause-ok g c =
    on_ok_weaker c.set_all.result (λ f u. f u ∙ one_block (has_unit c.args.block.now.raw u) c.args.block.now c.args.label (get c.args.self.now u))
    (c.set_all.ensures.ok (λ b. c.args.label) (λ b r h. search rules))
