use Rattle.std.proofs.Common.{rules, ◌≡◌, find, Option, Some, None, refl, ◌∙◌}
use Rattle.std.specs.FinMap.{get}
use Rattle.std.specs.Option.{option_map, option_map_or, option_or}
use Rattle.std.proofs.lemmas.Result.{on_ok_weaker}
use Rattle.units.specs.Unit.{has_unit}
use Rattle.units.specs.declared.block.Block.{Block}
use Rattle.units.specs.declared.block.Kind.{Kind}
use Rattle.accounts.specs.Tables.{unit_holding_in}
use Rattle.accounts.specs.declared.unit_holding.UnitHolding.{UnitHolding}
use Rattle.accounts.proofs.holdings.set_unit_holdings.Goals as goal

by_kind : (f : Kind → UnitHolding) (b : Option Block) (o : Option UnitHolding) → option_map_or (λ (c : Block). Some (f c.raw.kind)) b o ≡ option_or (option_map f (option_map (λ (c : Block). c.raw.kind) b)) o
by_kind f None o = refl
by_kind f (Some b) o = refl

pub returns-clause-ok : goal.returns-clause-ok
returns-clause-ok c =
    let unit_holding = unit_holding_in c.args.account c.args.reserving in
    let all = c.set_all.ensures.ok (λ (b : Block). Some (unit_holding b.raw.kind)) (λ b r h. search (rules, h)) in
    on_ok_weaker c.set_all.result (λ h s. h s ∙ by_kind unit_holding (find (λ (b : Block). has_unit b.raw s) c.args.blocks.now) (get c.args.unit_holdings.now s)) all
