use Rattle.std.proofs.Common.{rules, ◌≡◌, ℕ, true, Some, IsTrue}
use Rattle.std.specs.FinMap.{get}
use Rattle.std.specs.Option.{option_map}
use Rattle.std.proofs.lemmas.Bool.{OnTrue_from, MatchBool-at_true}
use Rattle.std.proofs.lemmas.Iterator.{cases_from_all, YieldsList-from_slice}
use Rattle.units.specs.Unit.{has_unit}
use Rattle.units.specs.declared.block.Block.{Block}
use Rattle.units.specs.declared.block.Unit.{Unit as Serial}
use Rattle.accounts.specs.Holdings.{HoldingsView}
use Rattle.accounts.specs.Refusals.{IsHeldAs}
use Rattle.accounts.proofs.Blocks.{all_at, covered}
use Rattle.accounts.proofs.Holding.{is_unreserved, free_from}
use Rattle.accounts.proofs.holdings.Holdings.holds_each_free.Goals as goal

abbrev is_whole : HoldingsView → ℕ → Block → Type 0
is_whole held account b =
    (s : Serial) → IsTrue (has_unit b.raw s) → IsHeldAs held account b.raw.kind s × (option_map is_unreserved (get held.unit_holdings s) ≡ Some true)

pub returns : goal.returns
returns c =
    let held = c.args.self.now in
    let blocks = c.args.blocks.now in
    let whole = is_whole held c.args.account in
    let cases = cases_from_all _ _ c.all.result whole (λ b. Unit {0}) c.all.ensures.ran (YieldsList-from_slice blocks cc) (λ x q k. search rules) (λ x q k. tt) in
    OnTrue_from c.all.result _ (λ e.
    let all = MatchBool-at_true _ _ e cases in (
      λ b s of. (all_at whole blocks all b of.among s of.has).0,
      λ s unit_holding h is. let b = covered blocks s h in free_from held s unit_holding (all_at whole blocks all b.0 b.1.among s b.1.has).1 is,
    ))
