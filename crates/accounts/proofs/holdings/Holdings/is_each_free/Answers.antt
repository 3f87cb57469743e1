use Rattle.std.proofs.Common.{rules, ◌≡◌, ◌≢◌, true, Some, IsTrue}
use Rattle.std.specs.FinMap.{get}
use Rattle.std.specs.Option.{option_map}
use Rattle.std.proofs.lemmas.Bool.{OnTrue_from, OnFalse_from, MatchBool-at_true, MatchBool-at_false}
use Rattle.std.proofs.lemmas.Iterator.{cases_from_all, YieldsList-from_slice}
use Rattle.units.specs.Unit.{has_unit}
use Rattle.units.specs.declared.block.Block.{Block}
use Rattle.units.specs.declared.block.Unit.{Unit as Serial}
use Rattle.accounts.specs.Holdings.{HoldingsView}
use Rattle.units.proofs.BlockLists.{among}
use Rattle.accounts.proofs.Blocks.{all_at, covered, covers_from}
use Rattle.accounts.proofs.Holding.{is_unreserved, free_from}
use Rattle.accounts.proofs.holdings.Holdings.is_each_free.Goals as goal

abbrev are_free : HoldingsView → Block → Type 0
are_free held b = (s : Serial) → IsTrue (has_unit b.raw s) → option_map is_unreserved (get held.unit_holdings s) ≡ Some true

abbrev is_lacking : HoldingsView → Block → Type 0
is_lacking held b = (s : Serial) × IsTrue (has_unit b.raw s) × (option_map is_unreserved (get held.unit_holdings s) ≢ Some true)

pub returns-clause-all : goal.returns-clause-all
returns-clause-all c =
    let held = c.args.self.now in
    let blocks = c.args.blocks.now in
    let cases = cases_from_all _ _ c.all.result (are_free held) (is_lacking held) c.all.ensures.ran (YieldsList-from_slice blocks cc) (λ x q k. search rules) (λ x q k. search rules) in
    OnTrue_from c.all.result _ (λ e s unit_holding h is.
    let b = covered blocks s h in
    free_from held s unit_holding (all_at (are_free held) blocks (MatchBool-at_true _ _ e cases) b.0 b.1.among s b.1.has) is)

pub returns-clause-lacking : goal.returns-clause-lacking
returns-clause-lacking c =
    let held = c.args.self.now in
    let blocks = c.args.blocks.now in
    let cases = cases_from_all _ _ c.all.result (are_free held) (is_lacking held) c.all.ensures.ran (YieldsList-from_slice blocks cc) (λ x q k. search rules) (λ x q k. search rules) in
    OnFalse_from c.all.result _ (λ e.
    let w = among (is_lacking held) blocks (MatchBool-at_false _ _ e cases) in
    (w.2.0, covers_from blocks w.0 w.2.0 w.1 w.2.1, w.2.2))
