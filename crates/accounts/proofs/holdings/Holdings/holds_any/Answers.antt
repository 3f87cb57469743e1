use Rattle.std.proofs.Common.{rules, ◌≡◌, None, IsTrue, IsSome}
use Rattle.std.specs.FinMap.{get}
use Rattle.std.proofs.lemmas.Bool.{OnTrue_from, OnFalse_from, MatchBool-at_true, MatchBool-at_false}
use Rattle.std.proofs.lemmas.Iterator.{cases_from_any, YieldsList-from_slice}
use Rattle.units.specs.Unit.{has_unit}
use Rattle.units.specs.declared.block.Block.{Block}
use Rattle.units.specs.declared.block.Unit.{Unit as Serial}
use Rattle.accounts.specs.Holdings.{HoldingsView}
use Rattle.units.proofs.BlockLists.{among}
use Rattle.accounts.proofs.Blocks.{all_at, covered, covers_from}
use Rattle.accounts.proofs.holdings.Holdings.holds_any.Goals as goal

abbrev are_absent : HoldingsView → Block → Type 0
are_absent held b = (s : Serial) → IsTrue (has_unit b.raw s) → get held.unit_holdings s ≡ None

abbrev is_there : HoldingsView → Block → Type 0
is_there held b = (s : Serial) × IsTrue (has_unit b.raw s) × IsSome (get held.unit_holdings s)

pub returns-clause-some : goal.returns-clause-some
returns-clause-some c =
    let held = c.args.self.now in
    let blocks = c.args.blocks.now in
    let cases = cases_from_any _ _ c.any.result (is_there held) (are_absent held) c.any.ensures.ran (YieldsList-from_slice blocks cc) (λ x q k. search rules) (λ x q k. search rules) in
    OnTrue_from c.any.result _ (λ e.
    let w = among (is_there held) blocks (MatchBool-at_true _ _ e cases) in
    (w.2.0, covers_from blocks w.0 w.2.0 w.1 w.2.1, w.2.2))

pub returns-clause-none : goal.returns-clause-none
returns-clause-none c =
    let held = c.args.self.now in
    let blocks = c.args.blocks.now in
    let cases = cases_from_any _ _ c.any.result (is_there held) (are_absent held) c.any.ensures.ran (YieldsList-from_slice blocks cc) (λ x q k. search rules) (λ x q k. search rules) in
    OnFalse_from c.any.result _ (λ e s h.
    let b = covered blocks s h in
    all_at (are_absent held) blocks (MatchBool-at_false _ _ e cases) b.0 b.1.among s b.1.has)
