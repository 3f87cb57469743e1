use Rattle.std.proofs.Common.{◌≡◌, ◌≢◌, Some, rules, IsTrue}
use Rattle.std.specs.FinMap.{get}
use Rattle.std.proofs.lemmas.Bool.{OnFalse_from, MatchBool-at_false}
use Rattle.std.proofs.lemmas.Iterator.{cases_from_all, YieldsList-from_slice}
use Rattle.units.specs.Unit.{has_unit}
use Rattle.units.specs.declared.block.Block.{Block}
use Rattle.units.specs.declared.block.Unit.{Unit as Serial}
use Rattle.units.proofs.BlockLists.{among}
use Rattle.units.proofs.block_set.BlockSet.holds_each.Goals as goal

pub returns-clause-lacking : goal.returns-clause-lacking
returns-clause-lacking c =
    let kinds = c.args.self.now in
    let blocks = c.args.blocks.now in
    let yes' = λ (b : Block). (u : Serial) → IsTrue (has_unit b.raw u) → get kinds u ≡ Some b.raw.kind in
    let no' = λ (b : Block). (u : Serial) × IsTrue (has_unit b.raw u) × (get kinds u ≢ Some b.raw.kind) in
    let cases = cases_from_all _ _ c.all.result yes' no' c.all.ensures.ran (YieldsList-from_slice blocks cc) (λ x q k. search rules) (λ x q k. search rules) in
    OnFalse_from c.all.result _ (λ e.
    let w = among no' blocks (MatchBool-at_false _ _ e cases) in
    (w.0, w.2.0, w.1, w.2.1, w.2.2))
