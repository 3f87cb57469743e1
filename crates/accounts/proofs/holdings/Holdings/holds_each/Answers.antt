use Rattle.std.proofs.Common.{rules, IsTrue}
use Rattle.std.proofs.lemmas.Bool.{OnFalse_from, MatchBool-at_false}
use Rattle.std.proofs.lemmas.Iterator.{cases_from_all, YieldsList-from_slice}
use Rattle.units.specs.Unit.{has_unit}
use Rattle.units.specs.declared.block.Block.{Block}
use Rattle.units.specs.declared.block.Unit.{Unit as Serial}
use Rattle.accounts.specs.Refusals.{IsHeldAs}
use Rattle.units.proofs.BlockLists.{among}
use Rattle.accounts.proofs.holdings.Holdings.holds_each.Goals as goal

pub returns-clause-lacking : goal.returns-clause-lacking
returns-clause-lacking c =
    let held = c.args.self.now in
    let account = c.args.account in
    let blocks = c.args.blocks.now in
    let yes' = λ (b : Block). (s : Serial) → IsTrue (has_unit b.raw s) → IsHeldAs held account b.raw.kind s in
    let no' = λ (b : Block). (s : Serial) × IsTrue (has_unit b.raw s) × (IsHeldAs held account b.raw.kind s → ⊥) in
    let cases = cases_from_all _ _ c.all.result yes' no' c.all.ensures.ran (YieldsList-from_slice blocks cc) (λ x q k. search rules) (λ x q k. search rules) in
    OnFalse_from c.all.result _ (λ e.
    let w = among no' blocks (MatchBool-at_false _ _ e cases) in
    record { block = w.0; unit = w.2.0; of = record { among = w.1; has = w.2.1 }; lacks = w.2.2 })
