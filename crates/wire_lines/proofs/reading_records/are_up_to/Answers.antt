use Rattle.std.proofs.Common.{rules, ◌≤◌, ◌<◌}
use Rattle.std.proofs.lemmas.Iterator.{cases_from_all, YieldsList-from_slice}
use borrow.Author.Tests.{tests}
use Rattle.units.specs.declared.block.Block.{Block}
use Rattle.wire.proofs.Within.{up_to_decided}
use Rattle.wire_lines.proofs.reading_records.are_up_to.Goals as goal

pub returns : goal.returns
returns c =
    let last = c.args.last in
    let blocks = c.args.blocks.now in
    up_to_decided last blocks c.all.result
    (cases_from_all _ _ c.all.result (λ (b : Block). b.raw.last ≤ last) (λ (b : Block). last < b.raw.last) c.all.ensures.ran (YieldsList-from_slice blocks cc) (λ x q k. search (rules, tests)) (λ x q k. search (rules, tests)))
