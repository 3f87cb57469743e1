use Rattle.std.proofs.Common.{ap, ◌∙◌}
use Rattle.serde_json.specs.View.{view}
use Rattle.serde_json.specs.Data.{string}
use Rattle.units.specs.Block.{raw_text}
use Rattle.json_fields.proofs.BlockTexts.{block_reads}
use Rattle.wire.specs.Reading.{IsBlockItem}
use Rattle.wire.proofs.Items.{own_text}
use Rattle.wire_objects.proofs.lists.block.Goals as goal

pub returns : goal.returns
returns c =
    let d = view c.args.value.now in
    rw c.ok.ensures.value
    (block_reads (IsBlockItem d) d c.in_ok-text.text.now c.read.result (λ b is. (raw_text b.raw, is, own_text b.raw b.in_range)) (λ b is t. is ∙ ap string t.spelled) c.in_ok-text.ensures c.read.ensures.ok
    c.read.ensures.shape c.read.ensures.range)
