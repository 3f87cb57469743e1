use Rattle.std.proofs.Common.{arith}
use Rattle.std.proofs.lemmas.Grind.{elements}
use Rattle.json_fields.specs.Fields.{EachIs}
use Rattle.wire.specs.Reading.{IsBlockItem}
use Rattle.json_fields.proofs.Lists.{each_more, met_at}
use Rattle.json_fields.proofs.Parts.{not_read_too, read_so}
use Rattle.serde_json.specs.View.{view, items_view}
use Rattle.wire_objects.proofs.lists.each_block.Goals as goal

pub returns-in_err-block : goal.returns-in_err-block
returns-in_err-block c =
    not_read_too (IsBlockItem (view c.value-item.result)) (EachIs IsBlockItem (items_view c.args.values.now)) c.block.result c.in_err-block.field-0.0 c.from_residual.result c.in_err-block.ensures.value c.from_residual.ensures.1
    (λ ys each. let m = met_at IsBlockItem c.args.values.now c.loop-value.value-index c.value-item.result ys c.loop-value-test.true c.value-item.is each in (m.here, m.is))
    c.block.ensures

pub loop-value-preserved : goal.loop-value-preserved
loop-value-preserved c =
    rw c.in_ok-push.ensures.items
    (each_more IsBlockItem c.args.values.now c.loop-value.value-index c.loop-value.blocks.items c.value-item.result c.in_ok-block.block c.loop-value-test.true c.value-item.is c.loop-value.invariant
    (read_so (IsBlockItem (view c.value-item.result)) c.block.result c.in_ok-block.block c.in_ok-block.ensures.value c.block.ensures))

pub returns : goal.returns
returns c = grind (arith, elements)
