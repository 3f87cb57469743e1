use Rattle.std.proofs.Common.{arith}
use Rattle.std.proofs.lemmas.Grind.{common_steps}
use Rattle.json_fields.specs.Fields.{EachIs}
use Rattle.wire.specs.Reading.{IsCodeItem}
use Rattle.json_fields.proofs.Lists.{each_more, met_at}
use Rattle.json_fields.proofs.Parts.{not_read_too, read_so}
use Rattle.serde_json.specs.View.{view, items_view}
use Rattle.wire_objects.proofs.lists.each_code.Goals as goal

pub returns-in_err-code : goal.returns-in_err-code
returns-in_err-code c =
    not_read_too (IsCodeItem (view c.value-item.result)) (EachIs IsCodeItem (items_view c.args.values.now)) c.code.result c.in_err-code.field-0.0 c.from_residual.result c.in_err-code.ensures.value c.from_residual.ensures.1
    (λ ys each. let m = met_at IsCodeItem c.args.values.now c.loop-value.value-index c.value-item.result ys c.loop-value-test.true c.value-item.is each in (m.here, m.is))
    c.code.ensures

pub loop-value-preserved : goal.loop-value-preserved
loop-value-preserved c =
    rw c.in_ok-push.ensures.items
    (each_more IsCodeItem c.args.values.now c.loop-value.value-index c.loop-value.codes.items c.value-item.result c.in_ok-code.code c.loop-value-test.true c.value-item.is c.loop-value.invariant
    (read_so (IsCodeItem (view c.value-item.result)) c.code.result c.in_ok-code.code c.in_ok-code.ensures.value c.code.ensures))

pub returns-in_err-push : goal.returns-in_err-push
returns-in_err-push c = grind (arith, common_steps)

pub returns : goal.returns
returns c = grind (arith, common_steps)
