use Rattle.json_fields.specs.Fields.{EachIs}
use Rattle.scheme.specs.Grammar.{IsMember}
use Rattle.json_fields.proofs.Lists.{each_more, met_at}
use Rattle.json_fields.proofs.Parts.{lacks_too}
use Rattle.serde_json.specs.View.{view, items_view}
use Rattle.scheme.proofs.grammar.each_member.Goals as goal

pub returns-in_err-member : goal.returns-in_err-member
returns-in_err-member c =
    lacks_too (IsMember (view c.value-item.result)) (EachIs IsMember (items_view c.args.values.now)) c.in_err-member.field-0.0 c.from_residual.result c.from_residual.ensures.1
    (λ ys each. let m = met_at IsMember c.args.values.now c.loop-value.value-index c.value-item.result ys c.loop-value-test.true c.value-item.is each in (m.here, m.is))
    c.in_err-member.ensures

pub loop-value-preserved : goal.loop-value-preserved
loop-value-preserved c =
    rw c.in_ok-push.ensures.items
    (each_more IsMember c.args.values.now c.loop-value.value-index c.loop-value.members.items c.value-item.result c.in_ok-member.member c.loop-value-test.true c.value-item.is c.loop-value.invariant
    c.in_ok-member.ensures)
