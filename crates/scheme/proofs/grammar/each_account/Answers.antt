use Rattle.json_fields.specs.Fields.{EachIs}
use Rattle.scheme.specs.Grammar.{IsAccount}
use Rattle.json_fields.proofs.Lists.{each_more, met_at}
use Rattle.json_fields.proofs.Parts.{not_read_too, read_so}
use Rattle.serde_json.specs.View.{view, items_view}
use Rattle.scheme.proofs.grammar.each_account.Goals as goal

pub returns-in_err-account : goal.returns-in_err-account
returns-in_err-account c =
    not_read_too (IsAccount (view c.value-item.result)) (EachIs IsAccount (items_view c.args.values.now)) c.account.result c.in_err-account.field-0.0 c.from_residual.result c.in_err-account.ensures.value c.from_residual.ensures.1
    (λ ys each. let m = met_at IsAccount c.args.values.now c.loop-value.value-index c.value-item.result ys c.loop-value-test.true c.value-item.is each in (m.here, m.is))
    c.account.ensures

pub loop-value-preserved : goal.loop-value-preserved
loop-value-preserved c =
    rw c.in_ok-push.ensures.items
    (each_more IsAccount c.args.values.now c.loop-value.value-index c.loop-value.accounts.items c.value-item.result c.in_ok-account.account c.loop-value-test.true c.value-item.is c.loop-value.invariant
    (read_so (IsAccount (view c.value-item.result)) c.account.result c.in_ok-account.account c.in_ok-account.ensures.value c.account.ensures))
