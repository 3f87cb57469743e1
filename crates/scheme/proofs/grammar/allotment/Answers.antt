use Rattle.std.proofs.Common.{codes}
use Rattle.serde_json.specs.View.{view}
use Rattle.json_fields.specs.Fields.{HasList}
use Rattle.units.specs.Limits.{last_account}
use Rattle.scheme.specs.Grammar.{IsBlock, IsAllotment}
use Rattle.scheme.specs.Reading.{IsCount}
use Rattle.json_fields.proofs.Parts.{lacks_too, not_read_too}
use Rattle.scheme.proofs.grammar.allotment.Goals as goal

pub returns-in_err-account : goal.returns-in_err-account
returns-in_err-account c =
    let d = view c.args.value.now in
    not_read_too (IsCount (codes "account") last_account d) (IsAllotment d) c.count_at.result c.in_err-account.field-0.0 c.from_residual.result c.in_err-account.ensures.value c.from_residual.ensures.1
    (λ a is. (a.account, (is.account, is.from_one, is.to_last))) c.count_at.ensures

pub returns-in_err-units : goal.returns-in_err-units
returns-in_err-units c =
    let d = view c.args.value.now in
    lacks_too (HasList IsBlock d (codes "units")) (IsAllotment d) c.in_err-units.field-0.0 c.from_residual-in_err-units.result c.from_residual-in_err-units.ensures.1 (λ a is. (a.units, is.units))
    c.in_err-units.ensures
