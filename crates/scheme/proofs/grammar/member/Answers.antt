use Rattle.std.proofs.Common.{codes}
use Rattle.serde_json.specs.View.{view}
use Rattle.json_fields.specs.Fields.{HasList}
use Rattle.scheme.specs.Grammar.{IsAccount, IsAllotment, IsMember}
use Rattle.scheme.specs.Reading.{AreKinds}
use Rattle.json_fields.proofs.Parts.{lacks_too}
use Rattle.scheme.proofs.grammar.member.Goals as goal

pub returns-in_err-accounts : goal.returns-in_err-accounts
returns-in_err-accounts c =
    let d = view c.args.value.now in
    lacks_too (HasList IsAccount d (codes "accounts")) (IsMember d) c.in_err-accounts.field-0.0 c.from_residual-in_err-accounts.result c.from_residual-in_err-accounts.ensures.1
    (λ m is. (m.accounts, is.accounts)) c.in_err-accounts.ensures

pub returns-in_err-allotted : goal.returns-in_err-allotted
returns-in_err-allotted c =
    let d = view c.args.value.now in
    lacks_too (HasList IsAllotment d (codes "allotted")) (IsMember d) c.in_err-allotted.field-0.0 c.from_residual-in_err-allotted.result c.from_residual-in_err-allotted.ensures.1
    (λ m is. (m.allotted, is.allotted)) c.in_err-allotted.ensures

pub returns-in_err-kinds : goal.returns-in_err-kinds
returns-in_err-kinds c =
    let d = view c.args.value.now in
    lacks_too (AreKinds d) (IsMember d) c.in_err-kinds.field-0.0 c.from_residual-in_err-kinds.result c.from_residual-in_err-kinds.ensures.1 (λ m is. (m.kinds, (is.kinds, is.no_twins))) c.in_err-kinds.ensures
