use Rattle.std.proofs.Common.{codes}
use Rattle.serde_json.specs.View.{view}
use Rattle.json_fields.specs.Fields.{HasList}
use Rattle.units.specs.Limits.{most_records}
use Rattle.scheme.specs.Grammar.{IsMember, IsWritten}
use Rattle.scheme.specs.Reading.{IsCount}
use Rattle.json_fields.proofs.Parts.{lacks_too, not_read_too}
use Rattle.scheme.proofs.grammar.written.Goals as goal

pub returns-in_err-records : goal.returns-in_err-records
returns-in_err-records c =
    let d = view c.args.value.now in
    not_read_too (IsCount (codes "records") most_records d) (λ p. IsWritten d p.0 p.1) c.count_at.result c.in_err-records.field-0.0 c.from_residual.result c.in_err-records.ensures.value c.from_residual.ensures.1
    (λ p is. (p.0, (is.records_at, is.some_records, is.few_records))) c.count_at.ensures

pub returns-in_err-members : goal.returns-in_err-members
returns-in_err-members c =
    let d = view c.args.value.now in
    lacks_too (HasList IsMember d (codes "registries")) (λ p. IsWritten d p.0 p.1) c.in_err-members.field-0.0 c.from_residual-in_err-members.result c.from_residual-in_err-members.ensures.1
    (λ p is. (p.1, is.registries)) c.in_err-members.ensures
