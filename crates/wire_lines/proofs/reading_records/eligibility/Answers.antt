use Rattle.std.proofs.Common.{codes, Bool}
use Rattle.serde_json.specs.Data.{string}
use Rattle.serde_json.specs.View.{view}
use Rattle.units.specs.Code.{code_text}
use Rattle.units.specs.declared.code.Code.{Code}
use Rattle.json_fields.specs.Fields.{HasAt}
use Rattle.json_fields.proofs.Parts.{reads_none_too}
use Rattle.wire.specs.Records.{IsRecord}
use Rattle.wire.specs.declared.input.Input.TheVariants.{Eligible}
use Rattle.wire_lines.proofs.reading_records.eligibility.Goals as goal

pub returns-in_err-registry : goal.returns-in_err-registry
returns-in_err-registry c =
    let d = view c.args.value.now in
    reads_none_too (λ (k : Code). HasAt d (codes "registry") (string (code_text k))) (λ (p : Code × Bool). IsRecord c.args.format d (Eligible p.0 p.1)) c.from_residual.result c.from_residual.ensures
    (λ p is. (p.0, is.1.1.1.0)) c.in_err-registry.ensures
