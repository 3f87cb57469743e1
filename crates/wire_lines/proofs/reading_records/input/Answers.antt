use Rattle.std.proofs.Common.{refl}
use Rattle.serde_json.specs.View.{view}
use Rattle.json_fields.proofs.Parts.{lacks_too}
use Rattle.status.specs.declared.moment.Moment.{Moment}
use Rattle.wire.specs.Records.{IsRecord}
use Rattle.wire.specs.declared.input.Input.TheVariants.{Received}
use Rattle.wire.specs.declared.message.Message.{Message}
use Rattle.wire.proofs.OneRecord.{received_word}
use Rattle.wire_lines.proofs.reading_records.input.Goals as goal

pub returns-in_err-message : goal.returns-in_err-message
returns-in_err-message c =
    let f = c.args.format in
    let d = view c.args.value.now in
    lacks_too (λ (p : Message × Moment). IsRecord f d (Received p.0 p.1)) (IsRecord f d) c.in_err-message.field-0.0 c.from_residual-in_err-message.result c.from_residual-in_err-message.ensures.1
    (received_word f d (c.if-has_text-2.ensures.0 refl)) c.in_err-message.ensures
