use Rattle.std.proofs.Common.{codes}
use Rattle.serde_json.specs.Data.{string}
use Rattle.serde_json.specs.View.{view}
use Rattle.json_fields.specs.Fields.{HasAt}
use Rattle.json_fields.proofs.Parts.{lacks_too, not_read_too}
use Rattle.status.specs.Id.{id_text}
use Rattle.status.specs.declared.id.TransactionId.{TransactionId}
use Rattle.wire.specs.Messages.{IsMessage}
use Rattle.wire.specs.Reading.{HasBody}
use Rattle.wire.specs.declared.message.Message.{Message}
use Rattle.wire.proofs.OneMessage.{body_in, parties_in}
use Rattle.wire_objects.proofs.reading.message.Goals as goal

pub returns-in_err-id : goal.returns-in_err-id
returns-in_err-id c =
    let d = view c.args.value.now in
    not_read_too (λ (t : TransactionId). HasAt d (codes "transaction") (string (id_text t))) (IsMessage d) c.id_at.result c.in_err-id.field-0.0 c.from_residual-in_err-id.result c.in_err-id.ensures.value c.from_residual-in_err-id.ensures.1
    (λ (m : Message) is. (m.id, (parties_in d m is).transaction)) c.id_at.ensures

pub returns-in_err-body : goal.returns-in_err-body
returns-in_err-body c =
    let d = view c.args.value.now in
    lacks_too (HasBody d) (IsMessage d) c.in_err-body.field-0.0 c.from_residual-in_err-body.result c.from_residual-in_err-body.ensures.1 (λ (m : Message) is. (m.body, body_in d m is)) c.in_err-body.ensures
