use Rattle.std.proofs.Common.{codes, refl, Bool}
use Rattle.serde_json.specs.View.{view}
use Rattle.json_fields.proofs.Parts.{reads_none_too}
use Rattle.units.specs.declared.code.Code.{Code}
use Rattle.status.specs.declared.id.TransactionId.{TransactionId}
use Rattle.status.specs.declared.moment.Moment.{Moment}
use Rattle.wire.specs.Reading.{IsAccountOrder}
use Rattle.wire.specs.Records.{IsRecord}
use Rattle.wire.specs.declared.input.Input.TheVariants.{Request, Ack, CleanUp, Eligible}
use Rattle.wire.specs.declared.input.Number.{Number}
use Rattle.wire.proofs.OneRecord.{ack_word, clean_up_word, close_word, eligible_word, open_word, request_word}
use Rattle.wire_lines.proofs.reading_records.small_input.Goals as goal

pub returns-in_err-registry : goal.returns-in_err-registry
returns-in_err-registry c =
    let f = c.args.format in
    let d = view c.args.value.now in
    reads_none_too (λ (p : Code × Bool). IsRecord f d (Eligible p.0 p.1)) (IsRecord f d) c.from_residual-in_err-registry.result c.from_residual-in_err-registry.ensures (eligible_word f d (c.if-has_text-5.ensures.0 refl))
    c.in_err-registry.ensures

pub returns-in_err-account_order : goal.returns-in_err-account_order
returns-in_err-account_order c =
    let f = c.args.format in
    let d = view c.args.value.now in
    reads_none_too (IsAccountOrder f d (codes "open")) (IsRecord f d) c.from_residual.result c.from_residual.ensures (open_word f d (c.if-has_text.ensures.0 refl)) c.in_err-account_order.ensures

pub returns-in_err-account_order-2 : goal.returns-in_err-account_order-2
returns-in_err-account_order-2 c =
    let f = c.args.format in
    let d = view c.args.value.now in
    reads_none_too (IsAccountOrder f d (codes "close")) (IsRecord f d) c.from_residual-in_err-account_order-2.result c.from_residual-in_err-account_order-2.ensures (close_word f d (c.if-has_text-2.ensures.0 refl))
    c.in_err-account_order-2.ensures

pub returns-in_err-acknowledgement : goal.returns-in_err-acknowledgement
returns-in_err-acknowledgement c =
    let f = c.args.format in
    let d = view c.args.value.now in
    reads_none_too (λ (n : Number). IsRecord f d (Ack n)) (IsRecord f d) c.from_residual-in_err-acknowledgement.result c.from_residual-in_err-acknowledgement.ensures (ack_word f d (c.if-has_text-3.ensures.0 refl))
    c.in_err-acknowledgement.ensures

pub returns-in_err-clean_up : goal.returns-in_err-clean_up
returns-in_err-clean_up c =
    let f = c.args.format in
    let d = view c.args.value.now in
    reads_none_too (λ (t : Moment). IsRecord f d (CleanUp t)) (IsRecord f d) c.from_residual-in_err-clean_up.result c.from_residual-in_err-clean_up.ensures (clean_up_word f d (c.if-has_text-4.ensures.0 refl))
    c.in_err-clean_up.ensures

pub returns-in_err-request_order : goal.returns-in_err-request_order
returns-in_err-request_order c =
    let f = c.args.format in
    let d = view c.args.value.now in
    reads_none_too (λ (t : TransactionId). IsRecord f d (Request t)) (IsRecord f d) c.from_residual-in_err-request_order.result c.from_residual-in_err-request_order.ensures (request_word f d (c.if-has_text-6.ensures.0 refl))
    c.in_err-request_order.ensures
