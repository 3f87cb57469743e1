use Rattle.std.proofs.Common.{◌≤◌, ◌<◌, [], inr, refl, sym, ap, subst, ◌∙◌}
use Rattle.protocol.specs.Outgoing.{did}
use Rattle.protocol.specs.Verdict.{history, verdict}
use Rattle.records.specs.Sending.{Acknowledges}
use Rattle.protocol.proofs.TakenIntoRecords.{GivenUp, ack_again, ack_enters, ack_unknown, err_into, recorded_into, refused_into, repeat_into, room_enters, unfitting}
use Rattle.protocol.proofs.recording.acknowledge.Goals as goal

pub returns-then-sends-key : goal.returns-then-sends-key
returns-then-sends-key c = λ n are.
    let s = c.args.scheme.now in
    let was = c.args.records.now in
    let below = subst (λ m. m ≤ c.args.key.value) c.sends.ensures c.if-sends-key.true in
    refused_into s n was was c.args.input.now (record { code = 46 }) are refl (inr (ap (verdict s n (history s n was.inputs)) c.requires ∙ ack_unknown s n was are c.args.key below))

pub returns-then-is_acknowledged : goal.returns-then-is_acknowledged
returns-then-is_acknowledged c = λ n are.
    let s = c.args.scheme.now in
    let was = c.args.records.now in
    let above = subst (λ m. c.args.key.value < m) c.sends.ensures c.if-sends-key.false in
    repeat_into s n was c.args.input.now are (ap (verdict s n (history s n was.inputs)) c.requires ∙ ack_again s n was are c.args.key above (sym c.is_acknowledged.ensures ∙ c.if-is_acknowledged.true))

pub returns-in_err-place : goal.returns-in_err-place
returns-in_err-place c = λ n are.
    let s = c.args.scheme.now in
    let was = c.args.records.now in
    let i = c.args.input.now in
    let above = subst (λ m. c.args.key.value < m) c.sends.ensures c.if-sends-key.false in
    let enters = ap (verdict s n (history s n was.inputs)) c.requires ∙ ack_enters s n was are c.args.key above (sym c.is_acknowledged.ensures ∙ c.if-is_acknowledged.false) in
    err_into s n was _ i c.from_residual.result _ are c.in_err-place.ensures.0 c.from_residual.ensures.1
    (λ r e. subst (λ q. GivenUp s n was.inputs i q.code) (sym e) (unfitting s n was.inputs i [] c.in_err-place.field-0.0.code enters c.in_err-place.ensures.1))

pub returns : goal.returns
returns c = λ n are.
    let s = c.args.scheme.now in
    let was = c.args.records.now in
    let i = c.args.input.now in
    let above = subst (λ m. c.args.key.value < m) c.sends.ensures c.if-sends-key.false in
    let enters = ap (verdict s n (history s n was.inputs)) c.requires ∙ ack_enters s n was are c.args.key above (sym c.is_acknowledged.ensures ∙ c.if-is_acknowledged.false) in
    let admitted = c.in_ok-place.ensures in
    recorded_into s n was _ i [] (Acknowledges c.args.key.value) c.in_ok-place.place are (room_enters s n was.inputs i [] enters admitted.0) admitted.1 admitted.2 (ap (λ (j : _). did j []) c.requires)
