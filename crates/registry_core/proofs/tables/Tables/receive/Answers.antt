use Rattle.std.proofs.Common.{inr, sym, ap, ◌∙◌}
use Rattle.units.specs.declared.code.Node.TheVariants.{Registry}
use Rattle.wire.specs.declared.input.Input.TheVariants.{Received}
use Rattle.wire.specs.declared.message.Body.TheVariants.{Request}
use Rattle.protocol.proofs.MessageForms.{has_body, request_with}
use Rattle.protocol.specs.Verdict.{history}
use Rattle.checks.specs.Refusing.{first_of}
use Rattle.protocol.specs.AtRegistry.{registry_refusals}
use Rattle.registry_core.specs.Taking.{verdict_by_rules}
use Rattle.registry_core.proofs.DecidedInputs.{message_refused, request_refused}
use Rattle.registry_core.proofs.TakenInputs.{are_same, takes_refused}
use Rattle.registry_core.proofs.tables.Tables.receive.Goals as goal

pub returns-in-Some : goal.returns-in-Some
returns-in-Some c =
    let s = c.args.self.now.scheme in
    let k = c.args.self.now.code in
    let was = c.args.self.now in
    let i = c.args.input.now in
    let kept = c.requires.kept in
    let es = history s (Registry k) was.records.inputs in
    let first = c.message_refusal.ensures es kept.kept.own kept.kept.foreign in
    takes_refused s k was was i (record { code = c.in-Some.refused }) kept (are_same was)
    (inr (ap (verdict_by_rules s k was) c.requires.input.1 ∙ message_refused s k was kept c.args.message.now c.requires.input.0 c.in-Some.refused (sym first ∙ c.in-Some.is)))

pub arrive-requires-clause-welcome : goal.arrive-requires-clause-welcome
arrive-requires-clause-welcome c =
    let s = c.args.self.now.scheme in
    let k = c.args.self.now.code in
    let was = c.args.self.now in
    let i = c.args.input.now in
    let kept = c.requires.kept in
    let es = history s (Registry k) was.records.inputs in
    let first = c.message_refusal.ensures es kept.kept.own kept.kept.foreign in
    sym first ∙ c.in_default.is

pub take_notification-requires-clause-welcome : goal.take_notification-requires-clause-welcome
take_notification-requires-clause-welcome c =
    let s = c.args.self.now.scheme in
    let k = c.args.self.now.code in
    let was = c.args.self.now in
    let i = c.args.input.now in
    let kept = c.requires.kept in
    let es = history s (Registry k) was.records.inputs in
    let first = c.message_refusal.ensures es kept.kept.own kept.kept.foreign in
    sym first ∙ c.in_default.is

pub returns-in-Request : goal.returns-in-Request
returns-in-Request c =
    let s = c.args.self.now.scheme in
    let k = c.args.self.now.code in
    let was = c.args.self.now in
    let i = c.args.input.now in
    let kept = c.requires.kept in
    let es = history s (Registry k) was.records.inputs in
    let first = c.message_refusal.ensures es kept.kept.own kept.kept.foreign in
    let m = c.args.message.now in
    let asks = has_body m Request c.in-Request.is in
    takes_refused s k was was i (record { code = 46 }) kept (are_same was) (inr (ap (verdict_by_rules s k was) (c.requires.input.1 ∙ ap (λ m. Received m c.requires.input.0) asks)
    ∙ request_refused s k was kept (request_with m) c.requires.input.0 (ap (λ m. first_of (registry_refusals k es m)) (sym asks) ∙ sym first ∙ c.in_default.is)))
