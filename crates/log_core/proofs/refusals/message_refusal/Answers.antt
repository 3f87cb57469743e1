use Rattle.std.proofs.Common.{not, sym, ap, ◌∙◌}
use Rattle.std.proofs.lemmas.Bool.{cond-false}
use Rattle.units.specs.Code.{same_node}
use Rattle.units.specs.declared.code.Node.TheVariants.{Itl}
use Rattle.wire.specs.declared.message.Body.{Body}
use Rattle.protocol.specs.AtLog.{is_no_registry, log_body_refusals}
use Rattle.checks.specs.Refusing.{first_of}
use Rattle.log_core.proofs.refusals.message_refusal.Goals as goal

pub returns-in-Request : goal.returns-in-Request
returns-in-Request c es known =
    let m = c.args.message.now in
    c.request_refusal.ensures es
    ∙ ap (λ (b : Body). first_of (log_body_refusals es m.from m.id b)) (sym c.in-Request.is)
    ∙ sym (cond-false (is_no_registry c.args.scheme.now m.from) _ _ (sym c.is_no_registry.ensures ∙ c.if-is_no_registry.false))
    ∙ sym (cond-false (not (same_node m.to Itl)) _ _ (ap not (sym c.is_log.ensures ∙ c.if-not-is_log.false)))
