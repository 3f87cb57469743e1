use Rattle.std.proofs.Common.{rules, sym, ◌∙◌}
use Rattle.serde_json.specs.View.{view}
use Rattle.json_fields.specs.Fields.{HasKeys}
use Rattle.wire.proofs.ReplyTexts.{is_received, is_refused}
use Rattle.wire.proofs.reply.reply_in.Goals as goal

pub returns-then-eq-clause-some : goal.returns-then-eq-clause-some
returns-then-eq-clause-some c =
    let keys : HasKeys (view c.args.value.now) 2 = search rules in
    is_received (view c.args.value.now) c.in_ok-result.result.now c.in_ok-code.code keys (sym c.in_ok-code.ensures) (sym c.in_ok-result.ensures) c.if-code-eq0.true (sym c.eq.ensures ∙ c.if-eq.true)

pub returns-clause-some : goal.returns-clause-some
returns-clause-some c =
    let keys : HasKeys (view c.args.value.now) 2 = search rules in
    is_refused (view c.args.value.now) c.in_ok-result.result.now c.in_ok-code.code c.in_ok-code-2.code keys (sym c.in_ok-code.ensures) (sym c.in_ok-result.ensures) c.in_ok-code-2.ensures.some (sym c.ne.ensures ∙ c.if-ne.false)
