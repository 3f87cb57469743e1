use Rattle.std.proofs.Common.{true≢false, sym, ap, ◌∙◌, option_map}
use Rattle.serde_json.specs.View.{view}
use Rattle.json_fields.proofs.Parts.{read_some}
use Rattle.wire.proofs.OneRecord.{none_within}
use Rattle.wire_lines.proofs.reading_records.message_at.Goals as goal

pub returns-else-are_units_within : goal.returns-else-are_units_within
returns-else-are_units_within c =
    let at = sym (ap (option_map (λ v. view v.now)) (read_some c.value_at.result c.in_ok-inner.inner c.in_ok-inner.ensures.value) ∙ c.value_at.ensures) in
    none_within c.args.format (view c.args.value.now) (view c.in_ok-inner.inner.now) c.in_ok-message.message at c.in_ok-message.ensures
    (λ within. true≢false (sym (c.are_units_within.ensures.1 within) ∙ c.if-are_units_within.false))
