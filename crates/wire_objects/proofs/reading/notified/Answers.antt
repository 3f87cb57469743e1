use Rattle.std.proofs.Common.{ℕ, ◌<◌, ◌^◌, List, ◌∙◌, ap, codes, option_map}
use Rattle.std.specs.List.{AllByRecursion}
use Rattle.serde_json.specs.View.{view}
use Rattle.json_fields.specs.Fields.{HasAt}
use Rattle.json_fields.proofs.Parts.{lacks_too, read_some}
use Rattle.wire.specs.NotifiedStatuses.{notified_codes}
use Rattle.wire.specs.Objects.{numbers}
use Rattle.wire.specs.Reading.{HasNotified}
use Rattle.wire.proofs.Told.{own_codes, notified_found}
use Rattle.wire_objects.proofs.reading.notified.Goals as goal

pub returns-in_err-codes : goal.returns-in_err-codes
returns-in_err-codes c =
    let d = view c.args.value.now in
    lacks_too (λ (cs : List ℕ). HasAt d (codes "codes") (numbers cs) × AllByRecursion (λ n. n < 2 ^ 16) cs) (HasNotified d) c.in_err-codes.field-0.0 c.from_residual.result c.from_residual.ensures.1
    (λ n h. (notified_codes n, (h.0, own_codes n h.2))) c.in_err-codes.ensures

pub returns : goal.returns
returns c =
    rw c.ok_or-2.ensures.value
    (notified_found (view c.args.value.now) c.in_ok-text.text.now c.in_ok-codes.codes c.notified_of.result
    (ap (option_map (λ s. s.now)) (read_some c.text_at.result c.in_ok-text.text c.in_ok-text.ensures.value) ∙ c.text_at.ensures) c.in_ok-codes.ensures.0 c.notified_of.ensures.some c.notified_of.ensures.none)
