use Rattle.std.proofs.Common.{ap, ◌∙◌, Some, option_map}
use Rattle.serde_json.specs.View.{view, items_view}
use Rattle.json_fields.proofs.Parts.{read_some}
use Rattle.wire.proofs.Items.{listed_codes}
use Rattle.wire_objects.proofs.lists.codes.Goals as goal

pub returns : goal.returns
returns c =
    listed_codes (view c.args.value.now) (items_view c.as_slice.result.now) c.each_code.result (ap (λ vs. Some (items_view vs)) c.as_slice.ensures.value ∙ ap (option_map (λ vs. items_view vs.now.items)) (read_some c.list_at.result c.in_ok-list.list c.in_ok-list.ensures.value) ∙ c.list_at.ensures) c.each_code.ensures
