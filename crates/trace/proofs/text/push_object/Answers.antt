use Rattle.std.proofs.Common.{◌∙◌}
use Rattle.trace.proofs.RowLines.{object_line}
use Rattle.trace.proofs.text.push_object.Goals as goal

pub returns : goal.returns
returns c =
    object_line (record { node = c.args.node; place = c.args.place; input = c.args.input.now; status = c.args.status }) _ _ _ _ c.args.text.now.items _ (c.as_str.ensures.value ∙ c.in_ok-moment.ensures) (c.as_str-2.ensures.value ∙ c.in_ok-seat.ensures) (c.as_slice.ensures.value ∙ c.in_ok-record.ensures.text) (c.as_str-3.ensures.value ∙ c.in_ok-stands.ensures) c.in_ok-push_members.ensures
