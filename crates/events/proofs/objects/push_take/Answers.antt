use Rattle.std.proofs.Common.{◌∙◌}
use Rattle.events.proofs.ObjectLines.{take_object}
use Rattle.events.proofs.objects.push_take.Goals as goal

pub returns : goal.returns
returns c =
    take_object c.args.node c.args.input.now _ _ c.args.text.now.items _ (c.as_slice.ensures.value ∙ c.in_ok-record.ensures.text) (c.as_bytes.ensures.value ∙ c.in_ok-last.ensures) c.in_ok-push_parts.ensures
