use Rattle.std.proofs.Common.{◌∙◌, ◌++◌, ap, string_bytes}
use Rattle.std.specs.List.{flat_map}
use Rattle.audit.specs.Cuts.{rest_lines}
use Rattle.audit.proofs.CutTexts.{cut_text}
use Rattle.audit.proofs.cutting.text_of_cut.Goals as goal

pub returns : goal.returns
returns c scheme journals is =
    let cut = c.args.cut.now in
    cut_text c.args.form scheme journals cut _ _ _ is c.new-text.ensures.bytes (c.in_ok-push_table.ensures.safe scheme cut.events.items is.world)
    (c.in_ok-push_rests.ensures ∙ ap (λ rests. string_bytes c.push_table.new.text ++ flat_map (rest_lines c.args.form) rests) c.as_slice.ensures.value)
