use Rattle.std.proofs.Common.{◌++◌, ap, ◌∙◌}
use Rattle.json_fields.proofs.Written.{array_put, then_ok}
use Rattle.status.specs.Content.{raws}
use Rattle.wire.specs.Objects.{block_data}
use Rattle.wire.proofs.Items.{raws_tokens}
use Rattle.wire.proofs.members.put_blocks.Goals as goal

pub returns : goal.returns
returns c =
    let written = c.in_ok-write_blocks.ensures ∙ ap (λ ts. c.begin_array.new.self ++ ts) (raws_tokens c.args.held.now) in
    then_ok c.end_array.result (array_put c.args.key.now block_data (raws c.args.held.now) _ _ _ _ _ c.in_ok-key.ensures c.in_ok-begin_array.ensures written) c.end_array.ensures
