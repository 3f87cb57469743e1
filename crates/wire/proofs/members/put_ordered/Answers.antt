use Rattle.json_fields.proofs.Written.{array_put, then_ok}
use Rattle.wire.specs.Objects.{block_data}
use Rattle.wire.proofs.members.put_ordered.Goals as goal

pub returns : goal.returns
returns c =
    then_ok c.end_array.result (array_put c.args.key.now block_data c.args.ordered.now _ _ _ _ _ c.in_ok-key.ensures c.in_ok-begin_array.ensures c.in_ok-write_ordered.ensures) c.end_array.ensures
