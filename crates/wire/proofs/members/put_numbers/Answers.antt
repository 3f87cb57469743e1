use Rattle.json_fields.proofs.Written.{array_put, then_ok}
use Rattle.json_fields.specs.Objects.{whole}
use Rattle.wire.proofs.members.put_numbers.Goals as goal

pub returns : goal.returns
returns c =
    then_ok c.end_array.result (array_put c.args.key.now whole c.args.codes.now _ _ _ _ _ c.in_ok-key.ensures c.in_ok-begin_array.ensures c.in_ok-write_numbers.ensures) c.end_array.ensures
