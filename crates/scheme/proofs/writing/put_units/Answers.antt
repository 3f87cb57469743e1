use Rattle.std.proofs.Common.{codes}
use Rattle.json_fields.proofs.Written.{array_put, then_ok}
use Rattle.scheme.specs.Written.{block_data}
use Rattle.scheme.proofs.writing.put_units.Goals as goal

pub returns : goal.returns
returns c =
    then_ok c.end_array.result (array_put (codes "units") block_data c.args.units.now _ _ _ _ _ c.in_ok-key.ensures c.in_ok-begin_array.ensures c.in_ok-write_blocks.ensures) c.end_array.ensures
