use Rattle.std.proofs.Common.{codes}
use Rattle.json_fields.proofs.Written.{array_put, then_ok}
use Rattle.json_fields.specs.Objects.{whole}
use Rattle.scheme.proofs.writing.put_accounts.Goals as goal

pub returns : goal.returns
returns c =
    then_ok c.end_array.result (array_put (codes "accounts") whole c.args.accounts.now _ _ _ _ _ c.in_ok-key.ensures c.in_ok-begin_array.ensures c.in_ok-write_accounts.ensures) c.end_array.ensures
