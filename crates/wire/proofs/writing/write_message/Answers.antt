use Rattle.json_fields.proofs.Written.{object_put, then_ok}
use Rattle.wire.specs.Messages.{message_fields}
use Rattle.wire.proofs.writing.write_message.Goals as goal

pub returns-clause-tokens : goal.returns-clause-tokens
returns-clause-tokens c =
    then_ok c.end_object.result (object_put (message_fields c.args.message.now) _ _ _ _ c.in_ok-begin_object.ensures c.in_ok-put_message.ensures.fields) c.end_object.ensures
