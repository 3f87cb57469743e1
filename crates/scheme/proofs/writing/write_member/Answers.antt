use Rattle.json_fields.proofs.Written.{object_put, then_ok}
use Rattle.scheme.specs.Written.{member_fields}
use Rattle.scheme.proofs.writing.write_member.Goals as goal

pub returns : goal.returns
returns c = then_ok c.end_object.result (object_put (member_fields c.args.member.now) _ _ _ _ c.in_ok-begin_object.ensures c.in_ok-put_member.ensures) c.end_object.ensures
