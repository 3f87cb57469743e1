use Rattle.std.proofs.Common.{codes, ap, ◌∙◌}
use Rattle.json_fields.specs.Objects.{array_with}
use Rattle.json_fields.specs.Writing.{after_field}
use Rattle.json_fields.proofs.Written.{object_put, then_ok}
use Rattle.scheme.specs.Written.{member_data, scheme_fields}
use Rattle.scheme.proofs.writing.write_scheme.Goals as goal

pub returns : goal.returns
returns c =
    let numbered = ap (λ ts. after_field ts (codes "registries", array_with member_data c.args.scheme.now.members)) c.in_ok-put_number.ensures in
    let filled = c.in_ok-put_members.ensures ∙ ap (λ xs. after_field c.put_number.new.self (codes "registries", array_with member_data xs)) c.as_slice.ensures ∙ numbered in
    then_ok c.end_object.result (object_put (scheme_fields c.args.scheme.now) _ _ _ _ c.in_ok-begin_object.ensures filled) c.end_object.ensures
