use Rattle.std.proofs.Common.{◌≡◌, length, arith, rules, slice_index_or}
use Rattle.sqlite_value.specs.declared.value.Value.TheVariants.{Null}
use Rattle.sqlite_schema.specs.declared.code.Op.TheVariants.{Literal, Binary}
use Rattle.store_tables.proofs.Checks.{first_at}
use Rattle.store_tables.proofs.layout.is_first_at.Goals as goal

pub returns : goal.returns
returns c =
    let it = c.in-Some-Binary in
    let ops = c.args.ops.now in
    let at : slice_index_or ops c.args.root (Literal Null) ≡ Binary it.op it.left it.right = search rules in
    let same = first_at ops (length ops) c.args.root it.left it.right it.op (omega (arith, c.if-ops-lt2.false)) at in
    (λ yes. same.0 (c.compares_id.ensures.0 yes), λ is. c.compares_id.ensures.1 (same.1 is))
