use Rattle.std.proofs.Common.{refl, sym, ◌∙◌}
use Rattle.trace.proofs.EventRows.{input_is, with_row, without_row}
use Rattle.trace.proofs.following.Tracing.add_record.Goals as goal

pub returns-in_ok-push_row-clause-lines : goal.returns-in_ok-push_row-clause-lines
returns-in_ok-push_row-clause-lines c w r at there was known =
    let t = c.args.self.now in
    let is = input_is c.in-Some.input.now r.input _ (rw c.as_world.ensures at c.in-Some.ensures) there in
    with_row w t.world t.id r c.args.node c.args.place c.as_slice.result.now c.in-Some.input.now c.args.before c.status-now.result at is was (rw c.as_world-2.ensures at c.status-now.ensures) (c.as_slice.ensures.value ∙ known) t.form t.text.items c.push_row.new.text.items
    (sym c.is_traced.ensures ∙ c.if-is_traced.true) c.in_ok-push_row.ensures

pub returns-else-is_traced-clause-lines : goal.returns-else-is_traced-clause-lines
returns-else-is_traced-clause-lines c w r at there was known =
    let t = c.args.self.now in
    let is = input_is c.in-Some.input.now r.input _ (rw c.as_world.ensures at c.in-Some.ensures) there in
    without_row w t.world t.id r c.args.node c.args.place c.as_slice.result.now c.in-Some.input.now c.args.before c.status-now.result at is was (rw c.as_world-2.ensures at c.status-now.ensures) (c.as_slice.ensures.value ∙ known) t.form t.text.items t.text.items
    (sym c.is_traced.ensures ∙ c.if-is_traced.false) refl
