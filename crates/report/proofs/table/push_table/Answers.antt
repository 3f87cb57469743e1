use Rattle.std.proofs.lemmas.Result.{on_ok_weaker}
use Rattle.report.proofs.SafeTables.{safe_table}
use Rattle.report.proofs.table.push_table.Goals as goal

pub returns-clause-safe : goal.returns-clause-safe
returns-clause-safe c = λ scheme events led.
    let sums = c.tonnes_add_up.ensures.sums in
    let fits = c.tonnes_add_up.ensures.fits in
    let safe = safe_table c.args.form sums fits c.worlds_are_safe.ensures.live c.worlds_are_safe.ensures.committed scheme events c.args.world.now in
    on_ok_weaker c.push_parts.result (λ t. (t.0, safe t.0 led t.1, t.2)) c.push_parts.ensures
