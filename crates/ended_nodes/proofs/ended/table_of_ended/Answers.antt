use Rattle.std.proofs.Common.{List, string_bytes, subst}
use Rattle.protocol.specs.Input.{Input}
use Rattle.report.specs.declared.form.Form.TheVariants.{Lines}
use Rattle.loading.specs.Runs.{FailsToWeave, IsAuditTable}
use Rattle.ended_nodes.proofs.Settling.{of_settling, of_weaving}
use Rattle.ended_nodes.proofs.Reporting.{if_err, if_ok}
use Rattle.ended_nodes.specs.Ended.{seats_in, states_in}
use Rattle.ended_nodes.proofs.ended.table_of_ended.Goals as goal

pub returns-in-Ok-clause-ok : goal.returns-in-Ok-clause-ok
returns-in-Ok-clause-ok g c =
    let committed = c.in-Ok.ensures.journals in
    if_ok c.table_of_cores.result
    (λ s is. record { settled = c.in-Ok.ensures.ok; is_table = subst (λ (js : List (List Input)). IsAuditTable Lines c.args.scheme.now js (string_bytes s)) committed is })
    c.table_of_cores.ensures.ok

pub returns-in-Ok-clause-err : goal.returns-in-Ok-clause-err
returns-in-Ok-clause-err g c =
    let committed = c.in-Ok.ensures.journals in
    if_err c.table_of_cores.result
    (λ e h. of_weaving c.args.scheme.now (states_in c.args.ended.now) (seats_in c.args.ended.now) e c.in-Ok.ensures.ok (subst (λ (js : List (List Input)). FailsToWeave c.args.scheme.now js e) committed h))
    c.table_of_cores.ensures.err

pub returns-in-Err-clause-err : goal.returns-in-Err-clause-err
returns-in-Err-clause-err g c = of_settling c.args.scheme.now (states_in c.args.ended.now) (seats_in c.args.ended.now) c.in-Err.fault c.in-Err.ensures.err
