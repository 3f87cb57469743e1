use Rattle.std.proofs.Common.{subst, sym}
use Rattle.ended_nodes.specs.Ended.{seats_in, states_in}
use Rattle.ended_nodes.specs.Reported.{IsReported}
use Rattle.ended_nodes.proofs.Reporting.{fails_in_table, fails_unwritten, if_err, on_ok}
use Rattle.ended_nodes.proofs.ended.report_run.Goals as goal

pub returns-in-Ok-clause-ok : goal.returns-in-Ok-clause-ok
returns-in-Ok-clause-ok g c =
    let reported = subst (IsReported c.args.scheme.now (states_in c.args.ended.now) (seats_in c.args.ended.now)) (sym c.as_str.ensures.value) c.in-Ok.ensures.ok in
    on_ok c.write_out.result (λ written. (c.as_str.result.now, reported, written)) c.write_out.ensures.ok

pub returns-in-Ok-clause-err : goal.returns-in-Ok-clause-err
returns-in-Ok-clause-err g c =
    let reported = subst (IsReported c.args.scheme.now (states_in c.args.ended.now) (seats_in c.args.ended.now)) (sym c.as_str.ensures.value) c.in-Ok.ensures.ok in
    if_err c.write_out.result (λ e h. fails_in_table e c.args.scheme.now (states_in c.args.ended.now) (seats_in c.args.ended.now) _ _ c.as_str.result.now reported h) c.write_out.ensures.err

pub returns-in-Err-clause-err : goal.returns-in-Err-clause-err
returns-in-Err-clause-err g c = fails_unwritten c.in-Err.fault c.args.scheme.now (states_in c.args.ended.now) (seats_in c.args.ended.now) _ c.in-Err.ensures.err
