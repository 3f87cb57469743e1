use Rattle.std.proofs.Common.{inl, inr}
use Rattle.std.proofs.lemmas.Result.{err_from_is_err_and}
use Rattle.ended_nodes.proofs.Reporting.{if_err, keeps_same}
use Rattle.run.proofs.Written.{both_ok}
use Rattle.commands.proofs.running.run_connected.Goals as goal

pub returns-in_err-listeners-clause-err : goal.returns-in_err-listeners-clause-err
returns-in_err-listeners-clause-err g c =
    let p = err_from_is_err_and c.from_residual.result c.from_residual.ensures.1 in
    rw (p.1, p.2) (inl (c.in_err-listeners.ensures, keeps_same _))

pub run_script-ended-requires-clause-nodes : goal.run_script-ended-requires-clause-nodes
run_script-ended-requires-clause-nodes g c = λ lifetimes live. c.requires.opened.nodes_are

pub run_script-ended-requires-clause-opened : goal.run_script-ended-requires-clause-opened
run_script-ended-requires-clause-opened g c = λ lifetimes live. c.requires.opened.opened

pub returns-clause-ok : goal.returns-clause-ok
returns-clause-ok g c =
    both_ok c.run_script-ended.result
    (λ r told ended. record {
      well = ended;
      text = told.0;
      report = told.1;
      written = told.2;
    })
    c.run_script-ended.ensures.ok c.run_script-ended.ensures.ended

pub returns-clause-err : goal.returns-clause-err
returns-clause-err g c = if_err c.run_script-ended.result (λ e h. inr h) c.run_script-ended.ensures.err
