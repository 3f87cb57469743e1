use Rattle.std.proofs.Common.{inl, inr}
use Rattle.ended_nodes.specs.Ended.{stored_in}
use Rattle.ended_nodes.proofs.Reporting.{if_err, on_ok}
use Rattle.commands.proofs.running.run_loaded.Goals as goal

pub returns-in-Ok-close_stores-clause-ok : goal.returns-in-Ok-close_stores-clause-ok
returns-in-Ok-close_stores-clause-ok g c =
    let run = c.in-Ok.field-0 in
    on_ok c.judged.result (λ strict. (run.undone, (stored_in run.nodes.items, c.in-Ok.ensures.ok, c.in-Ok-close_stores.ensures.ok), strict)) c.judged.ensures.ok

pub returns-in-Ok-close_stores-clause-err : goal.returns-in-Ok-close_stores-clause-err
returns-in-Ok-close_stores-clause-err g c =
    let run = c.in-Ok.field-0 in
    if_err c.judged.result (λ e h. inr (inr (inr (run.undone, (stored_in run.nodes.items, c.in-Ok.ensures.ok, c.in-Ok-close_stores.ensures.ok), h)))) c.judged.ensures.err

pub returns-in-Err-close_stores-clause-err : goal.returns-in-Err-close_stores-clause-err
returns-in-Err-close_stores-clause-err g c =
    let run = c.in-Ok.field-0 in
    inr (inr (inl (run.undone, stored_in run.nodes.items, c.in-Ok.ensures.ok, c.in-Err-close_stores.ensures.err)))

pub returns-in-Err-clause-err : goal.returns-in-Err-clause-err
returns-in-Err-clause-err g c =
    elim c.in-Err.ensures.err [
      | inl h ↦ inl h
      | inr h ↦ inr (inl h)
    ]
