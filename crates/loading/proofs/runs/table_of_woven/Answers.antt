use Rattle.std.proofs.Common.{subst}
use Rattle.std.specs.Prelude.{IfErr, IfOk}
use Rattle.weave.specs.Following.{IsWeaveFault, IsWoven, journal_of}
use Rattle.loading.proofs.Tables.{audited, fails_to_weave}
use Rattle.loading.proofs.runs.table_of_woven.Goals as goal

pub returns-in-Err-clause-err : goal.returns-in-Err-clause-err
returns-in-Err-clause-err c scheme journals fails =
    rw c.fault_of.ensures (fails_to_weave scheme journals c.in-Err.fault (subst (λ r. IfErr r (IsWeaveFault scheme (journal_of scheme journals))) c.in-Err.is fails))

pub returns-in_ok-push_table-in-Ok-clause-ok : goal.returns-in_ok-push_table-in-Ok-clause-ok
returns-in_ok-push_table-in-Ok-clause-ok c scheme journals woven =
    let events = c.in-Ok.woven.events.items in
    let here = subst (λ r. IfOk r (λ w. IsWoven scheme (journal_of scheme journals) w.events.items w.world)) c.in-Ok.is woven in
    audited c.args.form scheme journals events _ _ here.projects c.new-text.ensures.bytes (c.in_ok-push_table-in-Ok.ensures.safe scheme events here.world)
