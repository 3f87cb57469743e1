use Rattle.std.proofs.Common.{◌≡◌, sym, subst, rules}
use Rattle.sqlite.specs.Held.{state}
use Rattle.wire.specs.declared.record_format.RecordFormat.TheVariants.{Two}
use Rattle.wire.specs.Records.{IsRecordText}
use Rattle.store_migration.proofs.MigratingSteps.{migrating_next}
use Rattle.store_migration.proofs.migrating.migrate_record.Goals as goal

pub returns-in-Err-Shape-clause-damaged : goal.returns-in-Err-Shape-clause-damaged
returns-in-Err-Shape-clause-damaged g c = λ p is.
    let same : c.args.place ≡ p = cc (is) in
    (sym same, c.in-Err-Shape.ensures.shape (search rules))

pub returns-in-Ok-put_body-clause-migrating : goal.returns-in-Ok-put_body-clause-migrating
returns-in-Ok-put_body-clause-migrating g c clean before rest m here =
    let old = state g.S.Store c.args.tx.now.conn.now in
    let new = state g.S.Store c.put_body.new.tx.conn.now in
    let is = c.in-Ok.ensures.ok in
    let two = subst (λ t. IsRecordText Two t is.0) (sym c.deref.ensures.value) is.2 in
    migrating_next c.args.place before old.now.trees new.now.trees rest c.args.body.now c.deref.result.now is.0 is.1 two (c.in-Ok-put_body.ensures.put clean) m here
