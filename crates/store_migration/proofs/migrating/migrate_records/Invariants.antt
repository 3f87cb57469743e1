use Rattle.std.proofs.Common.{◌≡◌, ◌≤◌, ◌-◌}
use Rattle.sqlite.specs.State.{HasCleanDisk, Survives, KeepsCommit}
use Rattle.sqlite.specs.Held.{state}
use Rattle.wire.specs.declared.record_format.RecordFormat.TheVariants.{One}
use Rattle.store_tables.specs.Within.{IsWithin, HasStore}
use Rattle.store_migration.specs.Migrating.{IsMigrating}
use Rattle.store_migration.proofs.migrating.migrate_records.Given as goal

abbrev pub invariant-loop-done : goal.invariant-loop-done
invariant-loop-done g l =
    let old = state g.S.Store l.fn.tx.conn.now in
    let now = state g.S.Store l.tx.conn.now in record {
      bound : l.done ≤ l.count;
      same : l.tx.conn.ghost_name ≡ l.fn.tx.conn.ghost_name;
      survives : Survives old now (λ _. ⊥);
      kept : HasCleanDisk now → KeepsCommit old now;
      within : HasCleanDisk now → IsWithin now (HasStore One);
      schema : HasCleanDisk now → now.now.schema ≡ old.now.schema;
      migrating : HasCleanDisk now → IsMigrating l.done old.now.trees now.now.trees;
    }

abbrev pub decreases-loop-done : goal.decreases-loop-done
decreases-loop-done g l = l.count - l.done
