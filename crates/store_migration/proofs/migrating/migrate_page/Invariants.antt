use Rattle.std.proofs.Common.{◌≡◌, ◌+◌, ◌-◌, ◌≤◌, ℕ, List, Bor, map, take, drop, length}
use Rattle.sqlite.specs.State.{HasCleanDisk, Survives, KeepsCommit}
use Rattle.sqlite.specs.Held.{state}
use Rattle.sqlite.specs.Tree.{Trees}
use Rattle.wire.specs.declared.record_format.RecordFormat.TheVariants.{One}
use Rattle.stores.specs.Records.{unbroken}
use Rattle.store_tables.specs.Held.{slots_in}
use Rattle.store_tables.specs.Within.{IsWithin, HasStore}
use Rattle.store_migration.specs.Migrating.{IsMigrating}
use Rattle.store_migration.proofs.migrating.migrate_page.Given as goal

abbrev pub invariant-loop-at : goal.invariant-loop-at
invariant-loop-at g l =
    let old = state g.S.Store l.fn.tx.conn.now in
    let now = state g.S.Store l.tx.conn.now in record {
      same : l.tx.conn.ghost_name ≡ l.fn.tx.conn.ghost_name;
      survives : Survives old now (λ _. ⊥);
      kept : HasCleanDisk now → KeepsCommit old now;
      within : HasCleanDisk now → IsWithin now (HasStore One);
      schema : HasCleanDisk now → now.now.schema ≡ old.now.schema;
      read : HasCleanDisk now → unbroken (take (l.until - l.first) (drop l.first (slots_in old.now.trees))) ≡ map (λ (b : Bor (List ℕ)). b.now) l.body-items;
      migrating : HasCleanDisk now → (before : Trees) → l.until ≤ length (slots_in before) → IsMigrating l.first before old.now.trees → IsMigrating (l.first + l.at) before now.now.trees;
    }
