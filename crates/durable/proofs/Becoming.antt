-- The state of a file after an opening, from what its last call leaves.
use Rattle.store_tables.specs.Within.{HasStore}
use Rattle.std.proofs.Common.{◌≡◌, ◌⊎◌, inl, inr, ℕ, Ok, Err, IsTrue, length, refl, sym, ap, subst, ◌∙◌}
use Rattle.sqlite.specs.Tree.{Trees}
use Rattle.sqlite.specs.Effect.{Database}
use Rattle.sqlite.specs.State.{State}
use Rattle.wire.specs.declared.record_format.RecordFormat.TheVariants.{One, Two}
use Rattle.stores.specs.Faults.{is_judgement, IsReadFault}
use Rattle.stores.specs.Records.{IsDamagedIn}
use Rattle.stores.specs.declared.fault.StoreFault.{StoreFault}
use Rattle.stores.specs.declared.fault.StoreFault.TheVariants.{Device, Full, Damaged, WrongNode, WrongVersion, Reopen, NoMemory}
use Rattle.stores.proofs.Fronts.{records-length}
use Rattle.store_tables.specs.Tables.{order_in}
use Rattle.store_tables.specs.Held.{slots_in, node_in, IsReadyIn}
use Rattle.durable.specs.Opening.{IsOpeningFault, BecomesStore}
use Rattle.store_migration.specs.Migrating.{IsMigrated}

-- a migration keeps the number of places
pub as_long : (old new : Trees) → IsMigrated old new → length (slots_in new) ≡ length (slots_in old)
as_long old new migrated = records-length Two (slots_in new) migrated.places.0 migrated.places.2 ∙ sym (records-length One (slots_in old) migrated.places.0 migrated.places.1)

fault_of_record : (db : Database) (e : StoreFault) → HasStore One db → IsReadFault e → ((p : ℕ) → e ≡ Damaged p → IsDamagedIn One p (slots_in db.trees)) → IsOpeningFault (node_in db.trees) db e
fault_of_record db Device has read damaged = tt
fault_of_record db Full has read damaged = tt
fault_of_record db (Damaged p) has read damaged = inr (has, refl, damaged p refl)
fault_of_record db WrongNode has read damaged = absurd read
fault_of_record db WrongVersion has read damaged = absurd read
fault_of_record db Reopen has read damaged = absurd read
fault_of_record db NoMemory has read damaged = tt

module _ (old mid new : State) (has : HasStore One old.committed) (same : mid.committed ≡ old.committed)
    (crash : (db : Trees) → new.may_leave db → (db ≡ mid.committed.trees) ⊎ IsMigrated mid.committed.trees db) where
  abbrev was : Database
  was = old.committed

  leaves : (db : Trees) → new.may_leave db → (db ≡ was.trees) ⊎ IsMigrated was.trees db
  leaves db left = subst (λ (d : Database). (db ≡ d.trees) ⊎ IsMigrated d.trees db) same (crash db left)

  -- the store was migrated to format Two
  pub migrated_settles : (count : ℕ) → count ≡ length (slots_in was.trees) → IsReadyIn Two new → IsMigrated mid.committed.trees new.committed.trees → new.committed.schema ≡ mid.committed.schema
      → BecomesStore (node_in was.trees) was new (Ok count)
  migrated_settles count counted ready made tables =
      let migrated : IsMigrated was.trees new.committed.trees = subst (λ (d : Database). IsMigrated d.trees new.committed.trees) same made in
      record {
        ready = (ready, migrated.node);
        count = counted ∙ sym (as_long was.trees new.committed.trees migrated);
        found = inr (inr migrated);
        tables = inr ((order_in was.trees, has.0), tables ∙ ap (λ (d : Database). d.schema) same);
        fault = tt;
        crash = λ db left. elim (leaves db left) [
          | inl before ↦ inl before
          | inr after ↦ inr (inr after)
        ];
        unharmed = tt;
      }

  -- the opening refused the file
  pub refused_settles : (e : StoreFault) → IsReadFault e → ((p : ℕ) → e ≡ Damaged p → IsDamagedIn One p (slots_in mid.committed.trees))
      → (IsTrue (is_judgement e) → (db : Trees) → new.may_leave db → db ≡ mid.committed.trees) → BecomesStore (node_in was.trees) was new (Err e)
  refused_settles e read damaged unharmed = record {
    ready = tt;
    count = tt;
    found = tt;
    tables = tt;
    fault = fault_of_record was e has read (λ p is. subst (λ (d : Database). IsDamagedIn One p (slots_in d.trees)) same (damaged p is));
    crash = λ db left. elim (leaves db left) [
      | inl before ↦ inl before
      | inr after ↦ inr (inr after)
    ];
    unharmed = λ judged db left. unharmed judged db left ∙ ap (λ (d : Database). d.trees) same;
  }
