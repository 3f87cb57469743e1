-- The places of a store after an opening.
use Rattle.std.proofs.Common.{◌≡◌, inl, inr, ℕ, List, [], Result, Ok, Err, OnOk, pos, length, arith, IsTrue, sym, ap, subst, ◌∙◌}
use Rattle.sqlite.specs.declared.types.Value.TheVariants.{Int}
use Rattle.sqlite.specs.Order.{Row, column}
use Rattle.sqlite.specs.Tree.{Trees}
use Rattle.sqlite.specs.Effect.{Database}
use Rattle.sqlite.specs.State.{State}
use Rattle.std.specs.Prelude.{slice_index_or}
use Rattle.wire.specs.declared.record_format.RecordFormat.TheVariants.{One}
use Rattle.stores.specs.Records.{Places}
use Rattle.stores.specs.declared.fault.StoreFault.{StoreFault}
use Rattle.store_tables.specs.Tables.{TableOrder, AboutFirst, order_of, about_tree, entries_tree, about_rows}
use Rattle.store_tables.specs.Slots.{slots_from}
use Rattle.store_tables.specs.Held.{slots_in, IsStore, IsStoreIn}
use Rattle.durable.specs.Opening.{IsOpened, IsBare, IsNew, BecomesStore}
use Rattle.store_migration.specs.Migrating.{IsOpenedAs}

-- no store has both formats
two_formats : (db : Trees) → IsStore db → IsStoreIn One db → ⊥
two_formats db new old =
    let never : Int (pos 2) ≡ Int (pos 1) = ap (λ (rows : List Row). column (slice_index_or rows 0 []) 2) (sym new.owner ∙ old.owner) in
    cc (never)

-- a store of the format in which stores are made is opened as it is
pub opened_newest : (db : Trees) (places : Places) → IsStore db → IsOpenedAs db places → places ≡ slots_in db
opened_newest db places store (inl it) = it.1
opened_newest db places store (inr old) = absurd (two_formats db store old.0)

-- the same for a store that is unchanged
pub opened_same : (old db : Trees) (next : Places) → IsStore old → db ≡ old → IsOpenedAs db next → next ≡ slots_in old
opened_same old db next store same opened = opened_newest db next (subst IsStore (sym same) store) opened ∙ ap slots_in same

-- trees without a row have no place
no_places : (db : Trees) → db 1 ≡ [] → slots_in db ≡ []
no_places db none =
    let order : order_of (db 1) ≡ AboutFirst = ap order_of none in
    ap (λ (o : TableOrder). slots_from 0 (db (entries_tree o))) order ∙ ap (slots_from 0) none

-- trees without a row are no store
no_store : (db : Trees) → db 0 ≡ [] → db 1 ≡ [] → IsStoreIn One db → ⊥
no_store db owner none store =
    let order : order_of (db 1) ≡ AboutFirst = ap order_of none in
    let rows : about_rows db ≡ [] = ap (λ (o : TableOrder). db (about_tree o)) order ∙ owner in
    let never : 0 ≡ 1 = ap length (sym rows ∙ store.owner) in omega (arith, never)

no_row : (before : Database) → (IsBare before → (before.trees 0 ≡ []) × (before.trees 1 ≡ [])) → IsNew before → (before.trees 0 ≡ []) × (before.trees 1 ≡ [])
no_row before bare (inl none) = bare none
no_row before bare (inr empty) = (empty.2, empty.3)

-- a database without a table, as the connection to it has it
pub bare_of : (s : State) → IsOpened s → (IsTrue s.is_open → IsBare s.now → (s.now.trees 0 ≡ []) × (s.now.trees 1 ≡ [])) → IsBare s.committed → (s.committed.trees 0 ≡ []) × (s.committed.trees 1 ≡ [])
bare_of s opened bare = subst (λ (db : Database). IsBare db → (db.trees 0 ≡ []) × (db.trees 1 ≡ [])) opened.settled (bare opened.is_open)

-- the places of a file that became a store
pub opened_as : (name : List ℕ) (before : Database) (s : State) (result : Result ℕ StoreFault) → (IsBare before → (before.trees 0 ≡ []) × (before.trees 1 ≡ [])) → BecomesStore name before s result
    → OnOk result (IsOpenedAs before.trees (slots_in s.committed.trees))
opened_as name before s (Err e) bare becomes = tt
opened_as name before s (Ok count) bare becomes = elim (becomes.found) [
  | inl new ↦
      let rows = no_row before bare new.0 in
      inl (no_store before.trees rows.0 rows.1, new.1 ∙ sym (no_places before.trees rows.1))
  | inr (inl same) ↦ inl (two_formats before.trees (subst (λ (db : Database). IsStore db.trees) same becomes.ready.0.store), ap (λ (db : Database). slots_in db.trees) same)
  | inr (inr migrated) ↦ inr (migrated.before, migrated.places)
]
