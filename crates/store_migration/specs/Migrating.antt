-- The migration of a store of format One to format Two.
use Rattle.std.specs.Prelude.{◌≡◌, ◌⊎◌, ℕ, zero, suc, List, [], ◌∷◌, ◌++◌, take, drop, Some, None}
use Rattle.sqlite.specs.Tree.{Trees}
use Rattle.wire.specs.declared.input.Input.{Input}
use Rattle.wire.specs.declared.record_format.RecordFormat.{RecordFormat}
use Rattle.wire.specs.declared.record_format.RecordFormat.TheVariants.{One, Two}
use Rattle.stores.specs.Records.{Places, AreRecordsIn}
use Rattle.store_tables.specs.Held.{slots_in, node_in, IsStoreIn}

-- both have the records of the same inputs, the old places in format One and the new ones in format Two
abbrev pub AreMigrated : Places → Places → Type 0
AreMigrated old new = (inputs : List Input) × AreRecordsIn One old inputs × AreRecordsIn Two new inputs

-- a store of format One was migrated to format Two, of the same node and with the same inputs
pub record IsMigrated (old new : Trees) : Type 0 where
  pub before : IsStoreIn One old
  pub after : IsStoreIn Two new
  pub node : node_in new ≡ node_in old
  pub places : AreMigrated (slots_in old) (slots_in new)

-- the places after an opening of a database: those that it has or, for a store of format One, the migrated ones
abbrev pub IsOpenedAs : Trees → Places → Type 0
IsOpenedAs db places = ((IsStoreIn One db → ⊥) × (places ≡ slots_in db)) ⊎ (IsStoreIn One db × AreMigrated (slots_in db) places)

-- ---- what the code follows; no public contract cites what stands below

-- a store of that format and of the same node, with such places
pub record HasPlaces (format : RecordFormat) (old : Trees) (places : Places) (new : Trees) : Type 0 where
  pub store : IsStoreIn format new
  pub node : node_in new ≡ node_in old
  pub slots : slots_in new ≡ places

-- the body stands at that place, if the place had one
abbrev pub with_body : ℕ → List ℕ → Places → Places
with_body place body [] = []
with_body zero body (None ∷ places) = None ∷ places
with_body zero body (Some old ∷ places) = Some body ∷ places
with_body (suc place) body (slot ∷ places) = slot ∷ with_body place body places

-- the first places are migrated, and the others are as they were
pub record IsMigrating (done : ℕ) (old new : Trees) : Type 0 where
  pub front : Places
  pub migrated : AreMigrated (take done (slots_in old)) front
  pub has : HasPlaces One old (front ++ drop done (slots_in old)) new
