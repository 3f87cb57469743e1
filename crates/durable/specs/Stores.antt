-- A store in a file of SQLite and its log.
use Rattle.std.specs.Prelude.{ℕ, Bool, List}
use Rattle.sqlite.specs.Tree.{Trees}
use Rattle.sqlite_disk.specs.declared.Disk.{Ghosts}
use Rattle.sqlite_disk.specs.declared.Files.{Files}
use Rattle.units.specs.Code.{node_text}
use Rattle.units.specs.declared.code.Node.{Node}
use Rattle.durable.specs.Backing.{MayFind}
use Rattle.store_migration.specs.Migrating.{IsOpenedAs}
use Rattle.durable.specs.Kept as kept
use Rattle.stores.specs.Records.{Places}
use Rattle.durable.specs.Refusals.{IsRefusal, AreSpared}
use Rattle.stores.specs.declared.fault.StoreFault.{StoreFault}
use Rattle.durable.specs.declared.sql_store.SqlStore.{SqlStore}

module _ {D : Type 0} (g : Ghosts D) where
  -- nobody else wrote the files, and the disk returned what was written
  abbrev pub IsHonest : SqlStore D g → Type 0
  IsHonest s = kept.IsHonest g s.store_state

  abbrev pub content : SqlStore D g → Places
  content s = kept.content g s.store_state

  -- a content that an opening may give it, also after a crash
  abbrev pub MayHold : SqlStore D g → Places → Type 0
  MayHold s next = kept.MayHold g s.store_state next

  -- a fault stopped it, and it must be reopened first
  abbrev pub must_reopen : SqlStore D g → Bool
  must_reopen s = kept.must_reopen g s.store_state

  -- the node in the table `about`
  abbrev pub owner : SqlStore D g → List ℕ
  owner s = kept.owner g s.store_state

  -- the number of failed calls of its files, as its connection counts them
  abbrev pub disk_faults : SqlStore D g → ℕ
  disk_faults s = kept.disk_faults g s.store_state

  -- the node for which it was opened
  abbrev pub node_of : SqlStore D g → Node
  node_of s = s.node

  abbrev pub faults : SqlStore D g → ℕ
  faults s = s.faults

  -- the files are the store's, and each content that an opening may give them is one that the store may have held
  abbrev pub HadFiles : SqlStore D g → Files D → Type 0
  HadFiles s files = kept.AreFilesOf g s.store_state files × ((db : Trees) → MayFind g files db → (next : Places) → IsOpenedAs db next → ∥ MayHold s next ∥₁)

  -- the fault of a refused opening of its files for its node
  abbrev pub IsReopeningFault : SqlStore D g → StoreFault → Type 0
  IsReopeningFault s fault = (files : Files D) × HadFiles s files × IsRefusal g files (node_text (node_of s)) fault

  -- an opening of its files failed with that fault, and it has the files that were left
  pub record HasSpared (old new : SqlStore D g) (fault : StoreFault) : Type 0 where
    pub files : Files D
    pub left : Files D
    pub had : HadFiles old files
    pub has : kept.AreFilesOf g new.store_state left
    pub spared : AreSpared g (node_text (node_of old)) files left fault
