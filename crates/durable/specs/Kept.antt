-- A store in files, by its connection while it is open and by its files while it is shut.
use Rattle.std.specs.Prelude.{◌≡◌, ℕ, Bool, true, false, List, []}
use Rattle.sqlite.specs.Tree.{Trees}
use Rattle.sqlite.specs.Files.{over_files, file_state}
use Rattle.sqlite_disk.specs.declared.Disk.{Ghosts}
use Rattle.sqlite_disk.specs.declared.Files.{Files}
use Rattle.sqlite.specs.WalReads.{AreClean}
use Rattle.durable.specs.Backing.{MayFind, Hold}
use Rattle.durable.specs.Connected as connected
use Rattle.store_migration.specs.Migrating.{IsOpenedAs}
use Rattle.stores.specs.Records.{Places}
use Rattle.durable.specs.declared.store_state.StoreState.{StoreState}
use Rattle.durable.specs.declared.store_state.StoreState.TheVariants.{Open, Shut, Absent}

module _ {D : Type 0} (g : Ghosts D) where
  abbrev pub IsHonest : StoreState D g → Type 0
  IsHonest (Open k) = connected.IsHonest over_files k
  IsHonest (Shut files) = AreClean g files.log files.db
  IsHonest Absent = ⊥

  abbrev pub content : StoreState D g → Places
  content (Open k) = connected.content over_files k
  content _ = []

  -- a content that an opening may give it, also after a crash
  abbrev pub MayHold : StoreState D g → Places → Type 0
  MayHold (Open k) next = connected.MayHold over_files k next
  MayHold (Shut files) next = (db : Trees) × MayFind g files db × IsOpenedAs db next
  MayHold Absent next = ⊥

  abbrev pub must_reopen : StoreState D g → Bool
  must_reopen (Open k) = k.must_reopen
  must_reopen _ = true

  -- the owner in the last commit
  abbrev pub owner : StoreState D g → List ℕ
  owner (Open k) = connected.owner over_files k
  owner _ = []

  -- the number of failed calls of its disk, as its connection counts them
  abbrev pub disk_faults : StoreState D g → ℕ
  disk_faults (Open k) = connected.disk_faults over_files k
  disk_faults _ = 0

  abbrev pub is_there : StoreState D g → Bool
  is_there Absent = false
  is_there _ = true

  -- the files are the store's: its own where it is shut, else files that its connection may leave
  abbrev pub AreFilesOf : StoreState D g → Files D → Type 0
  AreFilesOf (Open k) files = Hold g files (file_state k.conn).may_leave
  AreFilesOf (Shut its) files = files ≡ its
  AreFilesOf Absent files = ⊥
