-- Why files are not opened as a store of a node, and the state of the files then.
use Rattle.std.specs.Prelude.{◌≡◌, ◌⊎◌, ◌&&◌, ℕ, List, false, IsTrue}
use Rattle.sqlite.specs.Closing.{files_left}
use Rattle.sqlite.specs.Effect.{Database, IsDatabase}
use Rattle.sqlite.specs.Files.{FailsToOpenFiles, LeavesFiles}
use Rattle.sqlite.specs.Tree.{Trees}
use Rattle.sqlite.specs.declared.error.Error.{Error}
use Rattle.sqlite.specs.declared.error.Error.TheVariants.{SqliteFailure}
use Rattle.sqlite.specs.declared.error.ErrorCode.TheVariants as code
use Rattle.sqlite.specs.declared.file.Leftover.{Leftover}
use Rattle.sqlite_disk.specs.declared.Disk.{Ghosts}
use Rattle.sqlite_disk.specs.declared.Files.{Files}
use Rattle.sqlite_disk.specs.declared.tally.Tally.{Tally}
use Rattle.sqlite.specs.WalReads.{AreClean, tally_of_files}
use Rattle.durable.specs.Backing.{IsFound, IsNoDatabase, Hold}
use Rattle.store_tables.specs.SqlFaults.{store_fault_of}
use Rattle.stores.specs.Faults.{is_judgement}
use Rattle.durable.specs.Opening.{IsOpeningFault, MayComeOf}
use Rattle.stores.specs.declared.fault.StoreFault.{StoreFault}
use Rattle.stores.specs.declared.fault.StoreFault.TheVariants.{Device, Full, Damaged, NoMemory}

-- the fault for an error of SQLite's opening, by the tallies of the files' failed calls before and after it: SQLite
-- reports a file as corrupt where it is no database, and where a read was found wrong
abbrev pub IsToldOf : Tally → Tally → Error → StoreFault → Type 0
IsToldOf before now error fault =
    ((fault ≡ Damaged 0) × ((error ≡ SqliteFailure code.NotADatabase) ⊎ ((error ≡ SqliteFailure code.DatabaseCorrupt) × (now.caught ≡ before.caught)))) ⊎ (fault ≡ store_fault_of error)

module _ {D : Type 0} (g : Ghosts D) where
  -- a fault of files that are not opened at all
  abbrev pub IsFileFault : Files D → StoreFault → Type 0
  IsFileFault files (Damaged place) = (place ≡ 0) × IsNoDatabase g files
  IsFileFault files Device = Unit {0}
  IsFileFault files Full = Unit {0}
  IsFileFault files NoMemory = Unit {0}
  IsFileFault files _ = ⊥

  -- the files are not opened, or the database that they hold is no store of that node
  abbrev pub IsRefusal : Files D → List ℕ → StoreFault → Type 0
  IsRefusal files name fault = IsFileFault files fault ⊎ ((db : Database) × IsDatabase db × IsFound g files db.trees × IsOpeningFault name db fault)

  -- files that hold a database hold the same one after it was refused
  abbrev pub IsUnharmed : Files D → StoreFault → Files D → Type 0
  IsUnharmed files fault left = IsTrue (is_judgement fault) → ((fault ≡ Damaged 0) × IsNoDatabase g files) ⊎ ((db : Trees) × IsFound g files db × Hold g left (λ next. next ≡ db))

  -- the files weren't opened, since memory ran out or a sync had failed, and are unchanged
  abbrev pub AreUntouched : Files D → Files D → StoreFault → Type 0
  AreUntouched files left fault = (left ≡ files) × ((fault ≡ NoMemory) ⊎ ((fault ≡ Device) × ((g.is_usable files.log && g.is_usable files.db) ≡ false)))

  -- SQLite did not open the files: the fault follows from its error, and it gave these files back
  pub record AreGivenBack (files left : Files D) (fault : StoreFault) : Type 0 where
    pub rest : Leftover D g
    pub same : (left.log, left.db) ≡ files_left rest
    pub error : Error
    pub fails : AreClean g left.log left.db → FailsToOpenFiles files rest error
    pub told : IsToldOf (tally_of_files g (files.log, files.db)) (tally_of_files g (left.log, left.db)) error fault
    pub leaves : AreClean g left.log left.db → LeavesFiles files rest

  -- SQLite opened the files, which held that database; now they hold it, or the one that an opening for that node makes
  -- of it
  pub record AreOfOpened (name : List ℕ) (files left : Files D) : Type 0 where
    pub db : Database
    pub sound : IsDatabase db
    pub found : IsFound g files db.trees
    pub holds : Hold g left (MayComeOf name db)

  -- the files after a failed opening for that node
  abbrev pub AreSpared : List ℕ → Files D → Files D → StoreFault → Type 0
  AreSpared name files left fault = AreUntouched files left fault ⊎ (AreGivenBack files left fault ⊎ (AreClean g left.log left.db → AreOfOpened name files left))
