-- What an opening of a database file and its log may find.
use Rattle.std.specs.Prelude.{◌≡◌, ◌⊎◌}
use Rattle.sqlite.specs.Tree.{Trees}
use Rattle.sqlite.specs.Closing.{HoldsAlone}
use Rattle.sqlite.specs.Files.{AreFoundIn, HoldsDatabase, IsNothing, image_of}
use Rattle.sqlite_disk.specs.declared.Disk.{Ghosts}
use Rattle.sqlite_disk.specs.declared.Files.{Files}
use Rattle.sqlite.specs.WalFiles.{outcomes}
use Rattle.sqlite.specs.WalReads.{AreClean}
use Rattle.sqlite.specs.Recovery.{Image}

-- the trees are those of the database that the two files hold
pub record AreHeld (image : Image) (db : Trees) : Type 0 where
  pub holds : (other : Trees) → HoldsDatabase image other → db ≡ other
  pub reads : AreFoundIn image db

-- the disk returned what was written, and the trees are those of the database that the files hold now
pub record IsFound {D : Type 0} (g : Ghosts D) (files : Files D) (db : Trees) : Type 0 where
  pub honest : AreClean g files.log files.db
  pub held : AreHeld (image_of g files) db

-- the same, or the trees are those of a database that the files may hold after a crash
pub record MayFind {D : Type 0} (g : Ghosts D) (files : Files D) (db : Trees) : Type 0 where
  pub honest : AreClean g files.log files.db
  pub image : Image
  pub left : outcomes g files.log files.db image
  pub held : AreHeld image db

-- the files hold no database that SQLite opens, and are not new either
abbrev pub IsNoDatabase : {D : Type 0} → Ghosts D → Files D → Type 0
IsNoDatabase g files = (((db : Trees) × HoldsDatabase (image_of g files) db) ⊎ IsNothing (image_of g files)) → ⊥

-- the files hold a database with such trees, now and after a crash
abbrev pub Hold : {D : Type 0} → Ghosts D → Files D → (Trees → Type 0) → Type 0
Hold g files Wanted = AreClean g files.log files.db → (image : Image) → outcomes g files.log files.db image → ∥ ((db : Trees) × Wanted db × HoldsDatabase image db) ∥₁

-- the same, and the database file holds it with no log too
abbrev pub HoldAlone : {D : Type 0} → Ghosts D → Files D → (Trees → Type 0) → Type 0
HoldAlone g files Wanted = AreClean g files.log files.db → (image : Image) → outcomes g files.log files.db image → (db : Trees) × Wanted db × HoldsAlone image db
