-- The result of opening the files of a connection that was given up.
use Rattle.std.proofs.Common.{◌≡◌, IsTrue, sym, subst, true}
use Rattle.std.proofs.Math.Logic.{∥∥₁_map}
use Rattle.sqlite_disk.specs.declared.Disk.{Ghosts}
use Rattle.sqlite_disk.specs.declared.Files.{Files}
use Rattle.sqlite.specs.WalFiles.{outcomes}
use Rattle.sqlite.specs.Recovery.{Image}
use Rattle.sqlite.specs.WalReads.{AreClean}
use Rattle.sqlite_pool.specs.declared.pool.Pool.{Pool}
use Rattle.sqlite_pool.specs.Pool.{state, files}
use Rattle.sqlite.specs.Tree.{Trees}
use Rattle.sqlite.specs.View.{IsClean}
use Rattle.sqlite_store.specs.declared.store.FileStore.{FileStore}
use Rattle.sqlite.specs.FileStore.{view, recovers, files as store_files, state as store_state}
use Rattle.sqlite.specs.Held.{AreDatabases}
use Rattle.sqlite.specs.Files.{image_of}
use Rattle.sqlite_trees.proofs.Doubt.{no_doubt}
use Rattle.sqlite.proofs.Theorems.{opens_again}
use Rattle.durable.specs.Backing.{IsFound, MayFind, Hold}

-- an image that a crash may leave of the files is one that it may leave of the store
may-leave : {D : Type 0} {g : Ghosts D} (it : Pool D g) (image : Image) → AreClean g (files it).0 (files it).1 → outcomes g (files it).0 (files it).1 image → (state it).may_leave image
unfolding state files
may-leave it image honest left = (honest, left)

pub is-clean : {D : Type 0} {g : Ghosts D} (it : Pool D g) → AreClean g (files it).0 (files it).1 → (state it).is_clean ≡ true
unfolding state files
is-clean it honest = honest

-- clean files come from a connection that was clean
pub honest-before : {D : Type 0} {g : Ghosts D} (it : FileStore D g) (left : Files D) → (left.log, left.db) ≡ store_files it → AreClean g left.log left.db → IsClean (view it)
honest-before {D} {g} it left same honest = no_doubt (store_state it).is_clean (is-clean it.pool (subst (λ (p : D × D). AreClean g p.0 p.1) same honest))

-- each image that a crash may leave of files that were given up holds a database that the store allows
pub holds-again : {D : Type 0} {g : Ghosts D} (it : FileStore D g) (left : Files D) → (left.log, left.db) ≡ store_files it → (IsClean (view it) → IsTrue (view it).is_numbered)
    → (IsClean (view it) → AreDatabases (recovers it)) → Hold g left (recovers it)
holds-again {D} {g} it left same numbered sound honest image there =
    let clean = honest-before it left same honest in
    opens_again it (numbered clean) (sound clean) image (may-leave it.pool image (subst (λ (p : D × D). AreClean g p.0 p.1) same honest) (subst (λ (p : D × D). outcomes g p.0 p.1 image) same there))

pub found-again : {D : Type 0} {g : Ghosts D} (it : FileStore D g) (left : Files D) → (left.log, left.db) ≡ store_files it → (IsClean (view it) → IsTrue (view it).is_numbered)
    → (IsClean (view it) → AreDatabases (recovers it)) → (db : Trees) → MayFind g left db → ∥ recovers it db ∥₁
found-again {D} {g} it left same numbered sound db found =
    ∥∥₁_map (holds-again it left same numbered sound found.honest found.image found.left) (λ known. subst (recovers it) (sym (found.held.holds known.0 known.2)) known.1)

-- the present content of files is one that an opening may find
pub now-found : {D : Type 0} {g : Ghosts D} (files : Files D) → ((file : D) → g.may_leave file (g.seen file)) → (db : Trees) → IsFound g files db → MayFind g files db
now-found {D} {g} files stays db found = record { honest = found.honest; image = image_of g files; left = (stays files.log, stays files.db); held = found.held }
