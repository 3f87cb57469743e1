-- The content of files into which a store over a connection was closed.
use Rattle.std.proofs.Common.{◌≡◌, ◌⊎◌, inl, inr, false, IsTrue, refl, sym, ap, subst, ◌∙◌}
use Rattle.std.proofs.Math.Logic.{∥∥₁_map}
use Rattle.sqlite_disk.specs.declared.Disk.{Ghosts}
use Rattle.sqlite_disk.specs.declared.Files.{Files}
use Rattle.sqlite.specs.WalReads.{AreClean}
use Rattle.sqlite_store.specs.declared.store.FileStore.{FileStore}
use Rattle.sqlite.specs.Closing.{HoldsAlone, IsCopied}
use Rattle.sqlite.specs.Files.{over_files, file_state}
use Rattle.sqlite.specs.Held.{Held}
use Rattle.sqlite.specs.State.{HasCleanDisk}
use Rattle.sqlite.specs.Tree.{Trees}
use Rattle.durable.specs.Backing.{MayFind, Hold, HoldAlone}
use Rattle.durable.specs.Connected.{OpenStoreView, IsHonest, MayHold, content, owner}
use Rattle.store_tables.specs.Held.{slots_in, node_in, IsStore}
use Rattle.store_migration.specs.Migrating.{IsOpenedAs}
use Rattle.stores.specs.Faults.{is_device_fault}
use Rattle.stores.specs.Records.{Places}
use Rattle.stores.specs.declared.fault.StoreFault.{StoreFault}
use Rattle.stores.specs.declared.fault.StoreFault.TheVariants.{Damaged, Reopen, NoMemory}

module _ {D : Type 0} (g : Ghosts D) (k : OpenStoreView (FileStore D g)) (conn : Held (FileStore D g)) (is : conn ≡ k.conn) (files : Files D)
    (early : AreClean g files.log files.db → HasCleanDisk (file_state conn)) where
  honest-closed : AreClean g files.log files.db → IsHonest over_files k
  honest-closed clean = subst (λ c. HasCleanDisk (file_state c)) is (early clean)

  -- a content that an opening may find is one that the store may have held
  pub left-closed : ((db : Trees) → MayFind g files db → ∥ (file_state conn).may_leave db ∥₁) → (db : Trees) → MayFind g files db → (next : Places) → IsOpenedAs db next → ∥ MayHold over_files k next ∥₁
  left-closed left db found next opened = ∥∥₁_map (left db found) (λ it. (db, subst (λ c. (file_state c).may_leave db) is it, opened))

  -- for a store that runs, an opening finds its content and its owner
  module _ (runs : k.must_reopen ≡ false)
      (settled : IsHonest over_files k → k.must_reopen ≡ false → (db : Trees) → (file_state k.conn).may_leave db → db ≡ (file_state k.conn).committed.trees)
      (store : IsHonest over_files k → k.must_reopen ≡ false → IsStore (file_state k.conn).committed.trees) where
    abbrev IsAsItWas : Trees → Type 0
    IsAsItWas db = IsStore db × (slots_in db ≡ content over_files k) × (node_in db ≡ owner over_files k)

    as-it-was : AreClean g files.log files.db → (db : Trees) → (file_state conn).may_leave db → IsAsItWas db
    as-it-was clean db left =
        let honest = honest-closed clean in
        let same = settled honest runs db (subst (λ c. (file_state c).may_leave db) is left) in
        (subst IsStore (sym same) (store honest runs), ap slots_in same, ap node_in same)

    pub kept-closed : ((db : Trees) → MayFind g files db → ∥ (file_state conn).may_leave db ∥₁) → (db : Trees) → MayFind g files db → ∥ slots_in db ≡ content over_files k ∥₁
    kept-closed left db found = ∥∥₁_map (left db found) (λ it. (as-it-was found.honest db it).1)

    pub holds-closed : Hold g files (file_state conn).may_leave → Hold g files IsAsItWas
    holds-closed holds clean image there = ∥∥₁_map (holds clean image there) (λ held. (held.0, as-it-was clean held.0 held.1, held.2))

    pub alone-closed : (AreClean g files.log files.db → IsCopied conn files) → HoldAlone g files IsAsItWas
    alone-closed copied clean image there =
        let honest = honest-closed clean in
        let alone = (copied clean).left image there in
        ((file_state k.conn).committed.trees, (store honest runs, refl, refl), subst (λ c. HoldsAlone image (file_state c).committed.trees) is alone)

-- a fault of a statement is never `Reopen`
pub is-no-reopen : (e : StoreFault) → (e ≡ NoMemory) ⊎ IsTrue (is_device_fault e) → e ≡ Reopen → ⊥
is-no-reopen e (inl memory) is = let clash : NoMemory ≡ Reopen = sym memory ∙ is in cc (clash)
is-no-reopen e (inr device) is = let clash = subst (λ f. IsTrue (is_device_fault f)) is device in cc (clash)

-- nor is a fault of files that were not opened
pub not-reopen : (e : StoreFault) → (e ≡ Damaged 0) ⊎ ((e ≡ NoMemory) ⊎ IsTrue (is_device_fault e)) → e ≡ Reopen → ⊥
not-reopen e (inl damaged) is = let clash : Damaged 0 ≡ Reopen = sym damaged ∙ is in cc (clash)
not-reopen e (inr other) is = is-no-reopen e other is
