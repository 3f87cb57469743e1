-- A store in files: its parts, and what a reopening settles.
use Rattle.std.proofs.Common.{◌≡◌, ◌⊎◌, inl, inr, ℕ, zero, suc, IsTrue, true, refl, sym, ap, subst, ◌∙◌}
use Rattle.std.proofs.Math.Logic.{∥∥₁_map, ∥∥₁_elim}
use mathlib.Core.Bool.{Bool-set}
use mathlib.Core.HLevel.{is_prop→PathP}
use Rattle.sqlite_disk.specs.declared.Disk.{Ghosts}
use Rattle.sqlite_disk.specs.declared.Files.{Files}
use Rattle.sqlite.specs.Tree.{Trees}
use Rattle.durable.specs.Backing.{IsFound, IsNoDatabase, MayFind, Hold}
use Rattle.store_migration.specs.Migrating.{IsOpenedAs}
use Rattle.durable.specs.Kept.{MayHold, is_there}
use Rattle.durable.specs.Refusals.{IsUnharmed}
use Rattle.stores.specs.Faults.{is_judgement, refuses_a_store}
use Rattle.stores.specs.Records.{Places}
use Rattle.stores.specs.declared.fault.StoreFault.{StoreFault}
use Rattle.stores.specs.declared.fault.StoreFault.TheVariants.{Device, Full, Damaged, WrongNode, WrongVersion, Reopen, NoMemory}
use Rattle.durable.specs.declared.store_state.StoreState.{StoreState}
use Rattle.durable.specs.declared.sql_store.SqlStore.{SqlStore}
use Rattle.durable.proofs.Reopening.{now-found}

pub same-store : {D : Type 0} {g : Ghosts D} (s : SqlStore D g) (store_state : StoreState D g) (faults : ℕ) (there : IsTrue (is_there g store_state)) → store_state ≡ s.store_state → faults ≡ s.faults
    → record { store_state = store_state; node = s.node; faults = faults; options = s.options; alloc = s.alloc; there = there } ≡ s
same-store {D} {g} s store_state faults there p q = λ i. record {
  store_state = p i;
  node = s.node;
  faults = q i;
  options = s.options;
  alloc = s.alloc;
  there = is_prop→PathP (λ j. IsTrue (is_there g (p j))) (λ j. Bool-set (is_there g (p j)) true) there s.there i;
}

-- a database that an opening of its files found is one that the store may have held
pub settled-again : {D : Type 0} (g : Ghosts D) (old store_state : StoreState D g) (files : Files D) (next : Places) → store_state ≡ old → ((file : D) → g.may_leave file (g.seen file))
    → ((db : Trees) → MayFind g files db → (places : Places) → IsOpenedAs db places → ∥ MayHold g store_state places ∥₁) → (db : Trees) × IsFound g files db × IsOpenedAs db next → ∥ MayHold g old next ∥₁
settled-again {D} g old store_state files next same stays left found =
    ∥∥₁_map (left found.0 (now-found files stays found.0 found.1) next found.2) (λ held. subst (λ (l : StoreState D g). MayHold g l next) same held)

pub had-files : {D : Type 0} (g : Ghosts D) (old store_state : StoreState D g) (files : Files D) → store_state ≡ old
    → ((db : Trees) → MayFind g files db → (places : Places) → IsOpenedAs db places → ∥ MayHold g store_state places ∥₁) → (db : Trees) → MayFind g files db → (places : Places) → IsOpenedAs db places
    → ∥ MayHold g old places ∥₁
had-files {D} g old store_state files same left db found places opened = subst (λ (l : StoreState D g). ∥ MayHold g l places ∥₁) same (left db found places opened)

judged : (fault : StoreFault) → IsTrue (refuses_a_store fault) → IsTrue (is_judgement fault)
judged (Damaged place) refuses = refl
judged WrongNode refuses = refl
judged WrongVersion refuses = refl
judged Device refuses = absurd (cc (refuses))
judged Full refuses = absurd (cc (refuses))
judged Reopen refuses = absurd (cc (refuses))
judged NoMemory refuses = absurd (cc (refuses))

-- files in which a store was found and refused hold what was found
pub found-and-refused : {D : Type 0} (g : Ghosts D) (files left : Files D) (fault : StoreFault) → IsTrue (refuses_a_store fault) → IsUnharmed g files fault left → (db : Trees) × IsFound g files db × Hold g left (λ next. next ≡ db)
found-and-refused g files left fault refuses unharmed = elim (unharmed (judged fault refuses)) [
  | inl none ↦ absurd (let never : IsTrue (refuses_a_store (Damaged 0)) = subst (λ e. IsTrue (refuses_a_store e)) none.0 refuses in cc (never))
  | inr found ↦ found
]

-- and an opening can give only the contents that it could give before
pub left-again : {D : Type 0} (g : Ghosts D) (files left : Files D) (Held : Places → Type 0) (db : Trees) (next : Places) → ((file : D) → g.may_leave file (g.seen file)) → IsFound g files db → Hold g left (λ t. t ≡ db)
    → ((t : Trees) → MayFind g files t → (places : Places) → IsOpenedAs t places → ∥ Held places ∥₁) → (t : Trees) × MayFind g left t × IsOpenedAs t next → ∥ Held next ∥₁
left-again g files left Held db next stays found holds made held =
    ∥∥₁_elim (holds held.1.honest held.1.image held.1.left) squash₁ (λ known.
    let same : held.0 ≡ db = held.1.held.holds known.0 known.2 ∙ known.1 in
    made db (now-found files stays db found) next (subst (λ (t : Trees). IsOpenedAs t next) same held.2))
