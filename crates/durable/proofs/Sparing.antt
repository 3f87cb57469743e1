-- The files after a refusal.
use Rattle.std.proofs.Common.{◌⊎◌, ℕ, List, inl, inr, ap}
use Rattle.std.proofs.Math.Logic.{∥∥₁_map}
use Rattle.sqlite_disk.specs.declared.Disk.{Ghosts}
use Rattle.sqlite_disk.specs.declared.Files.{Files}
use Rattle.sqlite.specs.WalReads.{AreClean}
use Rattle.sqlite.specs.Tree.{Trees}
use Rattle.durable.specs.Backing.{Hold}
use Rattle.durable.specs.Refusals.{IsFileFault, IsUnharmed, AreUntouched, AreGivenBack, AreSpared}
use Rattle.stores.specs.declared.fault.StoreFault.{StoreFault}
use Rattle.stores.specs.declared.fault.StoreFault.TheVariants.{Device, Full, Damaged, WrongNode, WrongVersion, Reopen, NoMemory}

-- files of a connection hold what it may leave
pub spared : {D : Type 0} (g : Ghosts D) (left : Files D) (may_leave Wanted : Trees → Type 0) → Hold g left may_leave → (AreClean g left.log left.db → (db : Trees) → may_leave db → Wanted db) → Hold g left Wanted
spared {D} g left may_leave Wanted holds wanted honest image there = ∥∥₁_map (holds honest image there) (λ held. (held.0, wanted honest held.0 held.1, held.2))

-- files that were not opened were not judged, except where they hold no database
pub not-looked-at : {D : Type 0} (g : Ghosts D) (files left : Files D) (fault : StoreFault) → IsFileFault g files fault → IsUnharmed g files fault left
not-looked-at {D} g files left (Damaged p) why judged = inl (ap Damaged why.0, why.1)
not-looked-at {D} g files left WrongNode why judged = absurd why
not-looked-at {D} g files left WrongVersion why judged = absurd why
not-looked-at {D} g files left Device why judged = absurd (cc (judged))
not-looked-at {D} g files left Full why judged = absurd (cc (judged))
not-looked-at {D} g files left Reopen why judged = absurd (cc (judged))
not-looked-at {D} g files left NoMemory why judged = absurd (cc (judged))

-- files that were not opened are among what an opening leaves
pub not-opened-spared : {D : Type 0} (g : Ghosts D) (name : List ℕ) (files left : Files D) (fault : StoreFault) → AreUntouched g files left fault ⊎ AreGivenBack g files left fault → AreSpared g name files left fault
not-opened-spared {D} g name files left fault (inl untouched) = inl untouched
not-opened-spared {D} g name files left fault (inr given) = inr (inl given)
