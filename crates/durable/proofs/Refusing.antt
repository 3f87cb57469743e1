-- Why SQLite did not open files.
use Rattle.std.proofs.Common.{◌≡◌, ◌⊎◌, inl, inr, ℕ, IsTrue, ◌==◌, if◌then◌else◌, Bool, true, false, refl, sym, ap, subst, ◌∙◌}
use Rattle.std.proofs.lemmas.Bool.{eq-eqb}
use Rattle.sqlite_disk.specs.declared.Disk.{Ghosts}
use Rattle.sqlite_disk.specs.declared.Files.{Files}
use Rattle.sqlite_disk.specs.declared.tally.Tally.{Tally}
use Rattle.sqlite.specs.WalReads.{AreClean, tally_of_files}
use Rattle.sqlite_trees.specs.declared.error.StoreError.TheVariants.{Io, Corrupt, Full}
use Rattle.sqlite_store.specs.Report.{named}
use Rattle.sqlite.specs.Closing.{files_left}
use Rattle.sqlite.specs.Files.{IsCleanLeft, FailsToOpenFiles, tally_left}
use Rattle.sqlite.specs.State.{store_error}
use Rattle.sqlite.specs.declared.error.Error.{Error}
use Rattle.sqlite.specs.declared.error.Error.TheVariants.{SqliteFailure}
use Rattle.sqlite.specs.declared.error.ErrorCode.TheVariants.{NotADatabase, DatabaseCorrupt, DiskFull, OutOfMemory}
use Rattle.sqlite.specs.declared.file.Leftover.{Leftover}
use Rattle.sqlite.specs.declared.file.Leftover.TheVariants as left
use Rattle.durable.specs.Backing.{IsNoDatabase}
use Rattle.stores.specs.Faults.{is_device_fault}
use Rattle.durable.specs.Refusals.{IsFileFault}
use Rattle.stores.specs.declared.fault.StoreFault.{StoreFault}
use Rattle.stores.specs.declared.fault.StoreFault.TheVariants.{Device, Full, Damaged, WrongNode, WrongVersion, Reopen, NoMemory}
use Rattle.durable.proofs.Reopening.{is-clean}

-- files that are clean now were clean when the opening ended
pub clean-left : {D : Type 0} {g : Ghosts D} (rest : Leftover D g) (given : Files D) → (given.log, given.db) ≡ files_left rest → AreClean g given.log given.db → IsCleanLeft rest
clean-left {D} {g} (left.Files now) given same honest = subst (λ (p : D × D). AreClean g p.0 p.1) same honest
clean-left {D} {g} (left.Unopened it) given same honest = is-clean it.pool (subst (λ (p : D × D). AreClean g p.0 p.1) same honest)
clean-left {D} {g} (left.Store it) given same honest = is-clean it.pool (subst (λ (p : D × D). AreClean g p.0 p.1) same honest)

-- and their tally is the one that the opening left
tally-given : {D : Type 0} {g : Ghosts D} (rest : Leftover D g) (given : Files D) → (given.log, given.db) ≡ files_left rest → tally_of_files g (given.log, given.db) ≡ tally_left rest
tally-given {D} {g} (left.Files now) given same = ap (tally_of_files g) same
tally-given {D} {g} (left.Unopened it) given same = ap (tally_of_files g) same
tally-given {D} {g} (left.Store it) given same = ap (tally_of_files g) same

-- no failed call gives the error `NotADatabase`
fault-named : (a b : Bool) → SqliteFailure NotADatabase ≡ store_error (if a then (if b then Io else Full) else Corrupt) → ⊥
fault-named true true e = absurd (cc (e))
fault-named true false e = absurd (cc (e))
fault-named false b e = absurd (cc (e))

-- nor the error `DatabaseCorrupt`, where no read was found wrong
damage-named : (b : Bool) → SqliteFailure DatabaseCorrupt ≡ store_error (if b then Io else Full) → ⊥
damage-named true e = absurd (cc (e))
damage-named false e = absurd (cc (e))

-- the error of an opening of files that hold no database
abbrev pub Refuses : Tally → Tally → Error → Type 0
Refuses before now e = (e ≡ SqliteFailure NotADatabase) ⊎ ((e ≡ SqliteFailure DatabaseCorrupt) × (now.caught ≡ before.caught))

not-named : (before now : Tally) (e : Error) → Refuses before now e → e ≡ store_error (named before now) → ⊥
not-named before now e (inl is) called = fault-named (now.caught == before.caught) (now.refused == before.refused) (sym is ∙ called)
not-named before now e (inr (is, same)) called =
    damage-named (now.refused == before.refused)
    (subst (λ a. SqliteFailure DatabaseCorrupt ≡ store_error (if a then (if now.refused == before.refused then Io else Full) else Corrupt)) (eq-eqb now.caught before.caught same) (sym is ∙ called))

not-memory : (before now : Tally) (e : Error) → Refuses before now e → e ≡ SqliteFailure OutOfMemory → ⊥
not-memory before now e (inl is) called = cc (is, called)
not-memory before now e (inr (is, same)) called = cc (is, called)

not-full : (before now : Tally) (e : Error) → Refuses before now e → e ≡ SqliteFailure DiskFull → ⊥
not-full before now e (inl is) called = cc (is, called)
not-full before now e (inr (is, same)) called = cc (is, called)

no-database-by : {D : Type 0} {g : Ghosts D} (files : Files D) (rest : Leftover D g) (e : Error) → Refuses (tally_of_files g (files.log, files.db)) (tally_left rest) e → FailsToOpenFiles files rest e → IsNoDatabase g files
no-database-by {D} {g} files rest e refuses (inl memory) = absurd (not-memory (tally_of_files g (files.log, files.db)) (tally_left rest) e refuses memory)
no-database-by files rest e refuses (inr (inl (is, never))) = never
no-database-by {D} {g} files rest e refuses (inr (inr (inl (called, more)))) = absurd (not-named (tally_of_files g (files.log, files.db)) (tally_left rest) e refuses called)
no-database-by {D} {g} files rest e refuses (inr (inr (inr (full, limit)))) = absurd (not-full (tally_of_files g (files.log, files.db)) (tally_left rest) e refuses full)

no-database : {D : Type 0} {g : Ghosts D} (files given : Files D) (rest : Leftover D g) (e : Error) → (given.log, given.db) ≡ files_left rest → (IsCleanLeft rest → FailsToOpenFiles files rest e)
    → AreClean g given.log given.db → Refuses (tally_of_files g (files.log, files.db)) (tally_of_files g (given.log, given.db)) e → IsNoDatabase g files
no-database {D} {g} files given rest e same cause honest refuses =
    no-database-by files rest e (subst (λ (now : Tally). Refuses (tally_of_files g (files.log, files.db)) now e) (tally-given rest given same) refuses) (cause (clean-left rest given same honest))

-- the fault for an error, by the tallies of the files before and after
pub not-opened : {D : Type 0} {g : Ghosts D} (files given : Files D) (rest : Leftover D g) (e : Error) (before now : Tally) (fault : StoreFault) → (given.log, given.db) ≡ files_left rest
    → (IsCleanLeft rest → FailsToOpenFiles files rest e) → AreClean g given.log given.db → before ≡ tally_of_files g (files.log, files.db) → now ≡ tally_of_files g (given.log, given.db)
    → (fault ≡ Damaged 0) ⊎ ((fault ≡ NoMemory) ⊎ IsTrue (is_device_fault fault)) → ((p : ℕ) → fault ≡ Damaged p → Refuses before now e) → IsFileFault g files fault
not-opened {D} {g} files given rest e before now fault same cause honest was is (inl damaged) told =
    let refuses = subst (λ (t : Tally). Refuses (tally_of_files g (files.log, files.db)) t e) is (subst (λ (t : Tally). Refuses t now e) was (told 0 damaged)) in
    subst (IsFileFault g files) (sym damaged) (refl, no-database files given rest e same cause honest refuses)
not-opened {D} {g} files given rest e before now fault same cause honest was is (inr (inl memory)) told = subst (IsFileFault g files) (sym memory) tt
not-opened {D} {g} files given rest e before now Device same cause honest was is (inr (inr device)) told = tt
not-opened {D} {g} files given rest e before now Full same cause honest was is (inr (inr device)) told = tt
not-opened {D} {g} files given rest e before now (Damaged p) same cause honest was is (inr (inr device)) told = absurd (cc (device))
not-opened {D} {g} files given rest e before now WrongNode same cause honest was is (inr (inr device)) told = absurd (cc (device))
not-opened {D} {g} files given rest e before now WrongVersion same cause honest was is (inr (inr device)) told = absurd (cc (device))
not-opened {D} {g} files given rest e before now Reopen same cause honest was is (inr (inr device)) told = absurd (cc (device))
not-opened {D} {g} files given rest e before now NoMemory same cause honest was is (inr (inr device)) told = absurd (cc (device))
