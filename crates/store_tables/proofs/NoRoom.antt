-- Why a statement of an append has no room.
use Rattle.std.proofs.Common.{◌≡◌, ◌⊎◌, inl, inr, ℕ, zero, suc, ◌<◌, List, [], ◌∷◌, Vec, Global, map, get_or, length, Option, Some, None, Result, Err, false, refl, sym, ap, subst, ◌∙◌, arith}
use Rattle.std.specs.Prelude.{Any}
use Rattle.std.proofs.lemmas.Bool.{cases_Bool}
use Rattle.sqlite_disk.specs.Disk.{MoreFaults}
use Rattle.sqlite_trees.specs.declared.error.StoreError.{StoreError}
use Rattle.sqlite_trees.specs.declared.error.StoreError.TheVariants as store
use Rattle.sqlite.specs.Command.{Command}
use Rattle.sqlite_resolve.specs.declared.compiled.Compiled.{Compiled}
use Rattle.sqlite.specs.declared.error.Error.{Error}
use Rattle.sqlite.specs.declared.error.Error.TheVariants.{ExecuteReturnedResults}
use Rattle.sqlite.specs.Clock.{timed}
use Rattle.sqlite.specs.Does.{Does}
use Rattle.sqlite.specs.Order.{Row}
use Rattle.sqlite.specs.State.{State, mode_of, text_of, store_error, HasCause, Fails, IsNoStatement, IsNotRun, IsMisplaced, IsStatement, Executes, ExecutesIn, ExecutesInside, shows_rows}
use Rattle.stores.specs.Bodies.{items}
use Rattle.store_tables.specs.SqlFaults.{store_fault_of}
use Rattle.store_tables.specs.Held.{slots_in, IsInside}
use Rattle.store_tables.specs.Rooms.{insert_text, given, enforced, IsRefused, IsRefusedAt}
use Rattle.stores.specs.declared.fault.StoreFault.{StoreFault}
use Rattle.stores.specs.declared.fault.StoreFault.TheVariants.{Device, Full, NoMemory}

no-memory : NoMemory ≡ Full → ⊥
no-memory e = cc (e)

no-device : Device ≡ Full → ⊥
no-device e = cc (e)

-- an error that gives another fault
other : (e f : Error) (fault : StoreFault) → e ≡ f → store_fault_of f ≡ fault → (fault ≡ Full → ⊥) → store_fault_of e ≡ Full → ⊥
other e f fault is tells never full = never (sym tells ∙ ap store_fault_of (sym is) ∙ full)

same-error : (e f : Error) → ◌≡◌ {A = Result ℕ Error} (Err e) (Err f) → e ≡ f
same-error e f is = cc (is)

by-cause : (old new : State) (TooBig : Type 0) (cause : StoreError) (e : Error) → e ≡ store_error cause → HasCause old new TooBig cause → store_fault_of e ≡ Full → MoreFaults old.faults new.faults ⊎ TooBig
by-cause old new TooBig store.OutOfMemory e is has full = absurd (other e _ NoMemory is refl no-memory full)
by-cause old new TooBig store.Io e is has full = inl has
by-cause old new TooBig store.Corrupt e is has full = inl has
by-cause old new TooBig store.Full e is has full = inl has
by-cause old new TooBig store.Broken e is has full = absurd (other e _ Device is refl no-device full)
by-cause old new TooBig store.Unstorable e is has full = inr has

fails : (old new : State) (TooBig : Type 0) (e : Error) → Fails old new TooBig e → store_fault_of e ≡ Full → MoreFaults old.faults new.faults ⊎ TooBig
fails old new TooBig e h full = by-cause old new TooBig h.0 e h.1 h.2 full

no-statement : (s : State) (sql : List ℕ) (params : Row) (e : Error) → IsNoStatement s sql params e → store_fault_of e ≡ Full → ⊥
no-statement s sql params e (inl fault) full = other e _ Device fault.2 refl no-device full
no-statement s sql params e (inr (c, is, inl more)) full = other e _ Device more.1 refl no-device full
no-statement s sql params e (inr (c, is, inr (inl count))) full = other e _ Device count.1 refl no-device full
no-statement s sql params e (inr (c, is, inr (inr clock))) full = other e _ Device clock.1 refl no-device full

misplaced : (s : State) (command : Command) (e : Error) → IsMisplaced s command e → store_fault_of e ≡ Full → ⊥
misplaced s command e (inl h) full = other e _ Device h.0 refl no-device full
misplaced s command e (inr h) full = other e _ Device h.0 refl no-device full

-- the database itself refuses the statement
abbrev Refuses : State → List ℕ → Row → Type 0
Refuses s sql params =
    (c : Compiled) × (it : IsStatement s sql params c) × (stop : Option Error) × Does s.step_limit (mode_of s) (timed params c.formats it.now) s.now (text_of sql c) c.returning c.command (Err stop)

executes : (sql : List ℕ) (params : Row) (old new : State) (e : Error) → Executes sql params old new (Err e) → store_fault_of e ≡ Full → MoreFaults old.faults new.faults ⊎ Refuses old sql params
unfolding ExecutesIn IsNotRun
executes sql params old new e (inl (inl none)) full = absurd (no-statement old sql params e none.0 full)
executes sql params old new e (inl (inr h)) full = elim (fails old new ⊥ e h full) [ inl more ↦ inl more | inr never ↦ absurd never ]
executes sql params old new e (inr h) full = elim (cases_Bool (shows_rows false h.0)) [
  | inl shows ↦ absurd (other e _ Device (same-error e ExecuteReturnedResults (rw shows at h.2).0) refl no-device full)
  | inr runs ↦ elim (rw runs at h.2) [
    | inl refused ↦ elim (refused.0) [
      | inl wrong ↦ absurd (misplaced old h.0.command e wrong full)
      | inr does ↦ inr (h.0, h.1, Some e, does.1)
    ]
    | inr failed ↦ elim (fails old new _ e failed full) [ inl more ↦ inl more | inr large ↦ inr (h.0, h.1, None, large) ]
  ]
]

inside : (sql : List ℕ) (params : Row) (old new : State) (e : Error) → ExecutesInside 0 sql params old new (Err e) → store_fault_of e ≡ Full → MoreFaults old.faults new.faults ⊎ Refuses old sql params
inside sql params old new e (inl h) full = executes sql params old new e h.0 full
inside sql params old new e (inr h) full = absurd (other e _ Device h.1 refl no-device full)

pub put-full : (old new : State) (params : Row) (body : List ℕ) (e : Error) → params ≡ given (length (slots_in old.now.trees)) body → IsInside old → ExecutesInside 0 insert_text params old new (Err e) → store_fault_of e ≡ Full
    → MoreFaults old.faults new.faults ⊎ IsRefused body
put-full old new params body e is ready h full = elim (inside insert_text params old new e h full) [
  | inl more ↦ inl more
  | inr r ↦ inr (record {
    db = old.now;
    schema = ready.schema;
    store = ready.store;
    statement = r.0;
    means = r.1.is;
    limit = old.step_limit;
    now = r.1.now;
    stop = r.2;
    refused = subst (λ p. Does old.step_limit enforced (timed p r.0.formats r.1.now) old.now (text_of insert_text r.0) r.0.returning r.0.command (Err r.2)) is r.3;
  })
]

-- the bodies of texts
abbrev pub bodies_of : List (Vec ℕ Global) → List (Option (List ℕ))
bodies_of texts = map (λ body. Some body) (map items texts)

pub refused-at : (texts : List (Vec ℕ Global)) (k : ℕ) (d : Vec ℕ Global) → k < length texts → IsRefused (items (get_or texts k d)) → Any IsRefusedAt (bodies_of texts)
refused-at [] k d low h = absurd (omega (arith, low))
refused-at (text ∷ texts) zero d low h = (0, Some (items text), omega arith, refl, h)
refused-at (text ∷ texts) (suc k) d low h =
    let it = refused-at texts k d (omega (arith, low)) h in
    (suc it.0, it.1, omega (arith, it.2), it.3, it.4)
