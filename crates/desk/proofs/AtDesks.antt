-- What stays known of a state and its store at a desk after each call.
use Rattle.std.proofs.Common.{◌≡◌, ◌<◌, ◌≤◌, ◌++◌, ◌+◌, ℕ, Bool, true, false, List, [], ◌∷◌, length, take, if◌then◌else◌, Option, is_some, Result, Ok, Err, refl, sym, ap, subst, ◌∙◌, arith}
use Rattle.std.proofs.lemmas.List.{take-append-le}
use Rattle.units.specs.declared.code.Node.{Node}
use Rattle.units.specs.declared.refusal.Refusal.{Refusal}
use Rattle.wire.specs.declared.input.Input.{Input}
use Rattle.scheme.specs.declared.registries.Scheme.{Scheme}
use Rattle.protocol.specs.Cores.{after}
use Rattle.protocol.specs.declared.node_core.Stepped.{Stepped}
use Rattle.stores.specs.Calls.{Appends}
use Rattle.stores.specs.Faults.{count_after, faults_after}
use Rattle.stores.specs.declared.fault.StoreFault.{StoreFault}
use Rattle.stores.specs.declared.node_store.NodeStore.{Ghosts}
use Rattle.node_state.specs.Calls.{Takes, Tells, committed_by, done}
use Rattle.desk.specs.Keeping.{Commits, IsAtDesk, IsKept, StoredView, count_with, fault_after}
use Rattle.node_state.specs.Views.{StateView, tail}
use Rattle.node_state.specs.declared.notes.Told.{Told}
use Rattle.desk.proofs.Keepings.{after_more, never_ok}

-- what no call changes of a state, except that it may stop
record IsSame (old new : StateView) : Type 0 where
  pub scheme : new.scheme ≡ old.scheme
  pub node : new.node ≡ old.node
  pub first : take new.opening new.journal ≡ take old.opening old.journal
  pub runs : new.runs ≡ true → old.runs ≡ true

same_as : (old new : StateView) → new ≡ old → IsSame old new
same_as old new e = record {
  scheme = ap (λ (h : StateView). h.scheme) e;
  node = ap (λ (h : StateView). h.node) e;
  first = ap (λ (h : StateView). take h.opening h.journal) e;
  runs = λ r. sym (ap (λ (h : StateView). h.runs) e) ∙ r;
}

same_after : (old new : StateView) (more journal : List Input) → old.opening ≤ length old.journal → journal ≡ old.journal ++ more → new ≡ record old { journal = journal } → IsSame old new
same_after old new more journal early is e = record {
  scheme = ap (λ (h : StateView). h.scheme) e;
  node = ap (λ (h : StateView). h.node) e;
  first = ap (λ (h : StateView). take h.opening h.journal) e ∙ (ap (take old.opening) is ∙ take-append-le old.opening old.journal more early);
  runs = λ r. sym (ap (λ (h : StateView). h.runs) e) ∙ r;
}

takes_same : (old new : StateView) (input : Input) (result : Result Stepped Refusal) (runs : Bool) → old.opening ≤ length old.journal → old.runs ≡ runs → Takes old input result new → IsSame old new
takes_same old new input result false early is takes = same_as old new (takes.0 is).1
takes_same old new input result true early is takes =
    let more = after_more old.journal input result in
    same_after old new more.0 (after old.journal input result) early more.1 (takes.1 is).1

tells_same : (old new : StateView) (input : Input) (told : Told) → old.opening ≤ length old.journal → Tells old input told new → IsSame old new
tells_same old new input told early tells = takes_same old new input tells.0 old.runs early refl tells.2

module _ {S : Type 0} (g : Ghosts S) (opened : Scheme → Node → List Input → ℕ → Type 0) where
  abbrev At : StateView → S → Option StoreFault → Type 0
  At held store fault = IsAtDesk g opened (record { state = held; store = store }) fault

  began_still : (old new : StateView) (before : ℕ) → IsSame old new → opened old.scheme old.node (take old.opening old.journal) before → opened new.scheme new.node (take new.opening new.journal) before
  began_still old new before same began =
      subst (λ (s : Scheme). opened s new.node (take new.opening new.journal) before) (sym same.scheme)
      (subst (λ (n : Node). opened old.scheme n (take new.opening new.journal) before) (sym same.node)
      (subst (λ (first : List Input). opened old.scheme old.node first before) (sym same.first) began))

  at_same : (old new : StateView) (store : S) (fault : Option StoreFault) → IsSame old new → At old store fault → At new store fault
  at_same old new store fault same at = record {
    before = at.before;
    began = began_still old new at.before same at.began;
    counted = at.counted;
    stopped = at.stopped;
    running = λ runs. at.running (same.runs runs);
  }

  pub at_taken : (old new : StateView) (old_store new_store : S) (input : Input) (told : Told) (fault : Option StoreFault) → IsKept g (record { state = old; store = old_store })
      → Tells old input told new → new_store ≡ old_store → At old old_store fault → At new new_store fault
  at_taken old new old_store new_store input told fault kept tells store at =
      let early = kept.opening in
      let within = kept.committed in
      subst (λ (s : S). At new s fault) (sym store) (at_same old new old_store fault (tells_same old new input told (omega (arith, early, within)) tells) at)

  pub at_stopped : (old new : StateView) (old_store new_store : S) (fault : Option StoreFault) → new ≡ record old { runs = false } → new_store ≡ old_store → At old old_store fault → At new new_store fault
  at_stopped old new old_store new_store fault is store at =
      subst (λ (h : StateView). At h new_store fault) (sym is) (subst (λ (s : S). At (record old { runs = false }) s fault) (sym store) (record {
        before = at.before;
        began = at.began;
        counted = at.counted;
        stopped = at.stopped;
        running = λ never. absurd (cc (never));
      }))

  -- there was nothing to commit
  at_nothing : (old : StateView) (old_store new_store : S) (result : Result ℕ StoreFault) (fault : Option StoreFault) → result ≡ Ok 0 → new_store ≡ old_store → At old old_store fault → At (committed_by old result) new_store (fault_after fault result)
  at_nothing old old_store new_store (Err told) fault none store at = absurd (never_ok told none)
  at_nothing old old_store new_store (Ok count) fault none store at = subst (λ (s : S). At (record old { committed = old.committed + count }) s fault) (sym store) (record {
    before = at.before;
    began = at.began;
    counted = at.counted;
    stopped = at.stopped;
    running = at.running;
  })

  -- there was a batch to commit
  at_batch : (old : StateView) (old_store new_store : S) (batch : List Input) (result : Result ℕ StoreFault) (fault : Option StoreFault) → old.runs ≡ true
      → Appends g.is_honest g.content g.may_hold g.must_reopen old_store new_store batch (done result) → g.faults new_store ≡ faults_after (g.faults old_store) result
      → At old old_store fault → At (committed_by old result) new_store (fault_after fault result)
  at_batch old old_store new_store batch (Ok count) fault running appends counts at = record {
    before = at.before;
    began = at.began;
    counted = counts ∙ at.counted;
    stopped = appends.runs ∙ sym (ap is_some (at.running running));
    running = at.running;
  }
  at_batch old old_store new_store batch (Err told) fault running appends counts at = record {
    before = at.before;
    began = at.began;
    counted = counts ∙ ap (λ (n : ℕ). count_after n told) (at.counted ∙ ap (count_with at.before) (at.running running));
    stopped = appends.stops;
    running = λ never. absurd (cc (never));
  }

  at_cases : (old : StateView) (old_store new_store : S) (most : ℕ) (batch : List Input) (result : Result ℕ StoreFault) (fault : Option StoreFault) → old.runs ≡ true
      → (length batch ≡ 0 → (result ≡ Ok 0) × (new_store ≡ old_store))
      → (0 < length batch → Appends g.is_honest g.content g.may_hold g.must_reopen old_store new_store batch (done result)) → g.faults new_store ≡ faults_after (g.faults old_store) result
      → At old old_store fault → At (committed_by old result) new_store (fault_after fault result)
  at_cases old old_store new_store most [] result fault running none some counts at = let nothing = none refl in at_nothing old old_store new_store result fault nothing.0 nothing.1 at
  at_cases old old_store new_store most (input ∷ rest) result fault running none some counts at = at_batch old old_store new_store (input ∷ rest) result fault running (some (omega arith)) counts at

  at_runs : (old : StateView) (old_store new_store : S) (most : ℕ) (result : Result ℕ StoreFault) (fault : Option StoreFault) (runs : Bool) → old.runs ≡ runs
      → (length (if runs then take most (tail old) else []) ≡ 0 → (result ≡ Ok 0) × (new_store ≡ old_store))
      → (0 < length (if runs then take most (tail old) else []) → Appends g.is_honest g.content g.may_hold g.must_reopen old_store new_store (if runs then take most (tail old) else []) (done result))
      → g.faults new_store ≡ faults_after (g.faults old_store) result → At old old_store fault → At (committed_by old result) new_store (fault_after fault result)
  at_runs old old_store new_store most result fault true is none some counts at = at_cases old old_store new_store most (take most (tail old)) result fault is none some counts at
  at_runs old old_store new_store most result fault false is none some counts at = let nothing = none refl in at_nothing old old_store new_store result fault nothing.0 nothing.1 at

  -- a commit of at most `most` records
  pub at_committed : (old new : StoredView S) (most : ℕ) (result : Result ℕ StoreFault) (fault : Option StoreFault) → Commits g old new most result
      → g.faults new.store ≡ faults_after (g.faults old.store) result → IsAtDesk g opened old fault → IsAtDesk g opened new (fault_after fault result)
  at_committed old new most result fault commits counts at =
      subst (λ (h : StateView). At h new.store (fault_after fault result)) (sym commits.state)
      (at_runs old.state old.store new.store most result fault old.state.runs refl (λ none. let nothing = commits.none none in (nothing.0, ap (λ (k : StoredView S). k.store) nothing.1)) commits.some counts at)
