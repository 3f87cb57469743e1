-- Stores that are read one after another: what is known of them after one more.
use Rattle.std.proofs.Common.{◌≡◌, ℕ, ◌+◌, ◌<◌, List, [], ◌∷◌, ◌++◌, Some, Err, inl, inr, refl, sym, ap, subst, ◌∙◌, length, arith}
use Rattle.std.specs.Prelude.{slice_get}
use Rattle.std.proofs.Math.ListN.{set}
use Rattle.std.proofs.lemmas.Bool.{cases_eq}
use Rattle.units.specs.declared.code.Node.{Node}
use Rattle.protocol.specs.Input.{Input}
use Rattle.protocol.specs.Scheme.{Scheme}
use Rattle.units.proofs.Lists.OneValue.{one_some}
use Rattle.units.proofs.Lists.Positions.{last_at}
use Rattle.protocol.proofs.Replaying.{slice_get_front}
use Rattle.stores.specs.declared.fault.StoreFault.{StoreFault}
use Rattle.stores.specs.declared.fault.StoreFault.TheVariants.{Device, Full, Damaged, WrongNode, WrongVersion, Reopen, NoMemory}
use Rattle.node_state.specs.Loading.{IsLoaded}
use Rattle.command_faults.specs.Faults.{of_store}
use Rattle.command_faults.specs.declared.fault.OpFault.{OpFault}
use Rattle.command_faults.specs.declared.fault.OpFault.TheVariants.{Input as Line, Read, Write, Store, Stuck, Unsettled, Setup, Undone}
use Rattle.command_faults.specs.declared.fault.OpFault.TheVariants as op
use Rattle.stores.specs.declared.node_store.NodeStore.{Ghosts}
use Rattle.loading.specs.Stores.{AreLoadedTo, AreUnwritten, FailsToLoad, FailsToLoadAt, IsLoadedAs, IsUnwritten}
use Rattle.weave.proofs.Lists.{set_here, set_other}

module _ {S : Type 0} (g : Ghosts S) where
  pub kept_same : (old : S) → IsUnwritten g old old
  kept_same old = record { honest = λ h. h; same = λ h runs. refl; whose = refl; own = λ h runs own. own }

  pub all_same : (olds : List S) → AreUnwritten g olds olds
  all_same olds k old new was is = subst (IsUnwritten g old) (one_some old new (sym was ∙ is)) (kept_same old)

  -- the store at an index was read, and those at other indices are as they were
  pub kept_more : (olds news : List S) (at : ℕ) (old new : S) → at < length news → slice_get olds at ≡ Some old → IsUnwritten g old new
      → AreUnwritten g olds news → AreUnwritten g olds (set news at new)
  kept_more olds news at old new below was kept all k o w iso isw =
      elim (cases_eq k at) [
        | inl e ↦
            let here : Some old ≡ Some o = sym was ∙ subst (λ z. slice_get olds z ≡ Some o) e iso in
            let there : Some new ≡ Some w = sym (set_here news at new below) ∙ subst (λ z. slice_get (set news at new) z ≡ Some w) e isw in
            subst (λ z. IsUnwritten g z w) (one_some old o here) (subst (IsUnwritten g old) (one_some new w there) kept)
        | inr apart ↦ all k o w iso (sym (set_other news at k new apart) ∙ isw)
      ]

module _ {S : Type 0} (g : Ghosts S) (scheme : Scheme) where
  pub fails_at : (n : Node) (old new : S) (fault : StoreFault) → IsLoaded g scheme n old new (Err fault) → FailsToLoadAt g scheme n old new (of_store n fault)
  fails_at n old new Device l = (refl, (λ e. cc (e)), l)
  fails_at n old new Full l = (refl, (λ e. cc (e)), l)
  fails_at n old new (Damaged p) l = (refl, (λ e. cc (e)), l)
  fails_at n old new WrongNode l = (refl, (λ e. cc (e)), l)
  fails_at n old new WrongVersion l = (refl, (λ e. cc (e)), l)
  fails_at n old new Reopen l = (refl, (λ e. cc (e)), l)
  fails_at n old new NoMemory l = tt

  pub loaded_more : (ns : List Node) (olds news : List S) (journals : List (List Input)) (at : ℕ) (n : Node) (old new : S) (journal : List Input) → length journals ≡ at → at < length news → slice_get ns at ≡ Some n → slice_get olds at ≡ Some old
      → IsLoadedAs g scheme n old new journal → AreLoadedTo g at scheme ns olds news journals
      → AreLoadedTo g (at + 1) scheme ns olds (set news at new) (journals ++ journal ∷ [])
  loaded_more ns olds news journals at n old new journal count below isn was loaded all k m o w j under ism iso isw isj =
      elim (cases_eq k at) [
        | inl e ↦
            let node : Some n ≡ Some m = sym isn ∙ subst (λ z. slice_get ns z ≡ Some m) e ism in
            let here : Some old ≡ Some o = sym was ∙ subst (λ z. slice_get olds z ≡ Some o) e iso in
            let there : Some new ≡ Some w = sym (set_here news at new below) ∙ subst (λ z. slice_get (set news at new) z ≡ Some w) e isw in
            let last : Some journal ≡ Some j = sym (last_at journals journal) ∙ subst (λ z. slice_get (journals ++ journal ∷ []) z ≡ Some j) (e ∙ sym count) isj in
            subst (λ z. IsLoadedAs g scheme z o w j) (one_some n m node)
            (subst (λ z. IsLoadedAs g scheme n z w j) (one_some old o here)
            (subst (λ z. IsLoadedAs g scheme n old z j) (one_some new w there)
            (subst (IsLoadedAs g scheme n old new) (one_some journal j last) loaded)))
        | inr apart ↦
            let before : k < at = omega (arith, under, apart) in
            all k m o w j before ism iso (sym (set_other news at k new apart) ∙ isw) (sym (slice_get_front journals (journal ∷ []) k (omega (arith, before, count))) ∙ isj)
      ]

  -- the store at an index was not read
  pub fails_first : (ns : List Node) (olds news : List S) (journals : List (List Input)) (at : ℕ) (n : Node) (old new : S) → length journals ≡ at → at < length news → slice_get ns at ≡ Some n → slice_get olds at ≡ Some old
      → AreLoadedTo g at scheme ns olds news journals → (e : OpFault) → FailsToLoadAt g scheme n old new e
      → FailsToLoad g scheme ns olds (set news at new) e
  fails_first ns olds news journals at n old new count below isn was all (Store told fault) f = record {
    at = at;
    old = old;
    new = new;
    journals = journals;
    is = isn ∙ ap Some (sym f.0);
    was = was;
    left = set_here news at new below;
    before = λ k m o w j under ism iso isw isj. all k m o w j under ism iso (sym (set_other news at k new (λ e. omega (arith, under, e))) ∙ isw) isj;
    count = count;
    cause = (refl, f.1, subst (λ (m : Node). IsLoaded g scheme m old new (Err fault)) (sym f.0) f.2);
  }
  fails_first ns olds news journals at n old new count below isn was all op.NoMemory f = tt
  fails_first ns olds news journals at n old new count below isn was all (Line line cause) f = absurd f
  fails_first ns olds news journals at n old new count below isn was all Read f = absurd f
  fails_first ns olds news journals at n old new count below isn was all (Write k) f = absurd f
  fails_first ns olds news journals at n old new count below isn was all (Stuck m place) f = absurd f
  fails_first ns olds news journals at n old new count below isn was all (Unsettled m) f = absurd f
  fails_first ns olds news journals at n old new count below isn was all (Setup told) f = absurd f
  fails_first ns olds news journals at n old new count below isn was all (Undone line) f = absurd f
