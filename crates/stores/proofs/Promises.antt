-- What a user of a store relies on, from the states that its calls may leave.
use Rattle.std.proofs.Common.{◌≡◌, ℕ, Bool, true, false, List, Vec, Global, Result, Ok, Err, refl, sym, ◌∙◌, ap}
use Rattle.std.proofs.Math.Logic.{∥∥₁_map}
use Rattle.wire.specs.declared.input.Input.{Input}
use Rattle.stores.specs.Calls.{Appends, Loads, Reopens, IsSettled}
use Rattle.stores.specs.Records.{Places, IsAllOrNone}
use Rattle.stores.specs.declared.fault.StoreFault.{StoreFault}

module _ {S : Type 0} (is_honest : S → Type 0) (content : S → Places) (may_hold : S → Places → Type 0) (must_reopen : S → Bool) where
  pub whole : (old stopped new : S) (batch : List Input) (fault : StoreFault) → must_reopen old ≡ false → Appends is_honest content may_hold must_reopen old stopped batch (Err fault)
      → Reopens is_honest content may_hold must_reopen stopped new (Ok tt) → is_honest new → ∥ IsAllOrNone (content old) batch (content new) ∥₁
  whole old stopped new batch fault runs appended reopened honest =
      ∥∥₁_map (reopened.settles honest) (λ held. appended.crash (reopened.honest honest) runs (content new) held)

  -- with a store that may have had to be reopened before
  loaded_from : (old new : S) (first : ℕ) (places : Places) (result : Result (Vec Input Global) StoreFault) (waits : Bool) → must_reopen old ≡ waits
      → Loads is_honest content may_hold must_reopen old new first places result → IsSettled is_honest content may_hold must_reopen new
  loaded_from old new first places result true was loads = λ honest runs next held.
      let same = (loads.reopen was).1 in
      let never : true ≡ false = sym was ∙ sym (ap must_reopen same) ∙ runs in
      absurd (cc (never))
  loaded_from old new first places result false was loads = λ honest runs next held. loads.crash honest was next held ∙ sym (loads.kept honest runs)

  pub loaded : (old new : S) (first : ℕ) (places : Places) (result : Result (Vec Input Global) StoreFault) → Loads is_honest content may_hold must_reopen old new first places result
      → IsSettled is_honest content may_hold must_reopen new
  loaded old new first places result loads = loaded_from old new first places result (must_reopen old) refl loads
