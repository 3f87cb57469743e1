-- What a call of a store may return, and the state that it may leave, regardless of the kind of store, from the ghost
-- fields of a store at one moment.
use Rattle.std.specs.Prelude.{◌≡◌, ◌≢◌, ◌⊎◌, ◌++◌, ◌-◌, ◌≤◌, ℕ, Bool, false, List, [], Vec, Result, Ok, Err, IfOk, IfErr, OnOk, OnErr, IsTrue}
use Rattle.std.specs.declared.alloc.Global.{Global}
use Rattle.wire.specs.declared.input.Input.{Input}
use Rattle.stores.specs.Faults.{is_device_fault, refuses_a_store, IsReadFault}
use Rattle.stores.specs.Records.{Places, AreRecords, IsDamagedAt, IsAllOrNone, written}
use Rattle.stores.specs.declared.fault.StoreFault.{StoreFault}
use Rattle.stores.specs.declared.fault.StoreFault.TheVariants.{Reopen, NoMemory, Damaged}

-- a store's ghost fields: whether it is honest; the text at each place while it runs; the contents that a crash or a
-- reopening may find; whether a fault stopped it and it must be reopened first
module _ {S : Type 0} (is_honest : S → Type 0) (content : S → Places) (may_hold : S → Places → Type 0) (must_reopen : S → Bool) where
  -- a store that runs and is honest holds its content
  abbrev pub IsSettled : S → Type 0
  IsSettled store = is_honest store → must_reopen store ≡ false → (next : Places) → may_hold store next → next ≡ content store

  -- the whole batch was appended, or nothing of it
  pub record Appends (old new : S) (batch : List Input) (result : Result Unit StoreFault) : Type 0 where
    pub reopen : IsTrue (must_reopen old) → (result ≡ Err Reopen) × (new ≡ old)
    pub named : must_reopen old ≡ false → IfErr result (λ e. (e ≡ NoMemory) ⊎ IsTrue (is_device_fault e))
    pub stops : OnErr result (IsTrue (must_reopen new))
    pub runs : OnOk result (must_reopen new ≡ false)
    pub honest : is_honest new → is_honest old
    pub empty : must_reopen old ≡ false → batch ≡ [] → (result ≡ Ok tt) × (new ≡ old)
    pub ok : is_honest new → OnOk result (content new ≡ content old ++ written batch)
    pub refused : is_honest new → must_reopen old ≡ false → IfErr result (λ e. is_device_fault e ≡ false → (next : Places) → may_hold new next → next ≡ content old)
    pub crash : is_honest new → must_reopen old ≡ false → (next : Places) → may_hold new next → IsAllOrNone (content old) batch next
    pub settled : IsSettled new

  -- the records of these places were read; the first is at that place of the content
  pub record Loads (old new : S) (first : ℕ) (places : Places) (result : Result (Vec Input Global) StoreFault) : Type 0 where
    pub reopen : IsTrue (must_reopen old) → (result ≡ Err Reopen) × (new ≡ old)
    pub honest : is_honest new → is_honest old
    pub ok : is_honest new → IfOk result (λ inputs. AreRecords places inputs.items)
    pub damaged : is_honest new → IfErr result (λ e. (p : ℕ) → e ≡ Damaged p → (first ≤ p) × IsDamagedAt (p - first) places)
    pub named : must_reopen old ≡ false → IfErr result IsReadFault
    pub stops : must_reopen old ≡ false → IfErr result (λ e. must_reopen new ≡ is_device_fault e)
    pub runs : OnOk result (must_reopen new ≡ false)
    pub kept : is_honest new → must_reopen new ≡ false → content new ≡ content old
    pub crash : is_honest new → must_reopen old ≡ false → (next : Places) → may_hold new next → next ≡ content old

  -- the store was opened again: its content is one that it could hold before. A store that was found and refused holds
  -- a content that it could hold before
  pub record Reopens (old new : S) (result : Result Unit StoreFault) : Type 0 where
    pub named : IfErr result (λ e. e ≢ Reopen)
    pub runs : OnOk result (must_reopen new ≡ false)
    pub stops : OnErr result (IsTrue (must_reopen new))
    pub honest : OnOk result (is_honest new → is_honest old)
    pub settles : is_honest new → OnOk result ∥ may_hold old (content new) ∥₁
    pub settled : OnOk result (IsSettled new)
    pub refused : is_honest new → IfErr result (λ e. IsTrue (refuses_a_store e) → is_honest old × ((next : Places) → may_hold new next → ∥ may_hold old next ∥₁))
