-- Which faults are those of the device or of size.
use Rattle.std.specs.Prelude.{ℕ, ◌+◌, ◌%◌, ◌^◌, ◌==◌, Bool, true, false, not, Result, Ok, Err}
use Rattle.stores.specs.declared.fault.StoreFault.{StoreFault}
use Rattle.stores.specs.declared.fault.StoreFault.TheVariants.{Device, Full, Damaged, WrongNode, WrongVersion, NoMemory}

abbrev pub is_device_fault : StoreFault → Bool
is_device_fault Device = true
is_device_fault Full = true
is_device_fault _ = false

-- the store was examined, and is none of this node
abbrev pub is_judgement : StoreFault → Bool
is_judgement (Damaged place) = true
is_judgement WrongNode = true
is_judgement WrongVersion = true
is_judgement _ = false

-- a store was found that is another node's, has another format, or has a place without a record; at place 0 the fault
-- may also be that there is no store
abbrev pub refuses_a_store : StoreFault → Bool
refuses_a_store (Damaged place) = not (place == 0)
refuses_a_store WrongNode = true
refuses_a_store WrongVersion = true
refuses_a_store _ = false

-- a fault with which reading a store that runs may fail
abbrev pub IsReadFault : StoreFault → Type 0
IsReadFault Device = Unit {0}
IsReadFault Full = Unit {0}
IsReadFault (Damaged place) = Unit {0}
IsReadFault NoMemory = Unit {0}
IsReadFault _ = ⊥

-- the count of failed calls of the device, this fault included; 0 follows the greatest number
abbrev pub count_after : ℕ → StoreFault → ℕ
count_after n Device = (n + 1) % 2 ^ 64
count_after n Full = (n + 1) % 2 ^ 64
count_after n _ = n

-- the count after a call, which may have failed
abbrev pub faults_after : {X : Type 0} → ℕ → Result X StoreFault → ℕ
faults_after n (Ok x) = n
faults_after n (Err fault) = count_after n fault
