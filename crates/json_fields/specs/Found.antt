-- The results of a reader: a value as described, or that there is none.
use Rattle.std.specs.Prelude.{Option, Some, None, Result, Ok, Err}
use Rattle.json_fields.specs.declared.fault.TextFault.{TextFault}
use Rattle.json_fields.specs.declared.fault.TextFault.TheVariants.{Shape, NoMemory}

-- a value as described, or Shape where there is none; memory may run out
abbrev pub Finds : {X : Type 0} → (X → Type 0) → Result X TextFault → Type 0
Finds P (Ok x) = P x
Finds {X} P (Err Shape) = (x : X) → P x → ⊥
Finds P (Err NoMemory) = Unit {0}

-- ---- a value that may be missing

-- a value as described, or None where there is none
abbrev pub Reads : {X : Type 0} → (X → Type 0) → Option X → Type 0
Reads P (Some x) = P x
Reads {X} P None = (x : X) → P x → ⊥
