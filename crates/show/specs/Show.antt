-- The text that `show` writes of a store, and why it fails.
use Rattle.std.specs.Prelude.{◌≡◌, ◌≢◌, ◌<◌, ◌+◌, ◌++◌, ℕ, List, [], ◌∷◌, length, take, codes, decimal, Option, ◌⊎◌, IsTrue}
use Rattle.std.specs.Io.KnownBytes.{Appends, Keeps}
use Rattle.units.specs.declared.code.Node.{Node}
use Rattle.wire.specs.Records.{record_text}
use Rattle.wire.specs.declared.input.Input.{Input}
use Rattle.stores.specs.Faults.{is_device_fault}
use Rattle.stores.specs.Records.{Places, AreRecords, IsDamagedAt}
use Rattle.stores.specs.declared.fault.StoreFault.{StoreFault}
use Rattle.stores.specs.declared.fault.StoreFault.TheVariants.{Damaged, NoMemory as OutOfMemory}
use Rattle.report.specs.ReportLines.{end_line}
use Rattle.report.specs.declared.form.Form.{Form}
use Rattle.report.specs.declared.form.Form.TheVariants.{Lines, Json}
use Rattle.command_faults.specs.declared.fault.OpFault.{OpFault}
use Rattle.command_faults.specs.declared.fault.OpFault.TheVariants as op_fault

-- a record after its place, or both as JSON
abbrev pub record_line : Form → ℕ → Input → List ℕ
record_line Lines place input = decimal place ++ codes " " ++ record_text input ++ codes "\n"
record_line Json place input = codes "{\"place\":" ++ decimal place ++ codes ",\"record\":" ++ record_text input ++ codes "}\n"

-- the lines of the records, the first of which is at that place
abbrev pub record_lines : Form → ℕ → List Input → List ℕ
record_lines form place [] = []
record_lines form place (input ∷ inputs) = record_line form place input ++ record_lines form (place + 1) inputs

-- the lines of all records, and the last line
abbrev pub shown : Form → List Input → List ℕ
shown form inputs = record_lines form 0 inputs ++ end_line form

-- the fault is that of the node's store, other than lack of memory. Where the store is honest and the fault is
-- `Damaged`, the place that it names is damaged
pub record IsToldFault (node told : Node) (fault : StoreFault) (honest : Type 0) (places : Places) : Type 0 where
  pub whose : told ≡ node
  pub named : fault ≢ OutOfMemory
  pub damaged : honest → (p : ℕ) → fault ≡ Damaged p → IsDamagedAt p places

-- the first bytes of the text were written, but not all. Where the store is honest, the text shows its records
pub record IsCutOff (form : Form) (count : ℕ) (honest : Type 0) (places : Places) (old new : Option (List ℕ)) : Type 0 where
  pub inputs : List Input
  pub are : honest → AreRecords places inputs
  pub fewer : count < length (shown form inputs)
  pub written : Appends old new (take count (shown form inputs))

-- some of the first bytes of the text were written, but not all
abbrev pub IsPartlyShown : Form → (honest : Type 0) → Places → (old new : Option (List ℕ)) → Type 0
IsPartlyShown form honest places v w = (count : ℕ) × IsCutOff form count honest places v w

-- a fault of the store comes before anything is written; where the store is honest, only a fault of its device may come
-- later too
abbrev pub FailsToShow : Form → OpFault → Node → (honest : Type 0) → Places → (old new : Option (List ℕ)) → Type 0
FailsToShow form (op_fault.Store told fault) node honest places v w =
    IsToldFault node told fault honest places × (Keeps v w ⊎ ((honest → IsTrue (is_device_fault fault)) × IsPartlyShown form honest places v w))
FailsToShow form op_fault.NoMemory node honest places v w = Keeps v w ⊎ IsPartlyShown form honest places v w
FailsToShow form (op_fault.Write count) node honest places v w = IsCutOff form count honest places v w
FailsToShow form _ node honest places v w = ⊥
