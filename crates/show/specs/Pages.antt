-- Going over a store by pages: the state of the store after reading them, and the text after writing their lines. No
-- public contract cites it.
use Rattle.std.specs.Prelude.{◌≡◌, ◌≢◌, ◌≤◌, ◌<◌, ◌+◌, ℕ, false, List, [], length, take, drop, Option, IsTrue}
use Rattle.std.specs.Io.KnownBytes.{Appends, Keeps}
use Rattle.units.specs.declared.code.Node.{Node}
use Rattle.wire.specs.declared.input.Input.{Input}
use Rattle.stores.specs.Faults.{is_device_fault, count_after, IsReadFault}
use Rattle.stores.specs.Records.{Places, AreRecords}
use Rattle.stores.specs.declared.fault.StoreFault.{StoreFault}
use Rattle.stores.specs.declared.fault.StoreFault.TheVariants.{Reopen, NoMemory as OutOfMemory}
use Rattle.stores.specs.declared.node_store.NodeStore.{Ghosts}
use Rattle.command_faults.specs.declared.fault.OpFault.{OpFault}
use Rattle.command_faults.specs.declared.fault.OpFault.TheVariants as op_fault
use Rattle.report.specs.declared.form.Form.{Form}
use Rattle.show.specs.Show.{record_lines}

-- ---- the store

module _ {S : Type 0} (g : Ghosts S) where
  -- these are the records from that place on
  pub record Reads (old new : S) (from : ℕ) (inputs : List Input) : Type 0 where
    pub are : g.is_honest new → AreRecords (take (length inputs) (drop from (g.content old))) inputs
    pub honest : g.is_honest new → g.is_honest old
    pub kept : g.is_honest new → g.content new ≡ g.content old
    pub counted : g.faults new ≡ g.faults old
    pub runs : g.must_reopen old ≡ false → g.must_reopen new ≡ false
    pub waits : IsTrue (g.must_reopen old) → (new ≡ old) × (inputs ≡ [])

  -- reading ended with that fault
  pub record Stops (old new : S) (fault : StoreFault) : Type 0 where
    pub honest : g.is_honest new → g.is_honest old
    pub kept : g.is_honest new → g.must_reopen new ≡ false → g.content new ≡ g.content old
    pub counted : g.faults new ≡ count_after (g.faults old) fault
    pub named : g.must_reopen old ≡ false → IsReadFault fault
    pub reopen : IsTrue (g.must_reopen old) → (fault ≡ Reopen) × (new ≡ old)

  -- that number of records was read from the front, and their lines, of that number of bytes, were written
  pub record Shows (form : Form) (old new : S) (before after : Option (List ℕ)) (records bytes : ℕ) : Type 0 where
    pub inputs : List Input
    pub many : length inputs ≡ records
    pub reads : Reads old new 0 inputs
    pub size : bytes ≡ length (record_lines form 0 inputs)
    pub lines : Appends before after (record_lines form 0 inputs)

-- ---- the writer

-- that number of bytes was written: the first ones of the lines of the first records
pub record IsBegun (form : Form) (count : ℕ) (honest : Type 0) (places : Places) (before after : Option (List ℕ)) : Type 0 where
  pub inputs : List Input
  pub are : honest → AreRecords (take (length inputs) places) inputs
  pub within : count ≤ length (record_lines form 0 inputs)
  pub written : Appends before after (take count (record_lines form 0 inputs))

-- the fault is that of the node's store, other than lack of memory; where all places had records, the device failed
pub record FailsAgain (node told : Node) (fault : StoreFault) (records : ℕ) (honest : Type 0) (places : Places) : Type 0 where
  pub whose : told ≡ node
  pub named : fault ≢ OutOfMemory
  pub device : honest → (all : List Input) → AreRecords places all → records ≤ length all → IsTrue (is_device_fault fault)

-- the lines of that number of records were to be written, and a fault came before the last byte
abbrev pub FailsToWrite : Form → OpFault → Node → ℕ → (honest : Type 0) → Places → (before after : Option (List ℕ)) → Type 0
FailsToWrite form (op_fault.Store told fault) node records honest places v w = FailsAgain node told fault records honest places × ((count : ℕ) × IsBegun form count honest places v w)
FailsToWrite form op_fault.NoMemory node records honest places v w = (count : ℕ) × IsBegun form count honest places v w
FailsToWrite form (op_fault.Write count) node records honest places v w = IsBegun form count honest places v w
FailsToWrite form _ node records honest places v w = ⊥

-- of a text that comes after `written` bytes, the bytes up to that count were written, but not all
pub record IsWithin (count written : ℕ) (text : List ℕ) (before after : Option (List ℕ)) : Type 0 where
  pub more : ℕ
  pub sum : count ≡ written + more
  pub fewer : more < length text
  pub appended : Appends before after (take more text)

-- of a text that comes after `written` bytes, nothing or only a part was written
abbrev pub FailsWithin : OpFault → (written : ℕ) → (text : List ℕ) → (before after : Option (List ℕ)) → Type 0
FailsWithin (op_fault.Write count) written text v w = IsWithin count written text v w
FailsWithin op_fault.NoMemory written text v w = Keeps v w
FailsWithin _ written text v w = ⊥
