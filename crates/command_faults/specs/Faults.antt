-- The words for the faults of a line and of a store, and the program's exit status.
use Rattle.std.specs.Prelude.{ℕ, List, ◌++◌, codes, decimal}
use Rattle.units.specs.Code.{node_text}
use Rattle.units.specs.declared.code.Node.{Node}
use Rattle.stores.specs.FaultTexts.{fault_text}
use Rattle.stores.specs.declared.fault.StoreFault.{StoreFault}
use Rattle.stores.specs.declared.fault.StoreFault.TheVariants as store_faults
use Rattle.command_faults.specs.declared.fault.Cause.{Cause}
use Rattle.command_faults.specs.declared.fault.Cause.TheVariants.{NotJson, Shape, TooMany, TooFew, CodeTwice, AccountTwice, UnknownAccount, AllotmentOverlap, Order, Truncated, TooLong}
use Rattle.command_faults.specs.declared.fault.OpFault.{OpFault}
use Rattle.command_faults.specs.declared.fault.OpFault.TheVariants.{Input, Read, Write, Store, Stuck, Unsettled, Setup, Undone, NoMemory}
use Rattle.command_faults.specs.SetupFaults.{setup_fault_status, setup_fault_text}
use Rattle.streams.specs.declared.whole.ReadFault.{ReadFault}
use Rattle.streams.specs.declared.whole.ReadFault.TheVariants as reading

abbrev pub cause_text : Cause → List ℕ
cause_text NotJson = codes "not-json"
cause_text Shape = codes "shape"
cause_text TooMany = codes "too-many"
cause_text TooFew = codes "too-few"
cause_text CodeTwice = codes "code-twice"
cause_text AccountTwice = codes "account-twice"
cause_text UnknownAccount = codes "unknown-account"
cause_text AllotmentOverlap = codes "allotment-overlap"
cause_text Order = codes "order"
cause_text Truncated = codes "truncated"
cause_text TooLong = codes "too-long"

-- the text that is printed for a fault
abbrev pub op_fault_text : OpFault → List ℕ
op_fault_text (Input line cause) = codes "line " ++ decimal line ++ codes ": " ++ cause_text cause
op_fault_text Read = codes "read failed"
op_fault_text (Write count) = codes "write failed after " ++ decimal count ++ codes " bytes"
op_fault_text (Store node fault) = codes "store " ++ node_text node ++ codes ": " ++ fault_text fault
op_fault_text (Stuck node place) = codes "stuck at " ++ node_text node ++ codes " " ++ decimal place
op_fault_text (Unsettled node) = codes "unsettled " ++ node_text node
op_fault_text (Setup fault) = setup_fault_text fault
op_fault_text (Undone line) = codes "line " ++ decimal line ++ codes ": not carried out"
op_fault_text NoMemory = codes "out of memory"

-- the command's fault for a fault of a reader
abbrev pub of_reading : ReadFault → OpFault
of_reading (reading.Read calls) = Read
of_reading (reading.NoMemory calls) = NoMemory

-- lack of memory is the command's own fault, and every other fault is the store's
abbrev pub of_store : Node → StoreFault → OpFault
of_store node store_faults.NoMemory = NoMemory
of_store node fault = Store node fault

-- the exit status. 1: no run leads to the journals, the notes of a node's threads aren't those of one thread alone, or a
-- line was not carried out; 2, 3 or 4: the command can't begin; 3: the input, its reading or the output; 4: a store;
-- 5: memory
abbrev pub exit_status : OpFault → ℕ
exit_status (Input line cause) = 3
exit_status Read = 3
exit_status (Write count) = 3
exit_status (Store node fault) = 4
exit_status (Stuck node place) = 1
exit_status (Unsettled node) = 1
exit_status (Setup fault) = setup_fault_status fault
exit_status (Undone line) = 1
exit_status NoMemory = 5
