-- Why a store isn't open, and the command's fault for it.
use Rattle.std.specs.Prelude.{ℕ, List}
use Rattle.units.specs.declared.code.Node.{Node}
use Rattle.stores.specs.declared.fault.StoreFault.{StoreFault}
use Rattle.command_faults.specs.Faults.{of_store}
use Rattle.command_faults.specs.declared.fault.OpFault.{OpFault}
use Rattle.command_faults.specs.declared.fault.OpFault.TheVariants.{Setup}
use Rattle.command_faults.specs.declared.setup_fault.SetupFault.TheVariants.{NoStore}
use Rattle.commands.specs.declared.archive.Unopened.{Unopened}
use Rattle.commands.specs.declared.archive.Unopened.TheVariants.{Missing, Fault}

-- the node's store in the folder is missing, or fails to open with that fault
abbrev pub IsUnopened : (misses : List ℕ → Node → Type 0) (fails : List ℕ → Node → StoreFault → Type 0) → List ℕ → Node → Unopened → Type 0
IsUnopened misses fails folder n Missing = misses folder n
IsUnopened misses fails folder n (Fault fault) = fails folder n fault

-- the fault of a command whose store of that node isn't open
abbrev pub of_unopened : Node → Unopened → OpFault
of_unopened n Missing = Setup (NoStore n)
of_unopened n (Fault fault) = of_store n fault
