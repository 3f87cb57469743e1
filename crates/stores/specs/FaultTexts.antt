-- The words for a store's faults.
use Rattle.std.specs.Prelude.{ℕ, List, ◌++◌, codes, decimal}
use Rattle.stores.specs.declared.fault.StoreFault.{StoreFault}
use Rattle.stores.specs.declared.fault.StoreFault.TheVariants.{Device, Full, Damaged, WrongNode, WrongVersion, Reopen, NoMemory}

abbrev pub fault_text : StoreFault → List ℕ
fault_text Device = codes "device"
fault_text Full = codes "full"
fault_text (Damaged place) = codes "damaged " ++ decimal place
fault_text WrongNode = codes "wrong-node"
fault_text WrongVersion = codes "wrong-version"
fault_text Reopen = codes "reopen"
fault_text NoMemory = codes "out of memory"
