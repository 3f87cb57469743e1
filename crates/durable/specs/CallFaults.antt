-- The faults of calls of the database: out of memory, and those of its device.
use Rattle.std.specs.Prelude.{◌≡◌, ◌⊎◌, IsTrue}
use Rattle.stores.specs.Faults.{is_device_fault}
use Rattle.stores.specs.declared.fault.StoreFault.{StoreFault}
use Rattle.stores.specs.declared.fault.StoreFault.TheVariants.{NoMemory}

abbrev pub IsCallFault : StoreFault → Type 0
IsCallFault fault = (fault ≡ NoMemory) ⊎ IsTrue (is_device_fault fault)
