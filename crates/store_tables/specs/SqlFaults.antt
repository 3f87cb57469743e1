-- The store's faults for SQLite's errors.
use Rattle.sqlite.specs.declared.error.Error.{Error}
use Rattle.sqlite.specs.declared.error.Error.TheVariants.{SqliteFailure}
use Rattle.sqlite.specs.declared.error.ErrorCode.TheVariants as code
use Rattle.stores.specs.declared.fault.StoreFault.{StoreFault}
use Rattle.stores.specs.declared.fault.StoreFault.TheVariants.{Device, Full, NoMemory}

-- the fault for an error of a statement
abbrev pub store_fault_of : Error → StoreFault
store_fault_of (SqliteFailure code.OutOfMemory) = NoMemory
store_fault_of (SqliteFailure code.DiskFull) = Full
store_fault_of (SqliteFailure code.TooBig) = Full
store_fault_of _ = Device
