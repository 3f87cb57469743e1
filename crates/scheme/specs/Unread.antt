-- A text that isn't read, as a fault of a scheme.
use Rattle.json_fields.specs.declared.fault.TextFault.{TextFault}
use Rattle.json_fields.specs.declared.fault.TextFault.TheVariants as read
use Rattle.scheme.specs.declared.members.SchemeFault.{SchemeFault}
use Rattle.scheme.specs.declared.members.SchemeFault.TheVariants.{Shape, NoMemory}

abbrev pub fault_from : TextFault → SchemeFault
fault_from read.Shape = Shape
fault_from read.NoMemory = NoMemory
