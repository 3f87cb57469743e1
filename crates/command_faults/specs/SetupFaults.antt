-- The words for the faults with which a command can't begin as its words ask, and the program's exit status then.
use Rattle.std.specs.Prelude.{ℕ, List, ◌++◌, codes, decimal}
use Rattle.units.specs.Code.{node_text}
use Rattle.command_faults.specs.declared.setup_fault.SetupFault.{SetupFault}
use Rattle.command_faults.specs.declared.setup_fault.SetupFault.TheVariants.{Listen, Peer, Stranger, Twice, Missing, Exposed, CleanUp, NotTheLog, Unknown, KeysUnread, KeysNoFile, KeysOwner, KeysShared, KeysLine, NoKey, Port, OtherScheme, SchemeSum, NoStore}

abbrev pub setup_fault_text : SetupFault → List ℕ
setup_fault_text Listen = codes "--listen: no address"
setup_fault_text Peer = codes "--peer: no node with its address"
setup_fault_text (Stranger node) = codes "--peer: nothing is sent to " ++ node_text node
setup_fault_text (Twice node) = codes "--peer: " ++ node_text node ++ codes " is there twice"
setup_fault_text (Missing node) = codes "--peer: " ++ node_text node ++ codes " is missing"
setup_fault_text Exposed = codes "--keys: an address beyond the loopback interface needs them"
setup_fault_text CleanUp = codes "--clean-up: no number of seconds"
setup_fault_text NotTheLog = codes "--clean-up: ITL alone cleans up"
setup_fault_text Unknown = codes "no node of the scheme"
setup_fault_text KeysUnread = codes "--keys: read failed"
setup_fault_text KeysNoFile = codes "--keys: not a regular file"
setup_fault_text KeysOwner = codes "--keys: another user owns the file"
setup_fault_text KeysShared = codes "--keys: others than the owner have access"
setup_fault_text (KeysLine line) = codes "--keys: line " ++ decimal line ++ codes ": no further node with its key"
setup_fault_text (NoKey node) = codes "--keys: " ++ node_text node ++ codes " is missing"
setup_fault_text Port = codes "--listen: the address can't be had"
setup_fault_text OtherScheme = codes "the store is of another scheme"
setup_fault_text SchemeSum = codes "the scheme's sum beside the store can't be read or written"
setup_fault_text (NoStore node) = codes "store " ++ node_text node ++ codes ": missing"

-- 2: the words are wrong by themselves; 3: a thing that they name is missing or has a fault; 4: they don't fit the
-- store, or there is none
abbrev pub setup_fault_status : SetupFault → ℕ
setup_fault_status Listen = 2
setup_fault_status Peer = 2
setup_fault_status (Stranger node) = 2
setup_fault_status (Twice node) = 2
setup_fault_status (Missing node) = 2
setup_fault_status Exposed = 2
setup_fault_status CleanUp = 2
setup_fault_status NotTheLog = 2
setup_fault_status Unknown = 3
setup_fault_status KeysUnread = 3
setup_fault_status KeysNoFile = 3
setup_fault_status KeysOwner = 3
setup_fault_status KeysShared = 3
setup_fault_status (KeysLine line) = 3
setup_fault_status (NoKey node) = 3
setup_fault_status Port = 3
setup_fault_status OtherScheme = 4
setup_fault_status SchemeSum = 4
setup_fault_status (NoStore node) = 4
