-- Why a listener accepted no connection. No public contract cites it.
use Rattle.std.specs.Prelude.{ℤ, pos, Bool, false, ◌||◌, Option, None, Some, if◌then◌else◌}
use Rattle.std.specs.Ordering.{int_eq}
use Rattle.std.specs.declared.io.ErrorKind.{ErrorKind}
use Rattle.std.specs.declared.io.ErrorKind.TheVariants.{WouldBlock, ConnectionAborted, HostUnreachable, Interrupted, NetworkDown, NetworkUnreachable, PermissionDenied}
use Rattle.sockets.specs.declared.accept_faults.AcceptFault.{AcceptFault}
use Rattle.sockets.specs.declared.notice.Trouble.{Trouble}
use Rattle.sockets.specs.declared.notice.Trouble.TheVariants.{NoHandle, NoMemory}
use Rattle.sockets.specs.declared.accept_faults.AcceptFault.TheVariants.{Nobody, Gone, NoRoom, Failed}

-- the system has no descriptor or no memory: ENOMEM, ENFILE, EMFILE, ENOBUFS of Linux
abbrev pub lacks_room : Option ℤ → Bool
lacks_room None = false
lacks_room (Some code) = int_eq code (pos 12) || int_eq code (pos 23) || int_eq code (pos 24) || int_eq code (pos 105)

-- what the system lacks: a descriptor after ENFILE and EMFILE, memory after ENOMEM and ENOBUFS
abbrev pub trouble_of : Option ℤ → Trouble → Trouble
trouble_of None otherwise = otherwise
trouble_of (Some code) otherwise =
    if int_eq code (pos 23) || int_eq code (pos 24) then NoHandle
    else if int_eq code (pos 12) || int_eq code (pos 105) then NoMemory
    else otherwise

-- why an accept failed, by the kind of its error alone
abbrev pub fault_of_kind : ErrorKind → AcceptFault
fault_of_kind WouldBlock = Nobody
fault_of_kind ConnectionAborted = Gone
fault_of_kind HostUnreachable = Gone
fault_of_kind Interrupted = Gone
fault_of_kind NetworkDown = Gone
fault_of_kind NetworkUnreachable = Gone
fault_of_kind PermissionDenied = Gone
fault_of_kind _ = Failed

-- why an accept failed, by its error's kind and number
abbrev pub accept_fault_of : ErrorKind → Option ℤ → AcceptFault
accept_fault_of kind code = if lacks_room code then NoRoom else fault_of_kind kind
