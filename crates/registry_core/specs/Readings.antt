-- The rows that a registry's tables keep of a transaction, read off its history. No public contract cites it.
use Rattle.std.specs.Prelude.{not, cond, Bool, List, Option, None, option_map}
use Rattle.units.specs.Code.{same_code}
use Rattle.units.specs.declared.code.Code.{Code}
use Rattle.status.specs.declared.id.TransactionId.{TransactionId}
use Rattle.initiator.specs.declared.transfer.Cancellation.TheVariants.{Asked, NotAsked}
use Rattle.initiator.specs.declared.transfer.OutgoingTransfer.{OutgoingTransfer}
use Rattle.acquirer.specs.declared.transfer.IncomingTransfer.{IncomingTransfer}
use Rattle.protocol.specs.History.{Transition, Entry, newest, is_requested}

-- a table's row of a transaction, where it keeps that one and a transition names it
abbrev pub row_at : {R : Type 0} → (TransactionId → Bool) → (TransactionId → Transition → R) → List Transition → TransactionId → Option R
row_at keep row xs t = cond (keep t) (option_map (row t) (newest xs t)) None

-- the transaction is of this registry, or of another
abbrev pub is_own : Code → TransactionId → Bool
is_own c t = same_code t.code c

abbrev pub is_foreign : Code → TransactionId → Bool
is_foreign c t = not (same_code t.code c)

-- the rows that the initiator and the acquirer keep of a transaction
abbrev pub own_row : List Entry → TransactionId → Transition → OutgoingTransfer
own_row es t x = record { status = x.new; cancellation = cond (is_requested es t) Asked NotAsked }

abbrev pub foreign_row : TransactionId → Transition → IncomingTransfer
foreign_row t x = record { status = x.new; content = x.content }
