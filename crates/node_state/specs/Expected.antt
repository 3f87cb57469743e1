-- The expected result of each question to a state, after a journal.
use Rattle.std.specs.Prelude.{List, if◌then◌else◌, Result, Ok, Err}
use Rattle.units.specs.RefusalCodes.{node_stopped}
use Rattle.units.specs.declared.code.Node.{Node}
use Rattle.units.specs.declared.refusal.Refusal.{Refusal}
use Rattle.status.specs.declared.id.TransactionId.{TransactionId}
use Rattle.wire.specs.declared.input.Input.{Input}
use Rattle.scheme.specs.declared.registries.Scheme.{Scheme}
use Rattle.protocol.specs.declared.node_core.Stepped.{Stepped}
use Rattle.protocol.specs.Cores.{answer}
use Rattle.protocol.specs.History.{stands, transitions_of}
use Rattle.protocol.specs.Verdict.{history}
use Rattle.node_state.specs.declared.notes.Asked.{Asked}
use Rattle.node_state.specs.declared.notes.Asked.TheVariants.{Take, Query}
use Rattle.node_state.specs.declared.notes.Told.{Told}
use Rattle.node_state.specs.declared.notes.Told.TheVariants.{Step, Status, Refused}
use Rattle.node_state.specs.Views.{StateView, past}

-- the result of a core, as it is noted
abbrev pub told_of : Result Stepped Refusal → Told
told_of (Ok stepped) = Step stepped
told_of (Err refusal) = Refused refusal

-- the result of a node with a single thread, after a journal
abbrev pub expected : Scheme → Node → List Input → Asked → Told
expected scheme n journal (Take input) = told_of (answer scheme n journal input)
expected scheme n journal (Query id) = Status (stands (transitions_of (history scheme n journal)) id)

-- the refusal by a node that has stopped
abbrev pub stopped : Refusal
stopped = record { code = node_stopped }

-- the result of a query for a transaction
abbrev pub status_told : StateView → TransactionId → Told
status_told held id = if held.runs then Status (stands (transitions_of (past held)) id) else Refused stopped
