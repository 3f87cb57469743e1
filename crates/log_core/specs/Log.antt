-- The log as contracts see it: its scheme and its journal.
use Rattle.std.specs.Prelude.{◌≡◌, true, List, Some}
use Rattle.units.specs.declared.block.Unit.{Unit as Serial}
use Rattle.units.specs.declared.code.Node.TheVariants.{Itl}
use Rattle.status.specs.declared.id.TransactionId.{TransactionId}
use Rattle.wire.specs.declared.input.Input.{Input}
use Rattle.scheme.specs.declared.registries.Scheme.{Scheme}
use Rattle.protocol.specs.Claims.{IsUnderWay}
use Rattle.protocol.specs.History.{Entry, Transition, carries, newest, transitions_of}
use Rattle.protocol.specs.Verdict.{history}

pub record LogCoreView : Type 0 where
  pub scheme : Scheme
  -- the inputs that it recorded, the oldest first
  pub journal : List Input

-- the history of its journal, and the transitions of that
abbrev pub past : LogCoreView → List Entry
past l = history l.scheme Itl l.journal

abbrev pub moves : LogCoreView → List Transition
moves l = transitions_of (past l)

-- the transfer stands Checked or Accepted, and has the unit
abbrev pub IsUnderWayWith : LogCoreView → Serial → TransactionId → Type 0
IsUnderWayWith l s t = (x : Transition) × (newest (moves l) t ≡ Some x) × IsUnderWay x.new × (carries x s ≡ true)
