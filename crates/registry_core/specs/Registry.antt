-- A registry as contracts see it: its scheme, its code, and its journal.
use Rattle.std.specs.Prelude.{◌≡◌, true, List, Some}
use Rattle.units.specs.Code.{same_code}
use Rattle.units.specs.declared.block.Unit.{Unit as Serial}
use Rattle.units.specs.declared.code.Code.{Code}
use Rattle.units.specs.declared.code.Node.TheVariants as nodes
use Rattle.status.specs.declared.id.TransactionId.{TransactionId}
use Rattle.status.specs.declared.status.Status.TheVariants.{Proposed}
use Rattle.wire.specs.declared.input.Input.{Input}
use Rattle.scheme.specs.declared.registries.Scheme.{Scheme}
use Rattle.protocol.specs.History.{Entry, Transition, carries, newest, transitions_of}
use Rattle.protocol.specs.Verdict.{history}

pub record RegistryCoreView : Type 0 where
  pub scheme : Scheme
  pub code : Code
  -- the inputs that it recorded, the oldest first
  pub journal : List Input

-- the history of its journal, and the transitions of that
abbrev pub past : RegistryCoreView → List Entry
past r = history r.scheme (nodes.Registry r.code) r.journal

abbrev pub moves : RegistryCoreView → List Transition
moves r = transitions_of (past r)

-- the transfer goes out of the registry, stands Proposed, and has the unit
abbrev pub IsReserving : RegistryCoreView → Serial → TransactionId → Type 0
IsReserving r s t = (same_code t.code r.code ≡ true) × ((x : Transition) × (newest (moves r) t ≡ Some x) × (x.new ≡ Proposed) × (carries x s ≡ true))
