-- How the log's tables take an input. No public contract cites it.
use Rattle.std.specs.Prelude.{◌≡◌, None, Result}
use Rattle.units.specs.declared.code.Node.TheVariants.{Itl}
use Rattle.units.specs.declared.refusal.Refusal.{Refusal}
use Rattle.wire.specs.declared.input.Input.{Input}
use Rattle.wire.specs.declared.input.Input.TheVariants.{CleanUp, Received}
use Rattle.wire.specs.declared.message.Message.{Message}
use Rattle.scheme.specs.declared.registries.Scheme.{Scheme}
use Rattle.checks.specs.Refusing.{first_of}
use Rattle.protocol.specs.AtLog.{log_refusals}
use Rattle.protocol.specs.Deciding.{Verdict}
use Rattle.protocol.specs.Taking.{TakesInto}
use Rattle.protocol.specs.Verdict.{verdict, history}
use Rattle.protocol.specs.declared.node_core.Stepped.{Stepped}
use Rattle.log_core.specs.Kept.{AreKept}
use Rattle.log_core.specs.declared.tables.Tables.{Tables}

-- the verdict on the input after the tables' journal
abbrev pub verdict_by_rules : Scheme → Tables → Input → Verdict
verdict_by_rules scheme tables input = verdict scheme Itl (history scheme Itl tables.records.inputs) input

-- an input that may make transitions: an acknowledgement and an order on eligibility make none, and all other inputs
-- are refused
abbrev pub IsMessageOrCleanUp : Input → Type 0
IsMessageOrCleanUp (Received m moment) = Unit {0}
IsMessageOrCleanUp (CleanUp moment) = Unit {0}
IsMessageOrCleanUp _ = ⊥

-- the message isn't refused before the table is consulted
abbrev pub IsWelcome : Tables → Message → Type 0
IsWelcome tables m = first_of (log_refusals tables.scheme (history tables.scheme Itl tables.records.inputs) m) ≡ None

-- the records take the input, and the tables follow them
pub record Takes (scheme : Scheme) (tables tables' : Tables) (input : Input) (result : Result Stepped Refusal) : Type 0 where
  pub taken : TakesInto scheme Itl tables.records tables'.records input result
  pub kept : AreKept scheme (history scheme Itl tables'.records.inputs) tables'
  pub scheme_is : tables'.scheme ≡ tables.scheme
