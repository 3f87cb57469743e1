-- How a registry's tables take an input. No public contract cites it.
use Rattle.std.specs.Prelude.{◌≡◌, None, Result}
use Rattle.units.specs.declared.code.Code.{Code}
use Rattle.units.specs.declared.code.Node.TheVariants.{Registry}
use Rattle.units.specs.declared.refusal.Refusal.{Refusal}
use Rattle.wire.specs.declared.input.Input.{Input}
use Rattle.wire.specs.declared.message.Message.{Message}
use Rattle.scheme.specs.declared.registries.Scheme.{Scheme}
use Rattle.checks.specs.Refusing.{first_of}
use Rattle.protocol.specs.AtRegistry.{registry_refusals}
use Rattle.protocol.specs.Deciding.{Verdict}
use Rattle.protocol.specs.Taking.{TakesInto}
use Rattle.protocol.specs.Verdict.{verdict, history}
use Rattle.protocol.specs.declared.node_core.Stepped.{Stepped}
use Rattle.registry_core.specs.Kept.{AreKept}
use Rattle.registry_core.specs.declared.tables.Tables.{Tables}

-- the verdict on the input after the tables' journal
abbrev pub verdict_by_rules : Scheme → Code → Tables → Input → Verdict
verdict_by_rules scheme c tables input = verdict scheme (Registry c) (history scheme (Registry c) tables.records.inputs) input

-- the message isn't refused before the tables are consulted
abbrev pub IsWelcome : Tables → Message → Type 0
IsWelcome tables m = first_of (registry_refusals tables.code (history tables.scheme (Registry tables.code) tables.records.inputs) m) ≡ None

-- the records take the input, and the tables follow them
pub record Takes (scheme : Scheme) (c : Code) (tables tables' : Tables) (input : Input) (result : Result Stepped Refusal) : Type 0 where
  pub taken : TakesInto scheme (Registry c) tables.records tables'.records input result
  pub kept : AreKept scheme c (history scheme (Registry c) tables'.records.inputs) tables'
  pub scheme_is : tables'.scheme ≡ tables.scheme
  pub code_is : tables'.code ≡ tables.code
