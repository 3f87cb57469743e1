-- How a registry's history says that each unit is held, and how each account stands.
use Rattle.std.specs.Prelude.{ℕ, cond, List, [], ◌∷◌, Option, Some, None, option_map}
use Rattle.std.specs.Option.{option_or}
use Rattle.units.specs.declared.block.Unit.{Unit as Serial}
use Rattle.units.specs.declared.code.Code.{Code}
use Rattle.status.specs.declared.id.TransactionId.{TransactionId}
use Rattle.accounts.specs.Holdings.{free_unit_holding, kind_in}
use Rattle.accounts.specs.declared.unit_holding.UnitHolding.{UnitHolding}
use Rattle.accounts.specs.declared.unit_holding.AccountStatus.{AccountStatus}
use Rattle.accounts.specs.declared.unit_holding.AccountStatus.TheVariants.{Open, Closed}
use Rattle.scheme.specs.declared.members.Allotment.{Allotment}
use Rattle.scheme.specs.declared.registries.Scheme.{Scheme}
use Rattle.protocol.specs.History.{Transition, Entry, Position, holds, position, is_closed, reserver}
use Rattle.protocol.specs.Registries.{has_account}

-- a unit at that position, which that transaction reserves, or none
abbrev pub unit_holding_in : Option TransactionId → Position → UnitHolding
unit_holding_in reserving q = record { account = q.account; kind = q.kind; reserving = reserving }

-- how the unit is held
abbrev pub unit_holding_at : Scheme → Code → List Transition → Serial → Option UnitHolding
unit_holding_at scheme c xs s = cond (holds scheme c xs s) (option_map (unit_holding_in (reserver c xs s)) (position scheme c xs s)) None

-- how the account stands, where the registry has it
abbrev pub account_status_at : Scheme → Code → List Entry → ℕ → Option AccountStatus
account_status_at scheme c es n = cond (has_account scheme c n) (Some (cond (is_closed es n) Closed Open)) None

-- ---- what the code follows; no public contract cites what stands below

-- how the allotments hold the unit
abbrev pub allotted_unit_holding : List Allotment → Serial → Option UnitHolding
allotted_unit_holding [] s = None
allotted_unit_holding (a ∷ parts) s = option_or (option_map (free_unit_holding a.account) (kind_in a.units s)) (allotted_unit_holding parts s)
