use Rattle.std.proofs.Common.{◌∙◌, ap, sym}
use Rattle.std.specs.Prelude.{option_and_then}
use Rattle.accounts.specs.declared.unit_holding.UnitHolding.{UnitHolding}
use Rattle.registry_core.proofs.CoreReadings.{reserver_held, reserver_only, reserver_reserves, reserver_so}
use Rattle.registry_core.proofs.registry.RegistryCore.reserving.Goals as goal

pub returns-in_err-unit_holding-clause-reserver : goal.returns-in_err-unit_holding-clause-reserver
returns-in_err-unit_holding-clause-reserver c =
    c.from_residual.ensures ∙ ap (option_and_then (λ (unit_holding : UnitHolding). unit_holding.reserving)) (sym c.in_err-unit_holding.was ∙ c.unit_holding.ensures)
    ∙ reserver_so c.self.inside.tables.scheme c.self.inside.tables.code c.self.inside.tables c.self.invariant c.args.self.now c.self.view_is c.args.unit.now

pub returns-in_err-unit_holding-clause-only : goal.returns-in_err-unit_holding-clause-only
returns-in_err-unit_holding-clause-only c =
    reserver_only c.self.inside.tables.scheme c.self.inside.tables.code c.self.inside.tables c.self.invariant c.args.self.now c.self.view_is c.args.unit.now c.from_residual.result
    (c.from_residual.ensures ∙ ap (option_and_then (λ (unit_holding : UnitHolding). unit_holding.reserving)) (sym c.in_err-unit_holding.was ∙ c.unit_holding.ensures)
    ∙ reserver_so c.self.inside.tables.scheme c.self.inside.tables.code c.self.inside.tables c.self.invariant c.args.self.now c.self.view_is c.args.unit.now)

pub returns-clause-some : goal.returns-clause-some
returns-clause-some c =
    reserver_reserves c.self.inside.tables.scheme c.self.inside.tables.code c.self.inside.tables c.self.invariant c.args.self.now c.self.view_is c.args.unit.now c.in_ok-unit_holding.field-0.reserving
    (ap (option_and_then (λ (unit_holding : UnitHolding). unit_holding.reserving)) (sym c.in_ok-unit_holding.was ∙ c.unit_holding.ensures) ∙ reserver_so c.self.inside.tables.scheme c.self.inside.tables.code c.self.inside.tables c.self.invariant c.args.self.now c.self.view_is c.args.unit.now)

pub returns-clause-only : goal.returns-clause-only
returns-clause-only c =
    reserver_only c.self.inside.tables.scheme c.self.inside.tables.code c.self.inside.tables c.self.invariant c.args.self.now c.self.view_is c.args.unit.now c.in_ok-unit_holding.field-0.reserving
    (ap (option_and_then (λ (unit_holding : UnitHolding). unit_holding.reserving)) (sym c.in_ok-unit_holding.was ∙ c.unit_holding.ensures) ∙ reserver_so c.self.inside.tables.scheme c.self.inside.tables.code c.self.inside.tables c.self.invariant c.args.self.now c.self.view_is c.args.unit.now)

pub returns-clause-held : goal.returns-clause-held
returns-clause-held c =
    reserver_held c.self.inside.tables.scheme c.self.inside.tables.code c.self.inside.tables c.self.invariant c.args.self.now c.self.view_is c.args.unit.now c.in_ok-unit_holding.field-0.reserving
    (ap (option_and_then (λ (unit_holding : UnitHolding). unit_holding.reserving)) (sym c.in_ok-unit_holding.was ∙ c.unit_holding.ensures) ∙ reserver_so c.self.inside.tables.scheme c.self.inside.tables.code c.self.inside.tables c.self.invariant c.args.self.now c.self.view_is c.args.unit.now)
