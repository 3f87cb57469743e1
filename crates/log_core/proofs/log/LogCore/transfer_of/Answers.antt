use Rattle.std.proofs.Common.{ap, sym, ◌∙◌}
use Rattle.std.specs.Prelude.{option_map}
use Rattle.checks.specs.declared.register.UnderWay.{UnderWay}
use Rattle.log_core.proofs.CoreReadings.{transfer_is, transfer_only}
use Rattle.log_core.proofs.log.LogCore.transfer_of.Goals as goal

pub returns-in_err-under_way-clause-only : goal.returns-in_err-under_way-clause-only
returns-in_err-under_way-clause-only c t h =
    let found = transfer_only c.self.inside.tables.scheme c.self.inside.tables c.self.invariant c.args.self.now c.self.view_is c.args.unit.now t h in
    let none = sym c.in_err-under_way.was ∙ c.get.ensures ∙ found in
    absurd (cc (none))

pub returns-clause-some : goal.returns-clause-some
returns-clause-some c =
    transfer_is c.self.inside.tables.scheme c.self.inside.tables c.self.invariant c.args.self.now c.self.view_is c.args.unit.now c.in_ok-under_way.under_way (sym c.get.ensures ∙ c.in_ok-under_way.was)

pub returns-clause-only : goal.returns-clause-only
returns-clause-only c t h =
    let found = transfer_only c.self.inside.tables.scheme c.self.inside.tables c.self.invariant c.args.self.now c.self.view_is c.args.unit.now t h in
    ap (option_map (λ (u : UnderWay). u.id)) (sym c.in_ok-under_way.was ∙ c.get.ensures ∙ found)
