use Rattle.std.proofs.Common.{◌∙◌, ◌+◌, ap, cond, sym}
use Rattle.std.specs.List.{count_by}
use Rattle.std.specs.Prelude.{is_some}
use Rattle.protocol.specs.History.{gives}
use Rattle.registry_core.specs.Registry.{moves}
use Rattle.registry_core.proofs.CoreReadings.{held_so, once_so}
use Rattle.registry_core.proofs.registry.RegistryCore.held.Goals as goal

pub returns-clause-held : goal.returns-clause-held
returns-clause-held c =
    c.is_some.ensures ∙ ap is_some c.unit_holding.ensures ∙ held_so c.self.inside.tables.scheme c.self.inside.tables.code c.self.inside.tables c.self.invariant c.args.self.now c.self.view_is c.args.unit.now

pub returns-clause-once : goal.returns-clause-once
returns-clause-once c =
    let r = c.args.self.now in
    let s = c.args.unit.now in
    once_so c.self.inside.tables.scheme c.self.inside.tables.code c.self.inside.tables c.self.invariant r c.self.view_is s
    ∙ ap (λ b. count_by (gives r.code s) (moves r) + cond b 1 0)
    (sym (c.is_some.ensures ∙ ap is_some c.unit_holding.ensures ∙ held_so c.self.inside.tables.scheme c.self.inside.tables.code c.self.inside.tables c.self.invariant r c.self.view_is s))
