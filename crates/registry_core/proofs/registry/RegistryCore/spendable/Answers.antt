use Rattle.std.proofs.Common.{◌∙◌, ap, sym}
use Rattle.std.specs.Prelude.{is_some}
use Rattle.registry_core.proofs.CoreReadings.{free_spendable}
use Rattle.registry_core.proofs.registry.RegistryCore.spendable.Goals as goal

pub returns-then-held : goal.returns-then-held
returns-then-held c =
    free_spendable c.args.self.now c.args.unit.now c.is_none.result (sym c.held.ensures.held ∙ c.if-held.true) (sym c.is_none.ensures ∙ ap is_some c.reserving.ensures.reserver)
