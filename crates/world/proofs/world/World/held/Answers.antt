use Rattle.std.proofs.Common.{◌∙◌, sym, ap}
use Rattle.protocol.specs.History.{holds}
use Rattle.registry_core.specs.Registry.{RegistryCoreView, moves}
use Rattle.world.proofs.RegistriesInWorlds.{holds_live, lacks, registry_is}
use Rattle.world.proofs.world.World.held.Goals as goal

pub returns-in-Some : goal.returns-in-Some
returns-in-Some c =
    c.held.ensures.held ∙ ap (λ (r : RegistryCoreView). holds r.scheme r.code (moves r) c.args.unit.now) (registry_is c.args.self.now c.args.registry c.in-Some.core.now c.in-Some.ensures.core)

pub returns-in-None : goal.returns-in-None
returns-in-None c = sym (holds_live c.args.self.now c.args.registry c.args.unit.now (lacks c.args.self.now c.args.registry c.in-None.ensures.core) c.in-None.ensures.none)
