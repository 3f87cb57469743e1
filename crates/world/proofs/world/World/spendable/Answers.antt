use Rattle.std.proofs.Common.{◌∙◌, sym, ap}
use Rattle.std.specs.Prelude.{◌&&◌, not}
use Rattle.protocol.specs.Claims.{at_registry, live_of}
use Rattle.protocol.specs.History.{reserved, spendable}
use Rattle.registry_core.specs.Registry.{RegistryCoreView, moves}
use Rattle.world.proofs.RegistriesInWorlds.{holds_live, lacks, registry_is}
use Rattle.world.proofs.world.World.spendable.Goals as goal

pub returns-in-Some : goal.returns-in-Some
returns-in-Some c =
    c.spendable.ensures ∙ ap (λ (r : RegistryCoreView). spendable r.scheme r.code (moves r) c.args.unit.now) (registry_is c.args.self.now c.args.registry c.in-Some.core.now c.in-Some.ensures.core)

pub returns-in-None : goal.returns-in-None
returns-in-None c =
    sym (ap (λ b. b && not (reserved c.args.registry (at_registry (live_of c.args.self.now) c.args.registry) c.args.unit.now))
    (holds_live c.args.self.now c.args.registry c.args.unit.now (lacks c.args.self.now c.args.registry c.in-None.ensures.core) c.in-None.ensures.none))
