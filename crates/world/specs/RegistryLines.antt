-- The lines of holdings of all registries of a world.
use Rattle.std.specs.Prelude.{List, [], ◌∷◌}
use Rattle.units.specs.declared.code.Code.{Code}
use Rattle.units.specs.declared.code.Node.TheVariants as nodes
use Rattle.registry_core.specs.HeldBlock.{HeldBlock}
use Rattle.scheme.specs.declared.members.SchemeRegistry.{SchemeRegistry}
use Rattle.protocol.specs.Claims.{whole}
use Rattle.protocol.specs.World.{World, station}
use Rattle.registry_core.specs.Registry.{RegistryCoreView}
use Rattle.registry_core.specs.Reported.{AreHoldings}

-- the registry of that code in a world, its tail included
abbrev pub registry_at : World → Code → RegistryCoreView
registry_at w c = record { scheme = w.scheme; code = c; journal = whole (station w (nodes.Registry c)) }

-- the lines of each of the registries, in their order
abbrev pub AreLines : World → List SchemeRegistry → List (List HeldBlock) → Type 0
AreLines w [] [] = Unit {0}
AreLines w (m ∷ ms) (ls ∷ lss) = AreHoldings (registry_at w m.code) ls × AreLines w ms lss
AreLines w _ _ = ⊥
