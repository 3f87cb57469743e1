-- The holdings of the registries of a world.
use Rattle.std.specs.Prelude.{◌≡◌, Bool, true, false, List, map, Option, Some, None}
use Rattle.registry_core.specs.HeldBlock.{HeldBlock}
use Rattle.scheme.specs.declared.members.SchemeRegistry.{SchemeRegistry}
use Rattle.protocol.specs.World.{World}
use Rattle.registry_core.specs.Registry.{RegistryCoreView}
use Rattle.registry_core.specs.Reported.{AreHoldings}
use Rattle.world.specs.RegistryLines.{AreLines}
use Rattle.world.specs.declared.views.Stock.{Stock}

-- the holdings of a registry that the scheme has, and none of another
abbrev pub HoldsIf : RegistryCoreView → Bool → Option (List HeldBlock) → Type 0
HoldsIf r true (Some lines) = AreHoldings r lines
HoldsIf r false None = Unit {0}
HoldsIf r _ _ = ⊥

-- the holdings of each registry, in the scheme's order
pub record AreStocks (w : World) (members : List SchemeRegistry) (stocks : List Stock) : Type 0 where
  pub codes : map (λ s. s.code) stocks ≡ map (λ m. m.code) members
  pub lines : AreLines w members (map (λ s. s.lines) stocks)
