-- The function from units to their holders at the start: the registry, the account, and the kind of each.
use Rattle.std.specs.Prelude.{ℕ, List, [], ◌∷◌, Option, None, option_map}
use Rattle.std.specs.Option.{option_or}
use Rattle.std.specs.List.{find}
use Rattle.units.specs.Unit.{has_unit}
use Rattle.units.specs.declared.block.Kind.{Kind}
use Rattle.units.specs.declared.block.Unit.{Unit as Serial}
use Rattle.units.specs.declared.code.Code.{Code}
use Rattle.scheme.specs.declared.members.Allotment.{Allotment}
use Rattle.scheme.specs.declared.members.SchemeRegistry.{SchemeRegistry}
use Rattle.scheme.specs.declared.members.Holder.{Holder}

abbrev pub holder : Code → ℕ → Kind → Holder
holder code account kind = record { registry = code; account = account; kind = kind }

-- the holder by the allotments of a registry
abbrev pub allotted_in : Code → List Allotment → Serial → Option Holder
allotted_in code [] unit = None
allotted_in code (a ∷ allotted) unit = option_or (option_map (λ b. holder code a.account b.raw.kind) (find (λ b. has_unit b.raw unit) a.units)) (allotted_in code allotted unit)

-- the holder at the start
abbrev pub allotted : List SchemeRegistry → Serial → Option Holder
allotted [] unit = None
allotted (m ∷ members) unit = option_or (allotted_in m.code m.allotted unit) (allotted members unit)
