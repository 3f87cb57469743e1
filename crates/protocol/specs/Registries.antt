-- The facts that the scheme has about a registry, and the scheme's nodes by their indices.
use Rattle.std.specs.Prelude.{ℕ, Bool, true, false, List, ◌∷◌, map, Option, is_some}
use Rattle.std.specs.List.{list_any, position_from}
use Rattle.std.specs.Option.{option_map_or}
use Rattle.units.specs.Code.{same_node}
use Rattle.units.specs.Unit.{same_kind}
use Rattle.units.specs.declared.block.Kind.{Kind}
use Rattle.units.specs.declared.block.Unit.{Unit as Serial}
use Rattle.units.specs.declared.code.Code.{Code}
use Rattle.units.specs.declared.code.Node.{Node}
use Rattle.units.specs.declared.code.Node.TheVariants.{Itl, Registry}
use Rattle.scheme.specs.Allotted as start
use Rattle.scheme.specs.Order as order
use Rattle.scheme.specs.declared.members.Holder.{Holder}
use Rattle.scheme.specs.declared.members.SchemeRegistry.{SchemeRegistry}
use Rattle.scheme.specs.declared.registries.Scheme.{Scheme}

abbrev pub member : Scheme → Code → Option SchemeRegistry
member scheme c = order.member scheme.members c

abbrev pub has_member : Scheme → Code → Bool
has_member scheme c = is_some (member scheme c)

-- the log, and the scheme's registries
abbrev pub is_node : Scheme → Node → Bool
is_node scheme Itl = true
is_node scheme (Registry c) = has_member scheme c

-- the nodes of a scheme: the log, then the registries in byte order
abbrev pub nodes : Scheme → List Node
nodes scheme = Itl ∷ map (λ m. Registry m.code) scheme.members

-- where the node stands among the nodes of the scheme, counted from 0
abbrev pub index_of : Scheme → Node → Option ℕ
index_of scheme node = position_from (λ n. same_node n node) 0 (nodes scheme)

-- who has the unit at the start
abbrev pub allotted : Scheme → Serial → Option Holder
allotted scheme s = start.allotted scheme.members s

abbrev pub lists_account : Option SchemeRegistry → ℕ → Bool
lists_account registry account = option_map_or (λ m. order.has_account m account) registry false

-- the registry has the account
abbrev pub has_account : Scheme → Code → ℕ → Bool
has_account scheme c account = lists_account (member scheme c) account

-- the registry takes units of the kind
abbrev pub takes_kind : Scheme → Code → Kind → Bool
takes_kind scheme c kind = option_map_or (λ m. list_any (λ k. same_kind k kind) m.kinds) (member scheme c) false
