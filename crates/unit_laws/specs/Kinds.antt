-- A unit keeps the kind of its allotment, in the registry that holds it and in each transfer that names it.
use Rattle.std.specs.Prelude.{◌≡◌, true, List, Contains, Option, Some, option_map}
use Rattle.units.specs.Unit.{has_unit}
use Rattle.units.specs.declared.block.Kind.{Kind}
use Rattle.units.specs.declared.block.RawBlock.{RawBlock}
use Rattle.units.specs.declared.block.Unit.{Unit as Serial}
use Rattle.units.specs.declared.code.Code.{Code}
use Rattle.units.specs.declared.code.Node.{Node}
use Rattle.status.specs.Content.{Content}
use Rattle.scheme.specs.declared.registries.Scheme.{Scheme}
use Rattle.protocol.specs.Claims.{at_registry, owes}
use Rattle.protocol.specs.History.{Entry, Position, Transition, holds, position, position_in, transitions_of}
use Rattle.protocol.specs.Registries.{allotted}

-- the scheme allots the unit with that kind
abbrev pub IsKind : Scheme → Serial → Kind → Type 0
IsKind scheme s kind = option_map (λ h. h.kind) (allotted scheme s) ≡ Some kind

-- this is a position, with the kind with which the unit is allotted
pub record HasItsKind (scheme : Scheme) (s : Serial) (at : Option Position) : Type 0 where
  pub position : Position
  pub is : at ≡ Some position
  pub kind : IsKind scheme s position.kind

-- each block of the content has the kind with which each of its units is allotted
abbrev pub NamesKinds : Scheme → Content → Type 0
NamesKinds scheme k = (b : RawBlock) (s : Serial) → Contains k.units b → has_unit b s ≡ true → IsKind scheme s b.kind

-- a registry holds a unit in the kind with which it is allotted; a transfer that owes a unit hands it on in this kind;
-- and each content that a node knows of a transfer, under way or ended, names its units with their kinds
pub record KeepsKinds (scheme : Scheme) (f : Node → List Entry) : Type 0 where
  pub held : (s : Serial) (c : Code) → holds scheme c (at_registry f c) s ≡ true → HasItsKind scheme s (position scheme c (at_registry f c) s)
  pub owed : (s : Serial) (c : Code) (x : Transition) → Contains (at_registry f c) x → owes f c s x ≡ true → HasItsKind scheme s (position_in s x.content)
  pub named : (n : Node) (x : Transition) (k : Content) → Contains (transitions_of (f n)) x → x.content ≡ Some k → NamesKinds scheme k
