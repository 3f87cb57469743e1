-- The next scheme of a world: it allots each unit of the world where the world has it, and new units besides.
use Rattle.std.specs.Prelude.{◌≡◌, ◌⊎◌, ◌+◌, is_some, true, false, List, Option, Some}
use Rattle.std.specs.List.{sum_by}
use Rattle.units.specs.Apart.{AllApart}
use Rattle.units.specs.Unit.{covers}
use Rattle.units.specs.declared.block.Block.{Block}
use Rattle.units.specs.declared.block.Unit.{Unit as Serial}
use Rattle.units.specs.declared.code.Code.{Code}
use Rattle.units.specs.declared.code.Node.{Node}
use Rattle.status.specs.Content.{Content}
use Rattle.status.specs.declared.id.TransactionId.{TransactionId}
use Rattle.scheme.specs.declared.members.Holder.{Holder}
use Rattle.scheme.specs.declared.registries.Scheme.{Scheme}
use Rattle.protocol.specs.Claims.{at_registry}
use Rattle.protocol.specs.History.{Entry, Position, credited_position, holds, position, spendable}
use Rattle.protocol.specs.Owner.{Owner, Owing, Owns, At, Due}
use Rattle.protocol.specs.Registries.{allotted, has_member}
use Rattle.safety.specs.NumberOfUnits.{allotted_units, units_of}

-- ---- what a next scheme allots

-- the account and the kind of a unit that the scheme allots to this holder
abbrev pub position_of : Holder → Position
position_of h = record { account = h.account; kind = h.kind }

-- the scheme allots the unit to the registry of that code, at that account and in that kind
pub record IsPlaced (next : Scheme) (s : Serial) (c : Code) (at : Option Position) : Type 0 where
  pub holder : Holder
  pub is : allotted next s ≡ Some holder
  pub registry : holder.registry ≡ c
  pub there : at ≡ Some (position_of holder)

-- a completed transfer owes the unit, and the scheme allots it to the transfer's acquirer, at the account and in the kind
-- that the transfer's content names
pub record IsPaid (next : Scheme) (f : Node → List Entry) (s : Serial) (t : TransactionId) (owing : Owing f s t) : Type 0 where
  pub known : Content
  pub is : owing.last.content ≡ Some known
  pub placed : IsPlaced next s known.acquirer (credited_position s known)

-- a unit that a registry holds stays where it is, and one that a completed transfer owes goes to the acquirer; new are
-- exactly the units of the added blocks, none of which was allotted before; and no unit is in two of these blocks
pub record IsNext (scheme : Scheme) (f : Node → List Entry) (added : List Block) (next : Scheme) : Type 0 where
  pub held : (s : Serial) (c : Code) → has_member scheme c ≡ true → holds scheme c (at_registry f c) s ≡ true → IsPlaced next s c (position scheme c (at_registry f c) s)
  pub owed : (s : Serial) (t : TransactionId) (owing : Owing f s t) → IsPaid next f s t owing
  pub new : (s : Serial) → is_some (allotted scheme s) ≡ false → is_some (allotted next s) ≡ covers added s
  pub fresh : (s : Serial) → covers added s ≡ true → is_some (allotted scheme s) ≡ false
  pub apart : AllApart added

-- ---- where the units are under a next scheme

-- the registry that has the owner's unit from then on, and the account and the kind: those of a registry that holds the
-- unit stay, and a transfer that owes it hands it to its acquirer
abbrev pub Succeeds : Scheme → (Node → List Entry) → Serial → Owner → Code → Option Position → Type 0
Succeeds scheme f s (At c) d p = (c ≡ d) × (position scheme c (at_registry f c) s ≡ p)
Succeeds scheme f s (Due t) d p = (owing : Owing f s t) × (content : Content) × (owing.last.content ≡ Some content) × (content.acquirer ≡ d) × (credited_position s content ≡ p)

-- the registry of that code has the unit, free, at that account and in that kind
pub record IsFreeAt (next : Scheme) (g : Node → List Entry) (s : Serial) (c : Code) (p : Option Position) : Type 0 where
  pub owns : Owns next g s (At c)
  pub free : spendable next c (at_registry g c) s ≡ true
  pub there : position next c (at_registry g c) s ≡ p

-- each unit that the old scheme allots has an owner in the old world, and the unit of each owner is free at the registry
-- that succeeds this owner; each added unit is at a registry, no other unit has an owner, and none has two; and the
-- numbers of units add up
pub record KeepsUnits (scheme : Scheme) (f : Node → List Entry) (added : List Block) (next : Scheme) (g : Node → List Entry) : Type 0 where
  pub kept : (s : Serial) (a : Owner) → Owns scheme f s a → (c : Code) × (p : Option Position) × Succeeds scheme f s a c p × IsFreeAt next g s c p
  pub some : (s : Serial) → is_some (allotted scheme s) ≡ true → (a : Owner) × Owns scheme f s a
  pub made : (s : Serial) → covers added s ≡ true → (c : Code) × Owns next g s (At c)
  pub only : (s : Serial) (b : Owner) → Owns next g s b → (is_some (allotted scheme s) ≡ true) ⊎ (covers added s ≡ true)
  pub one : (s : Serial) (a b : Owner) → Owns next g s a → Owns next g s b → a ≡ b
  pub total : allotted_units next ≡ allotted_units scheme + sum_by (λ b. units_of b.raw) added

-- the other two schemes allot each unit of the first one alike
abbrev pub AllotAlike : Scheme → Scheme → Scheme → Type 0
AllotAlike scheme next other = (s : Serial) → is_some (allotted scheme s) ≡ true → allotted next s ≡ allotted other s
