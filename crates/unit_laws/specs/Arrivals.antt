-- A unit arrives in the account that its proposal names.
use Rattle.std.specs.Prelude.{◌≡◌, true, List, [], ◌∷◌, Contains, Option, Some, None, find}
use Rattle.units.specs.Unit.{have_unit}
use Rattle.units.specs.declared.block.Unit.{Unit as Serial}
use Rattle.units.specs.declared.code.Code.{Code}
use Rattle.units.specs.declared.code.Node.{Node}
use Rattle.units.specs.declared.code.Node.TheVariants.{Registry}
use Rattle.status.specs.Order.{Order}
use Rattle.status.specs.declared.id.TransactionId.{TransactionId}
use Rattle.status.specs.declared.status.Status.TheVariants.{Proposed}
use Rattle.wire.specs.declared.input.Input.TheVariants.{Propose}
use Rattle.scheme.specs.declared.registries.Scheme.{Scheme}
use Rattle.protocol.specs.AtRegistry.{content_of}
use Rattle.protocol.specs.Claims.{at_registry}
use Rattle.protocol.specs.History.{Entry, Position, Transition, credits, holds, position}
use Rattle.safety.specs.NextScheme.{IsPlaced}

-- the history has a record of the order, whose one transition is that the transfer stands Proposed with the order's
-- content
pub record IsProposed (es : List Entry) (t : TransactionId) (order : Order) : Type 0 where
  pub entry : Entry
  pub among : Contains es entry
  pub is : entry.input ≡ Propose order
  pub made : Transition
  pub only : entry.transitions ≡ made ∷ []
  pub about : made.id ≡ t
  pub new : made.new ≡ Proposed
  pub content : made.content ≡ Some (content_of order)

-- the initiator of the transfer proposed it, with the unit and for the registry of that code; and the unit is at the
-- account that the proposal names
pub record HasArrived (f : Node → List Entry) (s : Serial) (c : Code) (t : TransactionId) (at : Option Position) : Type 0 where
  pub order : Order
  pub proposed : IsProposed (f (Registry t.code)) t order
  pub has : have_unit (content_of order).units s ≡ true
  pub acquirer : (content_of order).acquirer ≡ c
  pub position : Position
  pub is : at ≡ Some position
  pub account : position.account ≡ (content_of order).to_account

-- a unit that the registry last took in by that transfer has arrived by it, and one that never came is where the scheme
-- allots it
abbrev pub CameSo : Scheme → (Node → List Entry) → Serial → Code → Option Transition → Option Position → Type 0
CameSo scheme f s c None at = IsPlaced scheme s c at
CameSo scheme f s c (Some x) at = HasArrived f s c x.id at

-- each unit that a registry holds, by the registry's newest completion of a transfer to it with the unit
abbrev pub ArriveAsProposed : Scheme → (Node → List Entry) → Type 0
ArriveAsProposed scheme f =
    (s : Serial) (c : Code) → holds scheme c (at_registry f c) s ≡ true
    → CameSo scheme f s c (find (credits c s) (at_registry f c)) (position scheme c (at_registry f c) s)
