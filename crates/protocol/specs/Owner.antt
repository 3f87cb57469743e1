-- Who owns a unit: the registry that holds it, or the completed transfer that owes it.
use Rattle.std.specs.Prelude.{◌≡◌, ◌⊎◌, is_some, true, false, List, Some, option_map}
use Rattle.units.specs.declared.block.Unit.{Unit as Serial}
use Rattle.units.specs.declared.code.Code.{Code}
use Rattle.units.specs.declared.code.Node.{Node}
use Rattle.units.specs.declared.code.Node.TheVariants.{Registry}
use Rattle.status.specs.declared.id.TransactionId.{TransactionId}
use Rattle.status.specs.declared.status.Status.TheVariants.{Completed}
use Rattle.scheme.specs.declared.registries.Scheme.{Scheme}
use Rattle.protocol.specs.History.{Entry, Transition, transitions_of, newest, holds, carries}
use Rattle.protocol.specs.Registries.{allotted, has_member}
use Rattle.protocol.specs.Claims.{StandsAt, at_registry, is_received}

pub data Owner : Type 0 where
  At : Code → Owner
  Due : TransactionId → Owner

-- the transfer, with the unit, stands Completed at its initiator and not at its acquirer
pub record Owing (f : Node → List Entry) (s : Serial) (t : TransactionId) : Type 0 where
  pub last : Transition
  pub is : newest (at_registry f t.code) t ≡ Some last
  pub new : last.new ≡ Completed
  pub has : carries last s ≡ true
  pub waits : is_received f t last.content ≡ false

abbrev pub Owns : Scheme → (Node → List Entry) → Serial → Owner → Type 0
Owns scheme f s (At c) = (has_member scheme c ≡ true) × (holds scheme c (at_registry f c) s ≡ true)
Owns scheme f s (Due t) = Owing f s t

-- an allotted unit has one owner, another unit has none
pub record OneOwner (scheme : Scheme) (f : Node → List Entry) : Type 0 where
  pub one : (s : Serial) (a b : Owner) → Owns scheme f s a → Owns scheme f s b → a ≡ b
  pub some : (s : Serial) → is_some (allotted scheme s) ≡ true → (a : Owner) × Owns scheme f s a
  pub none : (s : Serial) (a : Owner) → is_some (allotted scheme s) ≡ false → Owns scheme f s a → ⊥

-- from the first to the second, the node recorded Completed for the transfer, with the unit
pub record Completes (f g : Node → List Entry) (n : Node) (t : TransactionId) (s : Serial) : Type 0 where
  pub last : Transition
  pub is : newest (transitions_of (g n)) t ≡ Some last
  pub new : last.new ≡ Completed
  pub has : carries last s ≡ true
  pub before : StandsAt f n t Completed → ⊥

-- at its initiator this hands the unit to the transfer, at the acquirer that its content names the transfer hands it on
pub data Moves (f g : Node → List Entry) (s : Serial) : Owner → Owner → Type 0 where
  sends_off : (t : TransactionId) → Completes f g (Registry t.code) t s → Moves f g s (At t.code) (Due t)
  takes_in : (t : TransactionId) (c : Code) (done : Completes f g (Registry c) t s) → option_map (λ k. k.acquirer) done.last.content ≡ Some c → Moves f g s (Due t) (At c)

-- an owner stays the same or moves in one of these ways
abbrev pub OwnersMove : Scheme → (f g : Node → List Entry) → Type 0
OwnersMove scheme f g = (s : Serial) (a b : Owner) → Owns scheme f s a → Owns scheme g s b → (a ≡ b) ⊎ Moves f g s a b
