-- Messages that a node is still to acknowledge.
use Rattle.std.specs.Prelude.{◌≡◌, ℕ, ◌<◌, ◌≤◌, ◌&&◌, not, Bool, true, false, List, slice_get, Option, Some, None}
use Rattle.std.specs.Option.{option_map_or}
use Rattle.units.specs.Code.{same_node}
use Rattle.units.specs.declared.code.Node.{Node}
use Rattle.wire.specs.declared.message.Message.{Message}

-- the message with that key goes to that node, and isn't acknowledged
abbrev pub awaits : List Message → (ℕ → Bool) → Node → ℕ → Bool
awaits messages is_acknowledged peer key = option_map_or (λ m. same_node m.to peer) (slice_get messages key) false && not (is_acknowledged key)

-- the least number, from that one on, that passes; or `None` where there is none
abbrev pub IsLeastFrom : (ℕ → Bool) → ℕ → Option ℕ → Type 0
IsLeastFrom passes from None = (k : ℕ) → from ≤ k → passes k ≡ false
IsLeastFrom passes from (Some key) = (from ≤ key) × (passes key ≡ true) × ((k : ℕ) → from ≤ k → k < key → passes k ≡ false)
