-- The effects of the records of a journal on a node's messages, the oldest first.
use Rattle.std.specs.Prelude.{◌≡◌, ℕ, ◌==◌, Bool, false, List, [], ◌∷◌, ◌++◌, flat_map}
use Rattle.std.specs.List.{list_any}
use Rattle.wire.specs.declared.message.Message.{Message}

-- a record sends messages, or acknowledges the message with that key
pub data Sent : Type 0 where
  Sends : List Message → Sent
  Acknowledges : ℕ → Sent

abbrev pub sent_by_one : Sent → List Message
sent_by_one (Sends messages) = messages
sent_by_one (Acknowledges key) = []

-- all messages, in order; key k is entry k
abbrev pub messages : List Sent → List Message
messages records = flat_map sent_by_one records

abbrev pub acknowledges_key : ℕ → Sent → Bool
acknowledges_key key (Sends messages) = false
acknowledges_key key (Acknowledges k) = k == key

abbrev pub is_key_acknowledged : List Sent → ℕ → Bool
is_key_acknowledged records key = list_any (acknowledges_key key) records

-- the last record sends messages
abbrev pub EndsWithMessages : List Sent → Type 0
EndsWithMessages records = (earlier : List Sent) × (last : List Message) × (records ≡ earlier ++ Sends last ∷ [])
