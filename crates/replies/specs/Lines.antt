-- Lines and the messages that they write.
use Rattle.std.specs.Prelude.{◌≡◌, ◌⊎◌, ℕ, List}
use Rattle.units.specs.RefusalCodes.{not_a_message, out_of_memory}
use Rattle.units.specs.declared.refusal.Refusal.{Refusal}
use Rattle.wire.specs.Messages.{IsLine}
use Rattle.wire.specs.declared.message.Message.{Message}

-- a line and a message
pub record JobView : Type 0 where
  pub line : List ℕ
  pub message : Message

-- the line writes no message
abbrev pub IsNoLine : List ℕ → Type 0
IsNoLine line = (m : Message) → IsLine line m → ⊥

-- why a line isn't read: memory ran out, or it writes no message
abbrev pub IsUnread : List ℕ → Refusal → Type 0
IsUnread line refusal = (refusal.code ≡ out_of_memory) ⊎ ((refusal.code ≡ not_a_message) × IsNoLine line)
