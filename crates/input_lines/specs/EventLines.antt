-- The lines of events: the words for each event.
use Rattle.std.specs.Prelude.{◌≡◌, ℕ, ◌<◌, List, [], ◌∷◌, codes, decimal}
use Rattle.std.specs.Str.{IsUtf8}
use Rattle.units.specs.Code.{node_text}
use Rattle.units.specs.Limits.{too_long}
use Rattle.wire.specs.declared.input.Input.TheVariants.{Ack}
use Rattle.protocol.specs.declared.event.WorldEvent.{WorldEvent}
use Rattle.protocol.specs.declared.event.WorldEvent.TheVariants.{Take, Commit, Post, Deliver, Crash, Restart}
use Rattle.input_lines.specs.Instructions.{AreScriptWords, AreWithMoment}
use Rattle.input_lines.specs.Words.{AreCut}
use Rattle.input_lines.specs.declared.instruction.Instruction.TheVariants.{Order}

-- an order is written as in a script, and an acknowledgement with the key of the node's message. A received message has
-- no line, since it is delivered by an event of its own. A number of an event has at most `most_digits` digits
abbrev pub AreWords : List (List ℕ) → WorldEvent → Type 0
AreWords words (Take node (Ack key)) = words ≡ codes "ack" ∷ node_text node ∷ decimal key.value ∷ []
AreWords words (Take node input) = AreScriptWords words node (Order input)
AreWords words (Commit node count) = (words ≡ codes "commit" ∷ node_text node ∷ decimal count ∷ []) × (count < too_long)
AreWords words (Post node key) = (words ≡ codes "post" ∷ node_text node ∷ decimal key ∷ []) × (key < too_long)
AreWords words (Deliver message moment) = AreWithMoment words (codes "deliver" ∷ decimal message ∷ []) moment × (message < too_long)
AreWords words (Crash node kept) = (words ≡ codes "crash" ∷ node_text node ∷ decimal kept ∷ []) × (kept < too_long)
AreWords words (Restart node) = words ≡ codes "restart" ∷ node_text node ∷ []

-- the line, without its newline, is UTF-8 and its words write the event
pub record IsEventLine (line : List ℕ) (event : WorldEvent) : Type 0 where
  pub words : List (List ℕ)
  pub utf8 : IsUtf8 line
  pub cut : AreCut line words
  pub told : AreWords words event
