-- Lines that were given to an answerer, each with its reply.
use Rattle.std.specs.Prelude.{◌≡◌, ℕ, List, [], ◌∷◌, ◌++◌, map, Result, Ok, Err}
use Rattle.std.specs.List.{AllByRecursion}
use Rattle.units.specs.RefusalCodes.{node_stopped}
use Rattle.units.specs.declared.memory.NoMemory.{NoMemory}
use Rattle.streams.specs.Lines.{stream_of}
use Rattle.wire.specs.Replies.{reply_text}
use Rattle.wire.specs.declared.reply.Reply.{Reply}
use Rattle.wire.specs.declared.reply.Reply.TheVariants.{Received, Refused}

pub record Given : Type 0 where
  -- without its newline
  pub line : List ℕ
  pub reply : Reply

-- the list of given lines after one more line with its reply, or without a reply
abbrev pub GivesOne : List Given → List Given → List ℕ → Result Reply NoMemory → Type 0
GivesOne old new line (Ok reply) = new ≡ old ++ record { line = line; reply = reply } ∷ []
GivesOne old new line (Err e) = new ≡ old

abbrev pub lines_of : List Given → List (List ℕ)
lines_of given = map (λ g. g.line) given

-- the texts of the replies, each with its newline
abbrev pub replies_text : List Given → List ℕ
replies_text given = stream_of (map (λ g. reply_text g.reply) given) []

-- the reply says that the node has stopped
abbrev pub IsStopped : Reply → Type 0
IsStopped Received = ⊥
IsStopped (Refused code) = code.number ≡ node_stopped

-- no reply says that the node has stopped
abbrev pub NoneStopped : List Given → Type 0
NoneStopped given = AllByRecursion (λ g. IsStopped g.reply → ⊥) given
