-- The bytes that an exchange writes and reads.
use Rattle.std.specs.Prelude.{◌≡◌, ℕ, ◌+◌, List, [], ◌∷◌, ◌++◌, length, Option, ◌⊎◌}
use Rattle.units.specs.Limits.{longest_line}
use Rattle.streams.specs.Lines.{HasNoNewline, IsWithin}
use Rattle.wire.specs.Replies.{IsReply}
use Rattle.wire.specs.declared.reply.Reply.{Reply}
use Rattle.streams.specs.Calls.{most_interruptions}
use Rattle.exchanges.specs.CountedView.{CountedView}
use Rattle.exchanges.specs.Streams.{WritesAll, WritesFirst, Takes, TakesAll, TakesAndFails}
use Rattle.exchanges.specs.declared.ends.Exchange.{Exchange}
use Rattle.exchanges.specs.declared.ends.Exchange.TheVariants.{Answered, WriteFault, ReadFault, PeerEnded, BadReply, NoMemory}

-- the line is no reply
abbrev pub IsNoReply : List ℕ → Type 0
IsNoReply line = (reply : Reply) → IsReply line reply → ⊥

module _ {R W : Type 0} (remaining : R → Option (List ℕ)) (contents : W → Option (List ℕ)) where
  -- the bytes that were read after the text was written, and the end that they lead to
  abbrev pub Hears : CountedView R → CountedView R → Exchange → Type 0
  Hears old new (Answered reply) = (line : List ℕ) × IsReply line reply × IsWithin longest_line line × Takes remaining old new (line ++ 10 ∷ [])
  Hears old new ReadFault = (start : List ℕ) × IsWithin longest_line start × TakesAndFails remaining old new start
  Hears old new PeerEnded = (start : List ℕ) × IsWithin longest_line start × TakesAll remaining old new start
  Hears old new BadReply =
      ((line : List ℕ) × IsNoReply line × IsWithin longest_line line × Takes remaining old new (line ++ 10 ∷ []))
      ⊎ ((start : List ℕ) × HasNoNewline start × (length start ≡ longest_line + 1) × Takes remaining old new start)
  Hears old new NoMemory = (line : List ℕ) × IsWithin longest_line line × Takes remaining old new (line ++ 10 ∷ [])
  Hears old new (WriteFault n) = ⊥

  -- the bytes that an exchange of a text wrote and read, and the reason for its end
  abbrev pub Exchanges : CountedView R → CountedView R → CountedView W → CountedView W → List ℕ → Exchange → Type 0
  Exchanges r r' w w' text (WriteFault n) = (r' ≡ r) × WritesFirst contents most_interruptions w w' text n
  Exchanges r r' w w' text NoMemory = ((r' ≡ r) × (w' ≡ w)) ⊎ (WritesAll contents w w' text × Hears r r' NoMemory)
  Exchanges r r' w w' text (Answered reply) = WritesAll contents w w' text × Hears r r' (Answered reply)
  Exchanges r r' w w' text ReadFault = WritesAll contents w w' text × Hears r r' ReadFault
  Exchanges r r' w w' text PeerEnded = WritesAll contents w w' text × Hears r r' PeerEnded
  Exchanges r r' w w' text BadReply = WritesAll contents w w' text × Hears r r' BadReply
