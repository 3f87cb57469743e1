-- The outcome for a message, the tries of a pass over all messages to a peer, and the notes of the sender's seat.
use Rattle.std.specs.Prelude.{◌≡◌, ◌⊎◌, ◌+◌, ◌<◌, ◌≤◌, ℕ, List, [], ◌∷◌, ◌++◌, Option, None, Some}
use Rattle.units.specs.declared.code.Node.{Node}
use Rattle.wire.specs.Messages.{message_text}
use Rattle.wire.specs.declared.input.Input.TheVariants.{Ack}
use Rattle.wire.specs.declared.input.Number.{Number}
use Rattle.wire.specs.declared.message.Message.{Message}
use Rattle.desk.specs.Desks.{IsTakeOf}
use Rattle.node_state.specs.Telling.{kept}
use Rattle.node_state.specs.Views.{SeatView}
use Rattle.node_state.specs.declared.notes.Asked.TheVariants.{Take}
use Rattle.node_state.specs.declared.notes.Note.{Note}
use Rattle.exchanges.specs.Exchanges.{Exchanges}
use Rattle.exchanges.specs.CountedView.{CountedView}
use Rattle.exchanges.specs.Calls.{no_calls}
use Rattle.sessions.specs.Delivering.{received as was_received}
use Rattle.sessions.specs.declared.sending.Sent.{Sent}
use Rattle.sessions.specs.declared.sending.Sent.TheVariants.{Nothing, Received, NotReceived, Unreachable, Left, NoMemory}
use Rattle.sessions.specs.declared.senders.PassEnd.{PassEnd}
use Rattle.sessions.specs.declared.senders.PassEnd.TheVariants as pass

-- the desk took the acknowledgement of that key once, with that seat; no public contract cites it
pub record Acknowledges (old new : SeatView) (key : ℕ) : Type 0 where
  pub number : Number
  pub note : Note
  pub value : number.value ≡ key
  pub asked : note.asked ≡ Take (Ack number)
  pub taken : IsTakeOf (Ack number) note
  pub seat : new ≡ kept old note

-- no call of it was made
abbrev pub unused : {T : Type 0} → T → CountedView T
unused inner = record { inner = inner; calls = no_calls }

-- which connections lead to a node; the bytes that a reader has left, and those that a writer holds
module _ {R W : Type 0} (leads : Node → R → W → Type 0) (remaining : R → Option (List ℕ)) (contents : W → Option (List ℕ)) where
  -- the peer received the message: one exchange of its text over a connection that leads to the peer ended with that
  -- reply
  pub record IsReceivedBy (peer : Node) (message : Message) : Type 0 where
    pub reader : R
    pub writer : W
    pub read : CountedView R
    pub written : CountedView W
    pub led : leads peer reader writer
    pub ended : Exchanges remaining contents (unused reader) read (unused writer) written (message_text message ++ 10 ∷ []) was_received

-- ---- what the code follows; no public contract cites what stands below

-- what a node had to send to a peer from a key on, and which messages a peer received
module _ (to_send : Node → ℕ → Option (ℕ × Message) → Type 0) (received : Node → Message → Type 0) where
  -- the outcome of a call that looks for a message from that key on
  abbrev pub Sends : Node → ℕ → SeatView → SeatView → Sent → Type 0
  Sends peer from old new Nothing = to_send peer from None × (new ≡ old)
  Sends peer from old new (Received key) = ((m : Message) × to_send peer from (Some (key, m)) × received peer m) × Acknowledges old new key
  Sends peer from old new (NotReceived key) = ((m : Message) × to_send peer from (Some (key, m))) × (new ≡ old)
  Sends peer from old new (Unreachable key) = ((m : Message) × to_send peer from (Some (key, m))) × (new ≡ old)
  Sends peer from old new (Left key) = ((m : Message) × to_send peer from (Some (key, m))) × (new ≡ old)
  Sends peer from old new NoMemory = new ≡ old

-- a message was sent, or its connection was asked for, only if its key is below `end`; another one was left
abbrev pub IsParted : ℕ → Sent → Type 0
IsParted end Nothing = Unit {0}
IsParted end (Received key) = key < end
IsParted end (NotReceived key) = key < end
IsParted end (Unreachable key) = key < end
IsParted end (Left key) = end ≤ key
IsParted end NoMemory = Unit {0}

-- how a pass ended, by the outcome of its last look
abbrev pub IsLast : Sent → PassEnd → Type 0
IsLast Nothing pass.Done = Unit {0}
IsLast (Left key) pass.Done = Unit {0}
IsLast (Unreachable key) pass.Unreachable = Unit {0}
IsLast NoMemory pass.NoMemory = Unit {0}
IsLast _ _ = ⊥

-- the key from which a pass looks for the next message, once it tried those with these keys, the last one first
abbrev pub after_tries : List ℕ → ℕ
after_tries [] = 0
after_tries (key ∷ before) = key + 1

-- what a node had to send to a peer from a key on, and which messages a peer received
module _ (to_send : Node → ℕ → Option (ℕ × Message) → Type 0) (received : Node → Message → Type 0) where
  -- a pass over the messages with keys below `end` looked for a message from that key on, and its seat forgot its notes
  pub record Looks (peer : Node) (end from : ℕ) (old new : SeatView) (sent : Sent) : Type 0 where
    pub seat : SeatView
    pub sends : Sends to_send received peer from old seat sent
    pub parted : IsParted end sent
    pub forgot : new ≡ record seat { notes = [] }

  -- over a connection that was made, it tried the message with that key
  abbrev pub TriesKey : Node → ℕ → ℕ → SeatView → SeatView → ℕ → Type 0
  TriesKey peer end from old new key = Looks peer end from old new (Received key) ⊎ Looks peer end from old new (NotReceived key)

  -- it tried the messages with these keys, the last one first, each once: the first one is the first that there was to
  -- send, and each further one the first after the one before
  abbrev pub TriesKeys : Node → ℕ → SeatView → SeatView → List ℕ → Type 0
  TriesKeys peer end old new [] = new ≡ old
  TriesKeys peer end old new (key ∷ before) = (mid : SeatView) × TriesKey peer end (after_tries before) mid new key × TriesKeys peer end old mid before

  -- a whole pass over the messages that the committed records sent when it began: their keys are below `end`
  pub record Passes (have_sent : ℕ → Type 0) (peer : Node) (old new : SeatView) (ended : PassEnd) : Type 0 where
    pub end : ℕ
    pub began : have_sent end
    pub tried : List ℕ
    pub seat : SeatView
    pub tries : TriesKeys peer end old seat tried
    pub sent : Sent
    pub looked : Looks peer end (after_tries tried) seat new sent
    pub last : IsLast sent ended

-- a message with its key, and the node that it went to, over a connection that was asked for with that node
pub record DeliveredView (N : Type 0) : Type 0 where
  pub network : N
  pub peer : Node
  pub key : ℕ
  pub message : Message

-- which messages a peer received
module _ (received : Node → Message → Type 0) where
  -- the outcome for a message that is sent over a connection of its own, if one can be made
  abbrev pub Tries : Node → Message → SeatView → SeatView → ℕ → Sent → Type 0
  Tries peer message old new key Nothing = ⊥
  Tries peer message old new key (Received k) = (k ≡ key) × received peer message × Acknowledges old new key
  Tries peer message old new key (NotReceived k) = (k ≡ key) × (new ≡ old)
  Tries peer message old new key (Unreachable k) = (k ≡ key) × (new ≡ old)
  Tries peer message old new key (Left k) = ⊥
  Tries peer message old new key NoMemory = new ≡ old
