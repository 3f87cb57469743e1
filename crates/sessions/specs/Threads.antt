-- How many threads a node has, and the inputs that they give its desk: messages that come, and acknowledgements of
-- those that were delivered.
use Rattle.std.specs.Prelude.{◌+◌, ℕ, Option, Some}
use Rattle.units.specs.declared.code.Node.{Node}
use Rattle.protocol.specs.Moment.{Moment}
use Rattle.wire.specs.declared.input.Input.{Input}
use Rattle.wire.specs.declared.input.Input.TheVariants.{Propose, Request, OpenAccount, CloseAccount, Ack, CleanUp, Eligible, Received}
use Rattle.wire.specs.declared.message.Message.{Message}
use Rattle.node_state.specs.Views.{SeatView}
use Rattle.sessions.specs.Orders.{HasOnly}
use Rattle.sessions.specs.declared.node_threads.TheConstants.{WORKERS}
use Rattle.sessions.specs.declared.session_threads.TheConstants.{SESSION_THREADS}

-- for a node that sends to that many others: one commits, and one sends to each of them
abbrev pub thread_count : ℕ → ℕ
thread_count peers = 1 + SESSION_THREADS + WORKERS + peers

-- what a node had to send to a peer from a key on, and which messages a peer received
module _ (to_send : Node → ℕ → Option (ℕ × Message) → Type 0) (received : Node → Message → Type 0) where
  -- the committed message with that key was delivered: its peer replied that it was received
  pub record IsDelivered (key : ℕ) : Type 0 where
    pub peer : Node
    pub from : ℕ
    pub message : Message
    pub sent : to_send peer from (Some (key, message))
    pub replied : received peer message

  -- the same; and which moments a clock gave
  module _ (tells : Moment → Type 0) where
    -- a message, at a moment that the clock gave, or the acknowledgement of one that was delivered
    abbrev pub IsOfThread : Input → Type 0
    IsOfThread (Propose o) = ⊥
    IsOfThread (Request t) = ⊥
    IsOfThread (OpenAccount account) = ⊥
    IsOfThread (CloseAccount account) = ⊥
    IsOfThread (CleanUp moment) = ⊥
    IsOfThread (Eligible c may) = ⊥
    IsOfThread (Ack number) = IsDelivered number.value
    IsOfThread (Received m moment) = tells moment

    -- each input of the thread's desk at that seat is of that kind
    abbrev pub AreOfThread : SeatView → Type 0
    AreOfThread = HasOnly IsOfThread
