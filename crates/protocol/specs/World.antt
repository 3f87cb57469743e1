-- The world: every node's committed journal, tail and running flag, and all messages ever posted.
use Rattle.std.specs.Prelude.{ℕ, ◌==◌, ◌&&◌, not, cond, nat_le, Bool, true, false, List, [], ◌∷◌, ◌++◌, take, drop, length, map, find, slice_get, Option, Some, None, option_and_then}
use Rattle.std.specs.List.{list_any, fold}
use Rattle.units.specs.Code.{same_node}
use Rattle.units.specs.declared.code.Node.{Node}
use Rattle.units.specs.declared.code.Node.TheVariants.{Itl, Registry}
use Rattle.status.specs.declared.moment.Moment.{Moment}
use Rattle.wire.specs.declared.input.Input.{Input}
use Rattle.wire.specs.declared.input.Input.TheVariants.{Propose, Request, OpenAccount, CloseAccount, Ack, CleanUp, Eligible, Received}
use Rattle.wire.specs.declared.message.Message.{Message}
use Rattle.scheme.specs.declared.registries.Scheme.{Scheme}
use Rattle.protocol.specs.declared.event.Outcome.{Outcome}
use Rattle.protocol.specs.declared.event.Outcome.TheVariants.{Recorded, Repeat, Late, Refused, Done, NotPossible}
use Rattle.protocol.specs.declared.event.Posted.{Posted}
use Rattle.protocol.specs.declared.event.WorldEvent.{WorldEvent}
use Rattle.protocol.specs.declared.event.WorldEvent.TheVariants.{Take, Commit, Post, Deliver, Crash, Restart}
use Rattle.protocol.specs.Deciding.{Verdict, IsRecorded, IsRepeat, IsLate, IsRefused}
use Rattle.protocol.specs.History.{sends}
use Rattle.protocol.specs.Verdict.{verdict, history}

-- a node: its committed journal, the tail after it, and whether it runs
pub record Station : Type 0 where
  pub node : Node
  pub committed : List Input
  pub tail : List Input
  pub runs : Bool

pub record World : Type 0 where
  pub scheme : Scheme
  pub stations : List Station
  -- every message that was ever posted; nothing is taken from it
  pub bag : List Posted

pub record Stepped : Type 0 where
  pub world : World
  pub outcome : Outcome

-- ---- reading and changing a world

abbrev pub station : World → Node → Option Station
station w n = find (λ s. same_node s.node n) w.stations

abbrev pub journal : Station → List Input
journal s = s.committed ++ s.tail

abbrev pub put_station : Station → List Station → List Station
put_station s [] = []
put_station s (x ∷ xs) = cond (same_node x.node s.node) (s ∷ xs) (x ∷ put_station s xs)

-- the world with that station in the place of its node's
abbrev pub put : World → Station → World
put w s = record w { stations = put_station s w.stations }

abbrev pub stays : World → Outcome → Stepped
stays w outcome = record { world = w; outcome = outcome }

-- ---- the opening world

abbrev pub opening_station : Node → Station
opening_station n = record { node = n; committed = []; tail = []; runs = true }

-- the log, then the registries in the scheme's order
abbrev pub opening : Scheme → World
opening scheme = record {
  scheme = scheme;
  stations = opening_station Itl ∷ map (λ m. opening_station (Registry m.code)) scheme.members;
  bag = [];
}

-- ---- the steps of a node

-- the node after the step, and the outcome
pub record Turn : Type 0 where
  pub station : Station
  pub outcome : Outcome

abbrev pub rests : Station → Outcome → Turn
rests s outcome = record { station = s; outcome = outcome }

-- a stopped node does nothing
abbrev pub running : Station → Turn → Turn
running s turn = cond s.runs turn (rests s NotPossible)

-- the input goes to the end of the tail where it is recorded
abbrev pub answered : Station → Input → Verdict → Turn
answered s input (IsRecorded xs) = record {
  station = record s { tail = s.tail ++ input ∷ [] };
  outcome = Recorded (length (journal s));
}
answered s input IsRepeat = rests s Repeat
answered s input IsLate = rests s Late
answered s input (IsRefused code) = rests s (Refused code)

abbrev pub take_input : Scheme → Input → Station → Turn
take_input scheme input s = running s (answered s input (verdict scheme s.node (history scheme s.node (journal s)) input))

-- the first `count` records of the tail are committed, where it has that many
abbrev pub commit : ℕ → Station → Turn
commit count s = running s (cond (nat_le count (length s.tail))
    (record {
      station = record s { committed = s.committed ++ take count s.tail; tail = drop count s.tail };
      outcome = Done;
    })
    (rests s NotPossible))

-- the first `kept` records of the tail are committed, the others are lost, and the node stops
abbrev pub crash : ℕ → Station → Turn
crash kept s = running s (cond (nat_le kept (length s.tail))
    (record {
      station = record s { committed = s.committed ++ take kept s.tail; tail = []; runs = false };
      outcome = Done;
    })
    (rests s NotPossible))

-- a stopped node starts
abbrev pub restart : Station → Turn
restart s = cond s.runs (rests s NotPossible) (record { station = record s { runs = true }; outcome = Done })

-- the message with that key, of a running node where its record is committed
abbrev pub sent : Scheme → ℕ → Station → Option Message
sent scheme key s = cond s.runs (slice_get (sends (history scheme s.node s.committed)) key) None

-- ---- one event

-- the world after a node's turn; an event at a node that isn't there isn't possible
abbrev pub at_node : World → Option Station → (Station → Turn) → Stepped
at_node w None f = stays w NotPossible
at_node w (Some s) f = record { world = put w (f s).station; outcome = (f s).outcome }

abbrev pub was_posted : World → Node → ℕ → Bool
was_posted w n key = list_any (λ p. same_node p.node n && (p.key == key)) w.bag

abbrev pub is_registry : Node → Bool
is_registry Itl = false
is_registry (Registry c) = true

-- an input that this kind of node takes as an order, or the acknowledgement of a message that it posted
abbrev pub is_order : World → Node → Input → Bool
is_order w n (Propose o) = is_registry n
is_order w n (Request t) = is_registry n
is_order w n (OpenAccount account) = is_registry n
is_order w n (CloseAccount account) = is_registry n
is_order w n (CleanUp t) = not (is_registry n)
is_order w n (Eligible c may) = not (is_registry n)
is_order w n (Ack key) = was_posted w n key.value
is_order w n (Received m moment) = false

-- a message goes into the bag
abbrev pub posted : World → Node → ℕ → Option Message → Stepped
posted w n key None = stays w NotPossible
posted w n key (Some m) = record {
  world = record w { bag = w.bag ++ record { node = n; key = key; message = m } ∷ [] };
  outcome = Done;
}

-- a message of the bag is delivered to its addressee
abbrev pub deliver : World → Moment → Option Posted → Stepped
deliver w moment None = stays w NotPossible
deliver w moment (Some p) = at_node w (station w p.message.to) (take_input w.scheme (Received p.message moment))

unfoldable pub step : World → WorldEvent → Stepped
step w (Take n input) = cond (is_order w n input) (at_node w (station w n) (take_input w.scheme input)) (stays w NotPossible)
step w (Commit n count) = at_node w (station w n) (commit count)
step w (Post n key) = posted w n key (option_and_then (sent w.scheme key) (station w n))
step w (Deliver index moment) = deliver w moment (slice_get w.bag index)
step w (Crash n kept) = at_node w (station w n) (crash kept)
step w (Restart n) = at_node w (station w n) restart

-- ---- a list of events

abbrev pub run : World → List WorldEvent → World
run w events = fold (λ v e. (step v e).world) w events

-- the outcomes in turn
abbrev pub outcomes : World → List WorldEvent → List Outcome
outcomes w [] = []
outcomes w (e ∷ es) = (step w e).outcome ∷ outcomes (step w e).world es
