-- The chart of a list of events: Mermaid's sequence diagram of the nodes' actions and of the messages between them.
use Rattle.std.specs.Prelude.{◌≡◌, ℕ, ◌==◌, ◌&&◌, Bool, true, false, not, List, [], ◌∷◌, ◌++◌, codes, filter, flat_map, map, slice_get, Option, Some, None, option_map}
use Rattle.std.specs.List.{enumerate_from, list_any}
use Rattle.units.specs.Code.{same_node}
use Rattle.units.specs.declared.code.Node.{Node}
use Rattle.units.specs.declared.code.Node.TheVariants.{Itl}
use Rattle.wire.specs.declared.message.Message.{Message}
use Rattle.protocol.specs.Scheme.{Scheme}
use Rattle.protocol.specs.World.{World, opening, run, step}
use Rattle.protocol.specs.declared.event.Outcome.{Outcome}
use Rattle.protocol.specs.declared.event.Outcome.TheVariants.{NotPossible}
use Rattle.protocol.specs.declared.event.Posted.{Posted}
use Rattle.protocol.specs.declared.event.WorldEvent.{WorldEvent}
use Rattle.protocol.specs.declared.event.WorldEvent.TheVariants.{Take, Commit, Post, Deliver, Crash, Restart}
use Rattle.chart.specs.ChartLines.{event_line, lost_line, participant_line, wide_note_line}
use Rattle.report.specs.Table.{IsSafeTable}
use Rattle.report.specs.declared.form.Form.TheVariants.{Lines}

-- ---- the happenings

-- an event, its outcome, and the message that it is about, where it delivers one
pub record Happening : Type 0 where
  pub event : WorldEvent
  pub outcome : Outcome
  pub message : Option Message

-- the message with a delivery's number in the bag
abbrev pub message_of : World → WorldEvent → Option Message
message_of w (Deliver index moment) = option_map (λ p. p.message) (slice_get w.bag index)
message_of w _ = None

abbrev pub happening : World → WorldEvent → Happening
happening w e = record { event = e; outcome = (step w e).outcome; message = message_of w e }

-- the happenings of the events from a world on
abbrev pub happenings : World → List WorldEvent → List Happening
happenings w [] = []
happenings w (e ∷ es) = happening w e ∷ happenings (step w e).world es

abbrev pub happening_line : Happening → List ℕ
happening_line h = event_line h.message h.event h.outcome

-- ---- messages that never arrived

-- a message that is delivered to a node arrives exactly when the node runs
abbrev pub arrives : Outcome → Bool
arrives NotPossible = false
arrives _ = true

-- the message with that number in the bag arrives
abbrev pub delivers : ℕ → WorldEvent → Outcome → Bool
delivers number (Deliver index moment) outcome = arrives outcome && (index == number)
delivers number _ outcome = false

abbrev pub is_delivered : List Happening → ℕ → Bool
is_delivered hs number = list_any (λ h. delivers number h.event h.outcome) hs

-- the messages of a bag that never arrived, in its order
abbrev pub lost : List Happening → List Posted → List Message
lost hs bag = map (λ p. p.1.message) (filter (λ p. not (is_delivered hs p.0)) (enumerate_from 0 bag))

-- ---- nodes that take part

abbrev pub parties : Message → List Node
parties m = m.from ∷ m.to ∷ []

-- the nodes of an event; where it delivers nothing, its note is at the log
abbrev pub delivery_nodes : Option Message → List Node
delivery_nodes (Some m) = parties m
delivery_nodes None = Itl ∷ []

abbrev pub event_nodes : Option Message → WorldEvent → List Node
event_nodes m (Take n input) = n ∷ []
event_nodes m (Commit n count) = n ∷ []
event_nodes m (Post n key) = n ∷ []
event_nodes m (Deliver index moment) = delivery_nodes m
event_nodes m (Crash n kept) = n ∷ []
event_nodes m (Restart n) = n ∷ []

abbrev pub happening_nodes : Happening → List Node
happening_nodes h = event_nodes h.message h.event

-- each node once, where it first occurs
abbrev pub first_ones : List Node → List Node
first_ones [] = []
first_ones (n ∷ ns) = n ∷ filter (λ m. not (same_node m n)) (first_ones ns)

-- the nodes of the events, those of lost messages, and the log
abbrev pub participants : List Happening → List Message → List Node
participants hs never = first_ones (flat_map happening_nodes hs ++ (flat_map parties never ++ Itl ∷ []))

-- ---- the chart

-- the participants, then the happenings, the messages that were lost, and the table as a note over all nodes
abbrev pub chart_text : List Happening → List Message → (table : List ℕ) → List ℕ
chart_text hs never table =
    codes "sequenceDiagram\n"
    ++ flat_map participant_line (participants hs never)
    ++ flat_map happening_line hs
    ++ flat_map lost_line never
    ++ wide_note_line (participants hs never) table

-- the text is the chart of the events under the scheme, with the table of the world that they lead to
pub record IsChart (scheme : Scheme) (events : List WorldEvent) (text : List ℕ) : Type 0 where
  pub table : List ℕ
  pub is_table : IsSafeTable Lines scheme events table
  pub spelled : text ≡ chart_text (happenings (opening scheme) events) (lost (happenings (opening scheme) events) (run (opening scheme) events).bag) table

-- ---- what the code follows; no public contract cites what stands below

-- the drawing so far: the nodes of the happenings, each once, the numbers in the bag that were delivered, and the lines
pub record IsDrawn (hs : List Happening) (nodes : List Node) (delivered : ℕ → Bool) (lines : List ℕ) : Type 0 where
  pub named : nodes ≡ first_ones (flat_map happening_nodes hs)
  pub marked : (number : ℕ) → delivered number ≡ is_delivered hs number
  pub spelled : lines ≡ flat_map happening_line hs

-- the same for the world that the events lead to
pub record HasDrawn (scheme : Scheme) (events : List WorldEvent) (w : World) (nodes : List Node) (delivered : ℕ → Bool) (lines : List ℕ) : Type 0 where
  pub world : w ≡ run (opening scheme) events
  pub drawn : IsDrawn (happenings (opening scheme) events) nodes delivered lines
