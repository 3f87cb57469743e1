-- The lines of a chart: Mermaid's sequence diagram of the nodes' actions and of the messages between them.
use Rattle.std.specs.Prelude.{ℕ, ◌-◌, Bool, List, [], ◌∷◌, ◌++◌, Option, Some, None, codes, decimal, flat_map, if◌then◌else◌, length, slice_get, unwrap_or}
use Rattle.std.specs.List.{join_by}
use Rattle.std.specs.Str.Lines.{lines}
use Rattle.units.specs.Block.{raw_text}
use Rattle.units.specs.Code.{code_text, node_text}
use Rattle.units.specs.declared.block.RawBlock.{RawBlock}
use Rattle.units.specs.declared.code.Node.{Node}
use Rattle.units.specs.declared.code.Node.TheVariants.{Itl}
use Rattle.status.specs.Id.{id_text}
use Rattle.wire.specs.declared.input.Input.{Input}
use Rattle.wire.specs.declared.input.Input.TheVariants.{Propose, Request, OpenAccount, CloseAccount, Ack, CleanUp, Eligible, Received}
use Rattle.wire.specs.declared.message.Message.{Message}
use Rattle.protocol.specs.declared.event.Outcome.{Outcome}
use Rattle.protocol.specs.declared.event.Outcome.TheVariants.{NotPossible}
use Rattle.protocol.specs.declared.event.WorldEvent.{WorldEvent}
use Rattle.protocol.specs.declared.event.WorldEvent.TheVariants.{Take, Commit, Post, Deliver, Crash, Restart}
use Rattle.report.specs.ReportLines.{message_text, outcome_text}

-- ---- words

abbrev pub blocks_text : List RawBlock → List ℕ
blocks_text blocks = flat_map (λ b. codes " " ++ raw_text b) blocks

abbrev pub yes_or_no : Bool → List ℕ
yes_or_no may = if may then codes "yes" else codes "no"

-- an order in few words; a moment is written in seconds
abbrev pub order_text : Input → List ℕ
order_text (Propose o) = codes "propose " ++ decimal o.account ++ codes " " ++ code_text o.acquirer ++ codes " " ++ decimal o.to_account ++ blocks_text o.units
order_text (Request t) = codes "request " ++ id_text t
order_text (OpenAccount n) = codes "open " ++ decimal n.value
order_text (CloseAccount n) = codes "close " ++ decimal n.value
order_text (Ack n) = codes "ack " ++ decimal n.value
order_text (CleanUp m) = codes "clean-up " ++ decimal m.seconds
order_text (Eligible c may) = codes "eligible " ++ code_text c ++ codes " " ++ yes_or_no may
order_text (Received m moment) = codes "message"

-- ---- lines

-- the action of a node, and its outcome
abbrev pub note_line : Node → List ℕ → Outcome → List ℕ
note_line n text outcome = codes "    Note over " ++ node_text n ++ codes ": " ++ text ++ codes ", " ++ outcome_text outcome ++ codes "\n"

-- a message on its way, which ends in an arrow's head or in a cross
abbrev pub arrow : List ℕ → Message → List ℕ
arrow shape m = codes "    " ++ node_text m.from ++ shape ++ node_text m.to ++ codes ": " ++ message_text m

-- a message whose addressee doesn't run ends in a cross
abbrev pub shape_of : Outcome → List ℕ
shape_of NotPossible = codes "-x"
shape_of _ = codes "->>"

-- a message that reaches its addressee, and the outcome
abbrev pub delivered_line : Message → Outcome → List ℕ
delivered_line m outcome = arrow (shape_of outcome) m ++ codes ", " ++ outcome_text outcome ++ codes "\n"

-- a message that was posted and never delivered
abbrev pub lost_line : Message → List ℕ
lost_line m = arrow (codes "-x") m ++ codes ", never delivered\n"

-- a message of the bag that reaches its addressee; where the bag has none with that number, there is a note at the log
abbrev pub deliver_line : Option Message → ℕ → Outcome → List ℕ
deliver_line (Some m) index outcome = delivered_line m outcome
deliver_line None index outcome = note_line Itl (codes "deliver " ++ decimal index) outcome

-- a message that is posted has its line where it is delivered, or else among those that never were
abbrev pub post_line : Node → ℕ → Outcome → List ℕ
post_line n key NotPossible = note_line n (codes "post " ++ decimal key) NotPossible
post_line n key _ = []

-- the line of an event. The message with the event's number in the bag is given
abbrev pub event_line : Option Message → WorldEvent → Outcome → List ℕ
event_line m (Take n input) outcome = note_line n (order_text input) outcome
event_line m (Commit n count) outcome = note_line n (codes "commit " ++ decimal count) outcome
event_line m (Post n key) outcome = post_line n key outcome
event_line m (Deliver index moment) outcome = deliver_line m index outcome
event_line m (Crash n kept) outcome = note_line n (codes "crash, kept " ++ decimal kept) outcome
event_line m (Restart n) outcome = note_line n (codes "restart") outcome

-- a node that takes part
abbrev pub participant_line : Node → List ℕ
participant_line n = codes "    participant " ++ node_text n ++ codes "\n"

-- the lines of a text, with a break between each two
abbrev pub broken : List ℕ → List ℕ
broken text = join_by (λ line. line) (codes "<br/>") (lines text)

-- the last of the nodes after the first, or the first where there are none
abbrev pub last_of : Node → List Node → Node
last_of n ns = unwrap_or (slice_get ns (length ns - 1)) n

-- a note over all of the nodes, with the lines of a text
abbrev pub wide_note_line : List Node → List ℕ → List ℕ
wide_note_line [] text = []
wide_note_line (n ∷ ns) text = codes "    Note over " ++ node_text n ++ codes "," ++ node_text (last_of n ns) ++ codes ": " ++ broken text ++ codes "\n"
