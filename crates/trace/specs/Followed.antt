-- Definitions that the code follows. No public contract cites it.
use Rattle.std.specs.Prelude.{◌≡◌, ◌==◌, ◌&&◌, ◌||◌, not, ℕ, Bool, false, List, ◌++◌, map, Option, Some, None}
use Rattle.std.specs.List.{filter, list_any}
use Rattle.units.specs.Code.{same_node}
use Rattle.units.specs.declared.code.Node.{Node}
use Rattle.status.specs.Id.{same_id}
use Rattle.status.specs.declared.id.TransactionId.{TransactionId}
use Rattle.status.specs.declared.status.Status.{Status}
use Rattle.wire.specs.declared.input.Input.{Input}
use Rattle.wire.specs.declared.input.Input.TheVariants.{Ack}
use Rattle.protocol.specs.World.{World, step}
use Rattle.protocol.specs.declared.event.Outcome.{Outcome}
use Rattle.protocol.specs.declared.event.Outcome.TheVariants.{Recorded}
use Rattle.protocol.specs.declared.event.Posted.{Posted}
use Rattle.protocol.specs.declared.event.WorldEvent.{WorldEvent}
use Rattle.report.specs.declared.form.Form.{Form}
use Rattle.trace.specs.Lines.{AreRowLines}
use Rattle.trace.specs.Rows.{Row, names, row_by, rows, same_standing}
use Rattle.trace.specs.declared.following.Tracing.{Tracing}
use Rattle.trace.specs.declared.sent.Sent.{Sent}

-- ---- the messages about a transaction that nodes posted

abbrev pub sent_of : Posted → Sent
sent_of p = record { node = p.node; key = p.key }

abbrev pub sent_about : TransactionId → List Posted → List Sent
sent_about id bag = map sent_of (filter (λ p. same_id p.message.id id) bag)

abbrev pub is_sent : List Sent → Node → ℕ → Bool
is_sent sent n key = list_any (λ s. same_node s.node n && (s.key == key)) sent

-- the input acknowledges one of these messages
abbrev pub acknowledges_one : List Sent → Node → Input → Bool
acknowledges_one sent n (Ack key) = is_sent sent n key.value
acknowledges_one sent n _ = false

-- ---- one event

-- the place at which it was recorded
abbrev pub place_of : Outcome → Option ℕ
place_of (Recorded place) = Some place
place_of _ = None

-- whether a record is of the transaction, by what the code has computed
abbrev pub is_traced : List Sent → TransactionId → Node → Input → (before now : Option Status) → Bool
is_traced sent id n input before now = names id input || (acknowledges_one sent n input || not (same_standing before now))

-- the new text is the old one with the lines of the rows added
abbrev pub HasLines : Form → (old new : List ℕ) → List Row → Type 0
HasLines form old new rs = (lines : List ℕ) × AreRowLines form lines rs × (new ≡ old ++ lines)

abbrev pub KnowsSent : Tracing → Type 0
KnowsSent t = t.sent.items ≡ sent_about t.id t.world.bag

-- the event has happened, and the line of its row was added to the text
pub record HasFollowed (old new : Tracing) (e : WorldEvent) : Type 0 where
  pub id : new.id ≡ old.id
  pub form : new.form ≡ old.form
  pub world : new.world ≡ (step old.world e).world
  pub sent : KnowsSent new
  pub lines : HasLines old.form old.text.items new.text.items (row_by old.world old.id e)

-- the rows of the whole list of events, from the first world on, are those that were written and those of the events
-- that are left
abbrev pub IsWritten : Form → (start now : List ℕ) (first w : World) → TransactionId → (whole left : List WorldEvent) → Type 0
IsWritten form start now first w id whole left = (rs : List Row) × HasLines form start now rs × (rows first id whole ≡ rs ++ rows w id left)
