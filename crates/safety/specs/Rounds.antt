-- Rounds: stretches of events after which each message that was due before is settled.
use Rattle.std.specs.Prelude.{◌≡◌, ◌⊎◌, ℕ, zero, suc, true, false, List, ◌++◌, Contains, Some, slice_get}
use Rattle.units.specs.declared.block.Unit.{Unit as Serial}
use Rattle.units.specs.declared.code.Node.{Node}
use Rattle.status.specs.declared.id.TransactionId.{TransactionId}
use Rattle.status.specs.declared.moment.Moment.{Moment}
use Rattle.wire.specs.declared.input.Input.{Input}
use Rattle.wire.specs.declared.input.Input.TheVariants.{Received}
use Rattle.wire.specs.declared.message.Message.{Message}
use Rattle.protocol.specs.declared.event.WorldEvent.{WorldEvent}
use Rattle.protocol.specs.Claims.{at_registry, committed_of, committed_part, live_of, owes, whole}
use Rattle.protocol.specs.Deciding.{Verdict, IsRepeat, IsLate}
use Rattle.protocol.specs.History.{Entry, Transition, is_known, reserves, sends}
use Rattle.protocol.specs.Verdict.{verdict}
use Rattle.protocol.specs.WayOut.{IsOpen}
use Rattle.protocol.specs.World.{World, run, station, step}
use Rattle.protocol.specs.declared.event.Outcome.{Outcome}
use Rattle.protocol.specs.declared.event.Outcome.TheVariants.{Recorded, Repeat, Late}
use Rattle.protocol.specs.declared.event.Posted.{Posted}
use Rattle.protocol.specs.declared.event.WorldEvent.TheVariants.{Deliver}

-- a verdict that records nothing and refuses nothing
abbrev pub ChangesNothing : Verdict → Type 0
ChangesNothing v = (v ≡ IsRepeat) ⊎ (v ≡ IsLate)

-- the committed records of its addressee have dealt with the message: at some moment another copy is a repeat, or late
abbrev pub IsSettled : World → Message → Type 0
IsSettled w m = (moment : Moment) × ChangesNothing (verdict w.scheme m.to (committed_of w m.to) (Received m moment))

-- each message that a committed record has sent in the first world is settled in the second
abbrev pub IsRound : World → World → Type 0
IsRound w v = (n : Node) (m : Message) → Contains (sends (committed_of w n)) m → IsSettled v m

-- the list begins with that many rounds in turn; any events may follow
abbrev pub HasRounds : ℕ → World → List WorldEvent → Type 0
HasRounds zero w events = Unit {0}
HasRounds (suc count) w events =
    (first : List WorldEvent) × (rest : List WorldEvent) × (events ≡ first ++ rest) × IsRound w (run w first) × HasRounds count (run w first) rest

-- it is open at no node, its initiator reserves none of its units, and it owes none
pub record HasEnded (f : Node → List Entry) (t : TransactionId) : Type 0 where
  pub closed : IsOpen f t → ⊥
  pub free : (s : Serial) (x : Transition) → Contains (at_registry f t.code) x → x.id ≡ t
      → (reserves t.code (at_registry f t.code) s x ≡ false) × (owes f t.code s x ≡ false)

-- what was proposed before that many rounds has ended after them, by committed journals and by those with tails
abbrev pub RoundsEnd : ℕ → World → Type 0
RoundsEnd count w =
    (events : List WorldEvent) → HasRounds count w events → (t : TransactionId) → is_known (at_registry (committed_of w) t.code) t ≡ true
    → HasEnded (committed_of (run w events)) t × HasEnded (live_of (run w events)) t

-- a transaction that is open waits for a message about it, which a committed record has sent and which isn't settled
abbrev pub OpenOnesWait : World → Type 0
OpenOnesWait w = (t : TransactionId) → IsOpen (committed_of w) t → (n : Node) × (m : Message) × Contains (sends (committed_of w n)) m × (m.id ≡ t) × (IsSettled w m → ⊥)

-- the addressee has recorded the message, or found it a repeat or late
abbrev pub IsReceived : Outcome → Type 0
IsReceived (Recorded place) = Unit {0}
IsReceived Repeat = Unit {0}
IsReceived Late = Unit {0}
IsReceived _ = ⊥

-- a message that is received is settled once its addressee has committed the whole journal that it then has
abbrev pub SettlesWhatIsReceived : World → Type 0
SettlesWhatIsReceived w =
    (index : ℕ) (moment : Moment) (p : Posted) → slice_get w.bag index ≡ Some p → IsReceived (step w (Deliver index moment)).outcome
    → (more : List WorldEvent) (later : List Input)
    → committed_part (station (run (step w (Deliver index moment)).world more) p.message.to) ≡ whole (station (step w (Deliver index moment)).world p.message.to) ++ later
    → IsSettled (run (step w (Deliver index moment)).world more) p.message

-- a message that a committed record has sent, once it is settled, is settled for good
abbrev pub SettledStays : World → Type 0
SettledStays w = (n : Node) (m : Message) → Contains (sends (committed_of w n)) m → IsSettled w m → (more : List WorldEvent) → IsSettled (run w more) m
