-- The claims about the histories of all nodes.
use Rattle.std.specs.List.{count_by, sum_by}
use Rattle.std.specs.Prelude.{◌≡◌, ◌≤◌, ◌⊎◌, ℕ, ◌+◌, ◌&&◌, not, cond, is_some, Bool, true, false, List, [], ◌++◌, Contains, Option, Some, None}
use Rattle.std.specs.Option.{option_map_or}
use Rattle.units.specs.RefusalCodes.{journal_full, initiator_not_eligible, acquirer_not_eligible}
use Rattle.units.specs.declared.block.Unit.{Unit as Serial}
use Rattle.units.specs.declared.code.Code.{Code}
use Rattle.units.specs.declared.code.Node.{Node}
use Rattle.units.specs.declared.code.Node.TheVariants.{Itl, Registry}
use Rattle.status.specs.Content.{Content}
use Rattle.status.specs.Id.{same_id, id_at}
use Rattle.status.specs.Status.{same_status}
use Rattle.status.specs.declared.id.TransactionId.{TransactionId}
use Rattle.status.specs.declared.moment.Moment.{Moment}
use Rattle.status.specs.declared.status.Status.{Status}
use Rattle.status.specs.declared.status.Status.TheVariants.{Checked, Accepted, Rejected, Terminated, Cancelled, Completed}
use Rattle.wire.specs.declared.input.Input.{Input}
use Rattle.wire.specs.declared.message.Body.TheVariants as body
use Rattle.wire.specs.declared.message.Message.{Message}
use Rattle.wire.specs.declared.notified.NotifiedStatus.TheVariants as notified
use Rattle.scheme.specs.declared.registries.Scheme.{Scheme}
use Rattle.protocol.specs.declared.event.Outcome.TheVariants.{Refused}
use Rattle.protocol.specs.declared.event.WorldEvent.TheVariants.{Deliver}
use Rattle.protocol.specs.Deciding.{IsRecorded}
use Rattle.protocol.specs.History.{Entry, Transition, transitions_of, newest, stands, stands_at, sends, holds, spendable, gives, credits, at_start, book_owner, carries, proposals}
use Rattle.protocol.specs.Registries.{allotted}
use Rattle.protocol.specs.Verdict.{history, verdict}
use Rattle.protocol.specs.World.{World, Station, station, journal, step}

-- ---- the histories of all nodes

abbrev pub committed_part : Option Station → List Input
committed_part station = option_map_or (λ s. s.committed) station []

abbrev pub whole : Option Station → List Input
whole station = option_map_or journal station []

-- by committed journals, and with the tails
abbrev pub committed_of : World → Node → List Entry
committed_of w n = history w.scheme n (committed_part (station w n))

abbrev pub live_of : World → Node → List Entry
live_of w n = history w.scheme n (whole (station w n))

-- the transitions of a registry
abbrev pub at_registry : (Node → List Entry) → Code → List Transition
at_registry f c = transitions_of (f (Registry c))

-- ---- agreement

abbrev pub StandsAt : (Node → List Entry) → Node → TransactionId → Status → Type 0
StandsAt f n t s = stands (transitions_of (f n)) t ≡ Some s

-- no transaction stands Completed at one node and Rejected, Terminated or Cancelled at another
abbrev pub Agrees : (Node → List Entry) → Type 0
Agrees f = (t : TransactionId) (n m : Node) → StandsAt f n t Completed → (StandsAt f m t Rejected ⊎ (StandsAt f m t Terminated ⊎ StandsAt f m t Cancelled)) → ⊥

-- ---- one place

-- the transfer stands Completed at its acquirer
abbrev pub is_received : (Node → List Entry) → TransactionId → Option Content → Bool
is_received f t k = option_map_or (λ content. stands_at (at_registry f content.acquirer) t Completed) k false

-- the transition completes a transfer of the unit at its initiator, and its acquirer has not completed it
abbrev pub owes : (Node → List Entry) → Code → Serial → Transition → Bool
owes f c s x = gives c s x && not (is_received f x.id x.content)

-- how many registries hold the unit, and how many completed transfers owe it
abbrev pub holders : Scheme → (Node → List Entry) → Serial → ℕ
holders scheme f s = count_by (λ m. holds scheme m.code (at_registry f m.code) s) scheme.members

abbrev pub owed : Scheme → (Node → List Entry) → Serial → ℕ
owed scheme f s = sum_by (λ m. count_by (owes f m.code s) (at_registry f m.code)) scheme.members

-- an allotted unit is held once or owed by exactly one completed transfer; no other unit is held or owed
abbrev pub OnePlace : Scheme → (Node → List Entry) → Type 0
OnePlace scheme f = (s : Serial) → holders scheme f s + owed scheme f s ≡ cond (is_some (allotted scheme s)) 1 0

-- no unit is spendable in two registries
abbrev pub SpentOnce : Scheme → (Node → List Entry) → Type 0
SpentOnce scheme f = (s : Serial) (c d : Code) → spendable scheme c (at_registry f c) s ≡ true → spendable scheme d (at_registry f d) s ≡ true → c ≡ d

-- a registry that holds a unit is its owner in the log's book
abbrev pub HolderOwns : Scheme → (Node → List Entry) → Type 0
HolderOwns scheme f = (s : Serial) (c : Code) → holds scheme c (at_registry f c) s ≡ true → book_owner scheme (transitions_of (f Itl)) s ≡ Some c

-- ---- of one registry alone, for all inputs

-- a unit is counted there once or not at all
abbrev pub CountedOnce : Scheme → Code → List Transition → Type 0
CountedOnce scheme c xs =
    (s : Serial) → (count_by (gives c s) xs ≤ at_start scheme c s + count_by (credits c s) xs) × (at_start scheme c s + count_by (credits c s) xs ≤ count_by (gives c s) xs + 1)

-- a transition to Completed is the newest of its transaction, and its only one
abbrev pub CompletedOnce : List Transition → Type 0
CompletedOnce xs = (x : Transition) → Contains xs x → x.new ≡ Completed → (newest xs x.id ≡ Some x) × (count_by (λ y. same_id y.id x.id && same_status y.new Completed) xs ≡ 1)

-- the number that the registry's next proposal takes is no transaction's yet
abbrev pub NextIsNew : Code → List Entry → Type 0
NextIsNew c es = (t : TransactionId) → id_at c (proposals es + 1) ≡ Some t → newest (transitions_of es) t ≡ None

-- ---- of the log alone, for all inputs

abbrev pub IsEnd : Status → Type 0
IsEnd Rejected = Unit {0}
IsEnd Terminated = Unit {0}
IsEnd Cancelled = Unit {0}
IsEnd Completed = Unit {0}
IsEnd _ = ⊥

abbrev pub IsUnderWay : Status → Type 0
IsUnderWay s = (s ≡ Checked) ⊎ (s ≡ Accepted)

-- a status Completed, Rejected, Terminated or Cancelled never changes
abbrev pub EndsStay : Scheme → Type 0
EndsStay scheme =
    (journal more : List Input) (t : TransactionId) (s : Status) → IsEnd s → stands (transitions_of (history scheme Itl journal)) t ≡ Some s
    → stands (transitions_of (history scheme Itl (journal ++ more))) t ≡ Some s

-- two transfers that stand Checked or Accepted share no unit
abbrev pub UnderWayApart : Scheme → Type 0
UnderWayApart scheme =
    (journal : List Input) (s : Serial) (t u : TransactionId) (x y : Transition) → newest (transitions_of (history scheme Itl journal)) t ≡ Some x
    → newest (transitions_of (history scheme Itl journal)) u ≡ Some y → IsUnderWay x.new → IsUnderWay y.new → carries x s ≡ true → carries y s ≡ true → t ≡ u

-- a recorded Completed finds each unit of its transfer with the initiator
abbrev pub OwnedByInitiator : Scheme → Type 0
OwnedByInitiator scheme =
    (journal : List Input) (input : Input) (xs : List Transition) → verdict scheme Itl (history scheme Itl journal) input ≡ IsRecorded xs → (x : Transition) → Contains xs x → x.new ≡ Completed
    → (s : Serial) → carries x s ≡ true → book_owner scheme (transitions_of (history scheme Itl journal)) s ≡ Some x.id.code

-- ---- of deliveries

-- no delivery is refused except where the journal is full
abbrev pub DeliversWelcome : World → Type 0
DeliversWelcome w = (index : ℕ) (moment : Moment) (code : ℕ) → (step w (Deliver index moment)).outcome ≡ Refused code → code ≡ journal_full

-- where the log tells a registry Terminated, the codes are those of eligibility
abbrev pub TerminatesForEligibility : (Node → List Entry) → Type 0
TerminatesForEligibility f =
    (m : Message) (found : List ℕ) (code : ℕ) → Contains (sends (f Itl)) m → m.body ≡ body.Notification (notified.Terminated found) → Contains found code → (code ≡ initiator_not_eligible) ⊎ (code ≡ acquirer_not_eligible)
