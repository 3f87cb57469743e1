-- A scheme of two registries as a value, and short names for the events that happen under it: NZ has a hundred units in
-- its account 1, and JP has none.
use Rattle.std.specs.List.{count_by}
use Rattle.std.proofs.Common.{◌≡◌, ℕ, ◌+◌, ◌<◌, ◌≤◌, ◌^◌, true, Bool, List, [], ◌∷◌, map, Option, Some, refl, ap, arith, lit≤}
use Rattle.std.specs.Prelude.{slice_get, filter, option_and_then, option_map}
use Rattle.units.specs.Facts.{IsLetter, IsRange}
use Rattle.units.specs.declared.code.Code.{Code}
use Rattle.units.specs.declared.code.Node.{Node}
use Rattle.units.specs.declared.code.Node.TheVariants.{Itl, Registry}
use Rattle.units.specs.declared.block.Block.{Block}
use Rattle.units.specs.declared.block.RawBlock.{RawBlock}
use Rattle.units.specs.declared.block.Unit.{Unit as Serial}
use Rattle.units.specs.declared.block.Period.TheVariants.{First}
use Rattle.units.specs.declared.block.Kind.{Kind}
use Rattle.units.specs.declared.block.Kind.TheVariants.{Aau, Rmu, Eru, Cer, Tcer, Lcer}
use Rattle.status.specs.Content.{Content}
use Rattle.units.specs.Limits.{last_moment}
use Rattle.status.specs.Id.{number_from}
use Rattle.status.specs.declared.id.TransactionId.{TransactionId}
use Rattle.status.specs.declared.moment.Moment.{Moment}
use Rattle.status.specs.declared.status.Status.{Status}
use Rattle.wire.specs.declared.input.Input.TheVariants.{Propose, OpenAccount, CloseAccount, Ack, CleanUp, Eligible}
use Rattle.wire.specs.declared.input.Number.{Number}
use Rattle.wire.specs.declared.message.Body.TheVariants.{Notification}
use Rattle.wire.specs.declared.message.Message.{Message}
use Rattle.wire.specs.declared.notified.NotifiedStatus.{NotifiedStatus}
use Rattle.scheme.specs.declared.members.SchemeRegistry.{SchemeRegistry}
use Rattle.scheme.specs.declared.registries.Scheme.{Scheme}
use Rattle.scheme.proofs.AllKinds.{aau_and_cer, all_kinds}
use Rattle.scheme.specs.Order.{AreFew, AreMembers}
use Rattle.protocol.specs.declared.event.WorldEvent.{WorldEvent}
use Rattle.protocol.specs.declared.event.WorldEvent.TheVariants.{Take, Commit, Post, Deliver, Crash, Restart}
use Rattle.protocol.specs.Claims as claims
use Rattle.protocol.specs.History as past
use Rattle.protocol.specs.History.{Position, transitions_of}
use Rattle.protocol.specs.Pieces.{up_from}
use Rattle.protocol.specs.World.{World, opening, run, station, sent}

-- ---- codes, nodes and units

-- N is 78 and Z is 90, J is 74 and P is 80
pub nz_letters : IsLetter 78 × IsLetter 90
nz_letters = ((lit≤ tt, lit≤ tt), (lit≤ tt, lit≤ tt))

pub jp_letters : IsLetter 74 × IsLetter 80
jp_letters = ((lit≤ tt, lit≤ tt), (lit≤ tt, lit≤ tt))

abbrev pub nz : Code
nz = record { first = 78; second = 90; letters = nz_letters }

abbrev pub jp : Code
jp = record { first = 74; second = 80; letters = jp_letters }

abbrev pub nz_node : Node
nz_node = Registry nz

abbrev pub jp_node : Node
jp_node = Registry jp

-- units of NZ's first period, of any kind or AAU
abbrev pub block_of : Kind → ℕ → ℕ → RawBlock
block_of kind first last = record { origin = nz; period = First; kind = kind; first = first; last = last }

abbrev pub block : ℕ → ℕ → RawBlock
block first last = block_of Aau first last

abbrev pub all_units : List RawBlock
all_units = block 1 100 ∷ []

abbrev pub unit : ℕ → Serial
unit n = record { origin = nz; period = First; number = n }

-- the transactions NZ1 and NZ2
abbrev pub nz1 : TransactionId
nz1 = record { code = nz; number = 1; in_range = number_from 1 refl }

abbrev pub nz2 : TransactionId
nz2 = record { code = nz; number = 2; in_range = number_from 2 refl }

-- ---- the scheme

pub hundred_range : IsRange 1 100
hundred_range = (lit≤ tt, lit≤ tt, lit≤ tt)

abbrev pub hundred : Block
hundred = record { raw = block 1 100; in_range = hundred_range }

abbrev pub jp_member : SchemeRegistry
jp_member = record { code = jp; accounts = 7 ∷ 8 ∷ []; allotted = []; eligible = true; kinds = Aau ∷ Cer ∷ [] }

abbrev pub nz_member : SchemeRegistry
nz_member = record {
  code = nz;
  accounts = 1 ∷ 2 ∷ [];
  allotted = record { account = 1; units = hundred ∷ [] } ∷ [];
  eligible = true;
  kinds = Aau ∷ Rmu ∷ Eru ∷ Cer ∷ Tcer ∷ Lcer ∷ [];
}

abbrev pub members : List SchemeRegistry
members = jp_member ∷ nz_member ∷ []

few : AreFew members
few = record { registries = lit≤ tt; accounts = (lit≤ tt, (lit≤ tt, tt)); blocks = lit≤ tt }

pub codes_differ : jp ≡ nz → ⊥
codes_differ e = let same : ◌≡◌ {A = ℕ} 74 78 = ap (λ (c : Code). c.first) e in omega arith

jp_accounts_differ : ◌≡◌ {A = ℕ} 7 8 → ⊥
jp_accounts_differ e = omega arith

nz_accounts_differ : ◌≡◌ {A = ℕ} 1 2 → ⊥
nz_accounts_differ e = omega arith

-- the codes differ, no account stands twice, each allotment is to an account, and there is one block
pub sound : AreMembers members
sound = record {
  free = (few, (lit≤ tt, (((codes_differ, tt), (tt, tt)), ((((jp_accounts_differ, tt), (tt, tt)), (((nz_accounts_differ, tt), (tt, tt)), tt)), ((tt, ((refl, tt), tt)), ((tt, tt), tt))))));
  numbered = (((lit≤ tt, lit≤ tt), ((lit≤ tt, lit≤ tt), tt)), (((lit≤ tt, lit≤ tt), ((lit≤ tt, lit≤ tt), tt)), tt));
  kinds = (aau_and_cer, (all_kinds, tt));
  ordered = ((refl, tt), (tt, tt));
}

abbrev pub scheme_of : (records : ℕ) → (1 ≤ records) × (records ≤ 1_000_000) → Scheme
scheme_of records some = record { records = records; members = members; in_range = some; sound = sound }

pub thousand : (1 ≤ 1000) × (1000 ≤ 1_000_000)
thousand = (lit≤ tt, lit≤ tt)

pub one : (1 ≤ 1) × (1 ≤ 1_000_000)
one = (lit≤ tt, lit≤ tt)

abbrev pub scheme_s : Scheme
scheme_s = scheme_of 1000 thousand

-- the same with room for one record
abbrev pub scheme_of_one : Scheme
scheme_of_one = scheme_of 1 one

-- ---- moments

abbrev pub at : (seconds : ℕ) → seconds ≤ last_moment → Moment
at seconds in_time = record { seconds = seconds; in_range = in_time }

-- 2012-05-01T00:00:00Z
abbrev pub first_of_may : Moment
first_of_may = at 1_335_830_400 (lit≤ tt)

-- 2012-05-01T23:59:59Z
abbrev pub a_second_before : Moment
a_second_before = at 1_335_916_799 (lit≤ tt)

-- 2012-05-02T00:00:00Z
abbrev pub a_day_after : Moment
a_day_after = at 1_335_916_800 (lit≤ tt)

-- 2012-05-11T00:00:00Z
abbrev pub ten_days_after : Moment
ten_days_after = at 1_336_694_400 (lit≤ tt)

-- ---- events

abbrev pub propose : Code → ℕ → Code → ℕ → List RawBlock → WorldEvent
propose c account to to_account units = Take (Registry c) (Propose (record { account = account; acquirer = to; to_account = to_account; units = units }))

abbrev pub number : (n : ℕ) → n < 10 ^ 18 → Number
number n short = record { value = n; short = short }

abbrev pub open_account : Code → Number → WorldEvent
open_account c account = Take (Registry c) (OpenAccount account)

abbrev pub close_account : Code → Number → WorldEvent
close_account c account = Take (Registry c) (CloseAccount account)

abbrev pub ack : Node → Number → WorldEvent
ack n key = Take n (Ack key)

abbrev pub clean_up : Moment → WorldEvent
clean_up moment = Take Itl (CleanUp moment)

abbrev pub eligible : Code → Bool → WorldEvent
eligible c may = Take Itl (Eligible c may)

abbrev pub commit : Node → ℕ → WorldEvent
commit n count = Commit n count

abbrev pub post : Node → ℕ → WorldEvent
post n key = Post n key

-- each message comes on the first of May
abbrev pub deliver : ℕ → WorldEvent
deliver index = Deliver index first_of_may

abbrev pub crash : Node → ℕ → WorldEvent
crash n kept = Crash n kept

abbrev pub restart : Node → WorldEvent
restart n = Restart n

-- ---- one transfer of all units, from the proposal to the completion

abbrev pub transfer : List WorldEvent
transfer =
    propose nz 1 jp 7 all_units
    ∷ commit nz_node 1
    ∷ post nz_node 0
    ∷ deliver 0
    ∷ commit Itl 1
    ∷ post Itl 0
    ∷ deliver 1
    ∷ commit jp_node 1
    ∷ post jp_node 0
    ∷ deliver 2
    ∷ commit Itl 1
    ∷ post Itl 1
    ∷ deliver 3
    ∷ commit nz_node 1
    ∷ post nz_node 1
    ∷ deliver 4
    ∷ commit Itl 1
    ∷ post Itl 2
    ∷ deliver 5
    ∷ commit jp_node 1
    ∷ []

-- ---- how things stand in a world

abbrev pub after : List WorldEvent → World
after events = run (opening scheme_s) events

abbrev pub status : World → Node → TransactionId → Option Status
status w n t = past.stands (transitions_of (claims.live_of w n)) t

abbrev pub holds : World → Code → ℕ → Bool
holds w c n = past.holds w.scheme c (transitions_of (claims.live_of w (Registry c))) (unit n)

abbrev pub spendable : World → Code → ℕ → Bool
spendable w c n = past.spendable w.scheme c (transitions_of (claims.live_of w (Registry c))) (unit n)

abbrev pub reserved : World → Code → ℕ → Bool
reserved w c n = past.reserved c (transitions_of (claims.live_of w (Registry c))) (unit n)

abbrev pub position : World → Code → ℕ → Option Position
position w c n = past.position w.scheme c (transitions_of (claims.live_of w (Registry c))) (unit n)

abbrev pub in_account : ℕ → Option Position
in_account account = Some (record { account = account; kind = Aau })

abbrev pub owed : World → ℕ → ℕ
owed w n = claims.owed w.scheme (claims.live_of w) (unit n)

-- the message of a node with that key
abbrev pub message_at : World → Node → ℕ → Option Message
message_at w n key = option_and_then (sent w.scheme key) (station w n)

abbrev pub notification : Node → Node → TransactionId → NotifiedStatus → Message
notification from to t notified = record { from = from; to = to; id = t; body = Notification notified }

-- the message with that number in the bag
abbrev pub posted : World → ℕ → Option Message
posted w index = option_map (λ p. p.message) (slice_get w.bag index)

-- what the node knows of the transaction's content
abbrev pub content_of : World → Node → TransactionId → Option Content
content_of w n t = option_and_then (λ x. x.content) (past.newest (transitions_of (claims.live_of w n)) t)

-- ---- sums over the units from 1 to 101, one more than are allotted

abbrev numbers : List ℕ
numbers = up_from 1 101

abbrev pub held_units : World → Code → ℕ
held_units w c = count_by (holds w c) numbers

abbrev pub spendable_units : World → Code → ℕ
spendable_units w c = count_by (spendable w c) numbers

abbrev pub owed_units : World → ℕ
owed_units w = in_all numbers
  where
    in_all : List ℕ → ℕ
    in_all [] = 0
    in_all (n ∷ ns) = owed w n + in_all ns

-- the transactions of a registry that owe the unit
abbrev pub debts : World → Code → ℕ → List TransactionId
debts w c n = map (λ x. x.id) (filter (claims.owes (claims.live_of w) c (unit n)) (transitions_of (claims.live_of w (Registry c))))
