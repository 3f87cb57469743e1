-- The tables of an outbox, and the effects of its records by them.
use Rattle.std.specs.Prelude.{◌≡◌, ℕ, ◌-◌, ◌<◌, ◌≤◌, List, [], ◌∷◌, length, take, drop, Option, Some, None}
use Rattle.std.specs.BTreeSet.{BTreeSet, contains}
use Rattle.records.specs.Unacknowledged.{awaits}
use Rattle.wire.specs.declared.message.Message.{Message}
use Rattle.records.specs.Awaiting.{peer_of, unacknowledged_cmp}
use Rattle.records.specs.Sending.{Sent, Sends, Acknowledges, is_key_acknowledged}
use Rattle.records.specs.declared.unacknowledged.Unacknowledged.{Unacknowledged}
use Rattle.records.specs.declared.record.Record.{Record}

abbrev pub act : Option ℕ → List Message → Sent
act None ms = Sends ms
act (Some key) ms = Acknowledges key

-- the effects of the records on these messages, with the given number of messages sent before
abbrev pub sent_in : ℕ → List Record → List Message → List Sent
sent_in before [] ms = []
sent_in before (r ∷ rs) ms = act r.acknowledges (take (r.sends - before) ms) ∷ sent_in r.sends rs (drop (r.sends - before) ms)

-- ---- what the code follows; no public contract cites what stands below

-- an acknowledgement sends nothing, and its message was sent before
abbrev pub IsSentBefore : Option ℕ → ℕ → ℕ → Type 0
IsSentBefore None before sends = Unit {0}
IsSentBefore (Some key) before sends = (sends ≡ before) × (key < before)

-- the records count the messages, and acknowledge messages that were sent
abbrev pub AreCounts : ℕ → List Record → ℕ → Type 0
AreCounts before [] all = before ≡ all
AreCounts before (r ∷ rs) all = (before ≤ r.sends) × IsSentBefore r.acknowledges before r.sends × AreCounts r.sends rs all

-- the tables fit together
pub record IsKept (sent : List Sent) (records : List Record) (ms : List Message) (unacknowledged : BTreeSet Unacknowledged) : Type 0 where
  pub counted : AreCounts 0 records (length ms)
  pub awaited : (q : Unacknowledged) → contains unacknowledged_cmp unacknowledged q ≡ awaits ms (is_key_acknowledged sent) (peer_of q.registry) q.key
