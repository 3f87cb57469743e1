-- A replica of a node's journal, and the faults of records and notes that it is to follow.
use Rattle.std.specs.Prelude.{◌≡◌, ◌⊎◌, ℕ, ◌+◌, ◌-◌, ◌<◌, ◌≤◌, List, ◌++◌, length, take, slice_get, Some, Any}
use Rattle.units.specs.declared.code.Node.{Node}
use Rattle.wire.specs.declared.input.Input.{Input}
use Rattle.scheme.specs.declared.registries.Scheme.{Scheme}
use Rattle.protocol.specs.Cores.{IsFirstNotRecorded}
use Rattle.node_state.specs.declared.notes.Note.{Note}
use Rattle.node_state.specs.Expected.{expected}
use Rattle.node_state.specs.Rooms.{IsNoRecord}
use Rattle.settling.specs.declared.life.Unsettled.{Unsettled}
use Rattle.settling.specs.declared.life.Unsettled.TheVariants.{Fell, Untrue, NotRecorded, NoMemory}
use Rattle.settling.specs.Settling.{Bears}

-- how contracts see a replica
pub record ReplicaView : Type 0 where
  pub scheme : Scheme
  pub node : Node
  pub journal : List Input

-- the note after these was made at a longer journal, if there is one
abbrev pub AwaitsMore : ℕ → List Note → ℕ → Type 0
AwaitsMore len notes judged = (judged ≡ length notes) ⊎ ((note : Note) × (slice_get notes judged ≡ Some note) × (len < note.length))

-- some note of that length isn't borne out by the journal, tells of a record, or was made after fewer than `from` records
abbrev pub SomeUntrue : Scheme → Node → ℕ → List Input → List Note → ℕ → Type 0
SomeUntrue scheme n from journal notes len = Any (λ (note : Note). (note.length ≡ len) × (from ≤ len → IsNoRecord note.told → Bears scheme n journal note → ⊥)) notes

-- a note was made at a shorter journal than the note before it
abbrev pub SomeFell : List Note → Type 0
SomeFell notes = (k : ℕ) × (earlier : Note) × (later : Note) × (slice_get notes k ≡ Some earlier) × (slice_get notes (k + 1) ≡ Some later) × (later.length < earlier.length)

-- the replica can't follow these records and notes: each fault with its cause
abbrev pub FailsToFollow : ReplicaView → List Input → List Note → Unsettled → Type 0
FailsToFollow held records notes (Untrue len) = SomeUntrue held.scheme held.node (length held.journal) (held.journal ++ records) notes len
FailsToFollow held records notes Fell = SomeFell notes
FailsToFollow held records notes (NotRecorded place) = IsFirstNotRecorded held.scheme held.node (held.journal ++ records) place
FailsToFollow held records notes NoMemory = Unit {0}
FailsToFollow held records notes _ = ⊥

-- the replica has gone on by the first of these records
pub record HasFollowed (held : ReplicaView) (records : List Input) (now : ReplicaView) : Type 0 where
  pub scheme : now.scheme ≡ held.scheme
  pub node : now.node ≡ held.node
  pub journal : now.journal ≡ held.journal ++ take (length now.journal - length held.journal) records

-- what a fault leaves; after `Untrue` the replica may have the note's input as a record
abbrev pub Leaves : ReplicaView → List Input → ReplicaView → Unsettled → Type 0
Leaves held records now (Untrue len) = Unit {0}
Leaves held records now fault = HasFollowed held records now

-- ---- what the code follows; no public contract cites what stands below

-- the note isn't the expected one after the replica's records, or tells of a record; or memory ran out
abbrev pub FailsToJudge : ReplicaView → Note → Unsettled → Type 0
FailsToJudge held note (Untrue len) = (note.length ≡ len) × (IsNoRecord note.told → expected held.scheme held.node held.journal note.asked ≡ note.told → ⊥)
FailsToJudge held note NoMemory = Unit {0}
FailsToJudge held note _ = ⊥
