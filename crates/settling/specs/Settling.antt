-- Whether the notes of the seats are those that a single thread would have along the journal.
use Rattle.std.specs.Prelude.{◌≡◌, ℕ, ◌<◌, ◌≤◌, List, length, take, All, Any, Result, Ok, Err}
use Rattle.units.specs.declared.code.Node.{Node}
use Rattle.wire.specs.declared.input.Input.{Input}
use Rattle.scheme.specs.declared.registries.Scheme.{Scheme}
use Rattle.protocol.specs.Cores.{IsFirstNotRecorded}
use Rattle.settling.specs.declared.life.Life.{Life}
use Rattle.settling.specs.declared.life.Settled.{Settled}
use Rattle.settling.specs.declared.life.Unsettled.{Unsettled}
use Rattle.settling.specs.declared.life.Unsettled.TheVariants.{Missing, Twice, Differs, NotCommitted, Fell, Untrue, NotRecorded, NoMemory}
use Rattle.node_state.specs.declared.notes.Lengths.TheVariants as lengths
use Rattle.node_state.specs.declared.notes.Note.{Note}
use Rattle.settling.specs.Covering.{Covers, IsMissing, IsTwice, NoneMissing, NoneTwice, SomeDiffers}
use Rattle.node_state.specs.Expected.{expected}
use Rattle.node_state.specs.Views.{StateView, SeatView}

-- the journal bears a note out: after as many of its first records as the note's length says, the expected result is
-- the note's
abbrev pub Bears : Scheme → Node → List Input → Note → Type 0
Bears scheme n journal note = (note.length ≤ length journal) × (expected scheme n (take note.length journal) note.asked ≡ note.told)

abbrev pub AllBorne : Scheme → Node → List Input → SeatView → Type 0
AllBorne scheme n journal seat = All (Bears scheme n journal) seat.notes

-- a note of that length that the journal doesn't bear out
abbrev pub SomeUnborne : Scheme → Node → List Input → ℕ → SeatView → Type 0
SomeUnborne scheme n journal len seat = Any (λ (note : Note). (note.length ≡ len) × (Bears scheme n journal note → ⊥)) seat.notes

-- all that was confirmed to the seat is committed
abbrev pub IsWithin : ℕ → SeatView → Type 0
IsWithin committed seat = seat.confirmed ≤ committed

abbrev pub IsBeyond : ℕ → ℕ → SeatView → Type 0
IsBeyond committed len seat = (seat.confirmed ≡ len) × (committed < len)

-- the lengths that the seat noted never fell
abbrev pub Stood : SeatView → Type 0
Stood seat = seat.lengths ≡ lengths.Grew

-- the notes of the seats are those that the node alone would have made under that scheme
pub record IsSettled (scheme : Scheme) (n : Node) (held : StateView) (seats : List SeatView) : Type 0 where
  pub covers : Covers held seats
  pub within : All (IsWithin held.committed) seats
  pub stood : All Stood seats
  pub borne : All (AllBorne scheme n held.journal) seats

-- the tickets aren't the records since the opening: each fault with its cause, if no earlier fault has one
abbrev pub IsUncovered : StateView → List SeatView → Unsettled → Type 0
IsUncovered held seats (Missing place) = IsMissing held seats place
IsUncovered held seats (Twice place) = NoneMissing held seats × IsTwice held seats place
IsUncovered held seats (Differs place) = NoneMissing held seats × NoneTwice held seats × SomeDiffers held seats place
IsUncovered held seats NoMemory = Unit {0}
IsUncovered held seats _ = ⊥

abbrev pub IsFaultOf : Scheme → Node → StateView → List SeatView → Unsettled → Type 0
IsFaultOf scheme n held seats (NotCommitted len) = Covers held seats × Any (IsBeyond held.committed len) seats
IsFaultOf scheme n held seats Fell = Covers held seats × All (IsWithin held.committed) seats × Any (λ (s : SeatView). s.lengths ≡ lengths.Fell) seats
IsFaultOf scheme n held seats (Untrue len) = Covers held seats × All (IsWithin held.committed) seats × All Stood seats × Any (SomeUnborne scheme n held.journal len) seats
IsFaultOf scheme n held seats (NotRecorded place) = Covers held seats × All (IsWithin held.committed) seats × All Stood seats × IsFirstNotRecorded scheme n held.journal place
IsFaultOf scheme n held seats fault = IsUncovered held seats fault

abbrev pub Settles : Scheme → Node → StateView → List SeatView → Result Life Unsettled → Type 0
Settles scheme n held seats (Ok life) = IsSettled scheme n held seats × (life ≡ record { opening = held.opening; records = length held.journal; committed = held.committed })
Settles scheme n held seats (Err fault) = IsFaultOf scheme n held seats fault

-- the result of settling, without the core that is returned
abbrev pub life_of : {C : Type 0} → Result (Settled C) Unsettled → Result Life Unsettled
life_of (Ok settled) = Ok settled.life
life_of (Err fault) = Err fault
