-- When the tickets of all seats are exactly the records since the opening.
use Rattle.std.specs.Prelude.{◌≡◌, ℕ, ◌<◌, ◌≤◌, ◌==◌, List, length, slice_get, All, Any, sum_by, count_by, Some}
use Rattle.node_state.specs.declared.notes.Ticket.{Ticket}
use Rattle.node_state.specs.Views.{StateView, SeatView}

-- a place of the journal since the opening
abbrev pub IsPlace : StateView → ℕ → Type 0
IsPlace held place = (held.opening ≤ place) × (place < length held.journal)

-- how many tickets name a place
abbrev pub times_named : List SeatView → ℕ → ℕ
times_named seats place = sum_by (λ (s : SeatView). count_by (λ (t : Ticket). t.place == place) s.tickets) seats

abbrev pub IsMissing : StateView → List SeatView → ℕ → Type 0
IsMissing held seats place = IsPlace held place × (times_named seats place ≡ 0)

abbrev pub NoneMissing : StateView → List SeatView → Type 0
NoneMissing held seats = (place : ℕ) → IsPlace held place → 0 < times_named seats place

abbrev pub IsTwice : StateView → List SeatView → ℕ → Type 0
IsTwice held seats place = IsPlace held place × (1 < times_named seats place)

abbrev pub NoneTwice : StateView → List SeatView → Type 0
NoneTwice held seats = (place : ℕ) → IsPlace held place → times_named seats place ≤ 1

-- the ticket names a place since the opening, and has the input there
abbrev pub Fits : StateView → Ticket → Type 0
Fits held ticket = (held.opening ≤ ticket.place) × (slice_get held.journal ticket.place ≡ Some ticket.input)

abbrev pub AllFit : StateView → List SeatView → Type 0
AllFit held seats = All (λ (s : SeatView). All (Fits held) s.tickets) seats

-- a ticket names that place and doesn't fit
abbrev pub SomeDiffers : StateView → List SeatView → ℕ → Type 0
SomeDiffers held seats place = Any (λ (s : SeatView). Any (λ (t : Ticket). (t.place ≡ place) × (Fits held t → ⊥)) s.tickets) seats

-- each place since the opening is named by exactly one ticket, no ticket names any other place, and each ticket has the
-- input at its place
pub record Covers (held : StateView) (seats : List SeatView) : Type 0 where
  pub once : (place : ℕ) → IsPlace held place → times_named seats place ≡ 1
  pub fits : AllFit held seats
