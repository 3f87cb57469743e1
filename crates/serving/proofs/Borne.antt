-- The committed records bear out the notes of each seat of a settled node.
use Rattle.std.proofs.Common.{◌≡◌, ◌∙◌, ◌<◌, ◌≤◌, ℕ, zero, suc, List, [], ◌∷◌, ◌++◌, length, take, Some, ap, subst, refl, arith, length-append}
use Rattle.std.proofs.lemmas.List.{take-append-le}
use Rattle.std.specs.Prelude.{All, Contains, slice_get}
use Rattle.units.specs.declared.code.Node.{Node}
use Rattle.protocol.specs.Input.{Input}
use Rattle.protocol.specs.Scheme.{Scheme}
use Rattle.protocol.specs.declared.node_core.Stepped.TheVariants.{Recorded, Repeat, Late}
use Rattle.protocol.proofs.Replaying.{slice_get_append_left}
use Rattle.settling.specs.Covering.{Fits}
use Rattle.node_state.specs.Expected.{expected}
use Rattle.settling.specs.Settling.{Bears, IsSettled}
use Rattle.node_state.specs.Views.{StateView, SeatView, committed_records}
use Rattle.node_state.specs.declared.notes.Asked.{Asked}
use Rattle.node_state.specs.declared.notes.Asked.TheVariants.{Take, Query}
use Rattle.node_state.specs.declared.notes.Note.{Note}
use Rattle.node_state.specs.declared.notes.Ticket.{Ticket}
use Rattle.node_state.specs.declared.notes.Told.{Told}
use Rattle.node_state.specs.declared.notes.Told.TheVariants.{Step, Status, Refused}
use Rattle.serving.specs.Answers.{IsBorne, IsExpectedWithin}
use Rattle.serving.specs.Heard.{HasHeard, HasNoted}

-- ---- fronts of lists

pub get_in_front : {X : Type 0} (c : ℕ) (xs : List X) (k : ℕ) (x : X) → k < c → slice_get xs k ≡ Some x → slice_get (take c xs) k ≡ Some x
get_in_front zero xs k x low is = absurd (omega arith)
get_in_front (suc c) [] k x low is = is
get_in_front (suc c) (y ∷ xs) zero x low is = is
get_in_front (suc c) (y ∷ xs) (suc k) x low is = get_in_front c xs k x (omega arith) is

pub front_of_front : {X : Type 0} (c n : ℕ) (xs : List X) → n ≤ c → take n (take c xs) ≡ take n xs
front_of_front c zero xs low = refl
front_of_front zero (suc n) xs low = absurd (omega arith)
front_of_front (suc c) (suc n) [] low = refl
front_of_front (suc c) (suc n) (x ∷ xs) low = ap (λ (l : List _). x ∷ l) (front_of_front c n xs (omega arith))

front_long : {X : Type 0} (c n : ℕ) (xs : List X) → n ≤ c → n ≤ length xs → n ≤ length (take c xs)
front_long zero n xs low most = omega arith
front_long (suc c) n [] low most = most
front_long (suc c) zero (x ∷ xs) low most = omega arith
front_long (suc c) (suc n) (x ∷ xs) low most = let rest = front_long c n xs (omega arith) (omega arith) in omega arith

pub all_of : {X : Type 0} (P : X → Type 0) (xs : List X) (x : X) → All P xs → Contains xs x → P x
all_of P xs x all is = subst P is.2 (all is.0 x is.1)

-- ---- one node

module _ (scheme : Scheme) (n : Node) (held : StateView) (heard : List SeatView) (seat : SeatView) where
  within : IsSettled scheme n held heard → Contains heard seat → seat.confirmed ≤ held.committed
  within settled is = all_of (λ (s : SeatView). s.confirmed ≤ held.committed) heard seat settled.within is

  noted : IsSettled scheme n held heard → Contains heard seat → (asked : Asked) (told : Told) → HasNoted seat asked told → IsExpectedWithin scheme n (committed_records held) asked told
  noted settled is asked told h =
      let note : Note = record { asked = asked; told = told; length = h.0 } in
      let all : All (Bears scheme n held.journal) seat.notes = all_of (λ (s : SeatView). All (Bears scheme n held.journal) s.notes) heard seat settled.borne is in
      let bears : Bears scheme n held.journal note = all_of (Bears scheme n held.journal) seat.notes note all h.1 in
      let low : h.0 ≤ held.committed = omega (arith, h.2, within settled is) in
      let front : take h.0 (committed_records held) ≡ take h.0 held.journal = front_of_front held.committed h.0 held.journal low in
      (h.0, (front_long held.committed h.0 held.journal low bears.0, ap (λ (j : List Input). expected scheme n j asked) front ∙ bears.1))

  recorded : IsSettled scheme n held heard → Contains heard seat → (place : ℕ) (input : Input) → Contains seat.tickets (record { place = place; input = input }) → place < seat.confirmed
      → slice_get (committed_records held) place ≡ Some input
  recorded settled is place input ticket below =
      let t : Ticket = record { place = place; input = input } in
      let all : All (Fits held) seat.tickets = all_of (λ (s : SeatView). All (Fits held) s.tickets) heard seat settled.covers.fits is in
      let fits : Fits held t = all_of (Fits held) seat.tickets t all ticket in
      get_in_front held.committed held.journal place input (omega (arith, below, within settled is)) fits.1

  pub borne : IsSettled scheme n held heard → Contains heard seat → (asked : Asked) (told : Told) → HasHeard seat asked told → IsBorne scheme n (committed_records held) asked told
  borne settled is (Take input) (Step (Recorded place)) h = recorded settled is place input h.0 h.1
  borne settled is (Query id) (Step (Recorded place)) h = absurd h
  borne settled is asked (Step Repeat) h = noted settled is asked (Step Repeat) h
  borne settled is asked (Step Late) h = noted settled is asked (Step Late) h
  borne settled is asked (Status status) h = noted settled is asked (Status status) h
  borne settled is asked (Refused refusal) h = λ judged. noted settled is asked (Refused refusal) (h judged)

-- ---- a journal that goes on

expected_more : (scheme : Scheme) (n : Node) (journal more : List Input) (asked : Asked) (told : Told) → IsExpectedWithin scheme n journal asked told → IsExpectedWithin scheme n (journal ++ more) asked told
expected_more scheme n journal more asked told h =
    (h.0, (omega (arith, h.1.0, length-append journal more), ap (λ (j : List Input). expected scheme n j asked) (take-append-le h.0 journal more h.1.0) ∙ h.1.1))

-- a journal that goes on still bears out all that it bore out before
pub borne_more : (scheme : Scheme) (n : Node) (journal more : List Input) (asked : Asked) (told : Told) → IsBorne scheme n journal asked told → IsBorne scheme n (journal ++ more) asked told
borne_more scheme n journal more (Take input) (Step (Recorded place)) h = slice_get_append_left journal more place input h
borne_more scheme n journal more (Query id) (Step (Recorded place)) h = absurd h
borne_more scheme n journal more asked (Step Repeat) h = expected_more scheme n journal more asked (Step Repeat) h
borne_more scheme n journal more asked (Step Late) h = expected_more scheme n journal more asked (Step Late) h
borne_more scheme n journal more asked (Status status) h = expected_more scheme n journal more asked (Status status) h
borne_more scheme n journal more asked (Refused refusal) h = λ judged. expected_more scheme n journal more asked (Refused refusal) (h judged)
