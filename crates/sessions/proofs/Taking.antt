-- The records of a seat once it took a message or an acknowledgement.
use Rattle.std.proofs.Common.{◌≡◌, ℕ, false, All, List, [], Option, Vec, Global, Result, sym, subst, refl}
use Rattle.std.proofs.lemmas.List.Elements.{All-nil, All-push, All-weaker}
use Rattle.units.specs.declared.code.Node.{Node}
use Rattle.units.specs.declared.memory.NoMemory.{NoMemory}
use Rattle.protocol.specs.Moment.{Moment}
use Rattle.wire.specs.declared.input.Input.{Input}
use Rattle.wire.specs.declared.input.Input.TheVariants.{Propose, Request, OpenAccount, CloseAccount, Ack, CleanUp, Eligible, Received}
use Rattle.wire.specs.declared.message.Message.{Message}
use Rattle.protocol.specs.declared.node_core.Stepped.TheVariants.{Recorded, Repeat, Late}
use Rattle.node_state.specs.Telling.{kept, tickets_after}
use Rattle.node_state.specs.Views.{SeatView}
use Rattle.node_state.specs.declared.notes.Asked.{Asked}
use Rattle.node_state.specs.declared.notes.Asked.TheVariants.{Take}
use Rattle.node_state.specs.declared.notes.Note.{Note}
use Rattle.node_state.specs.declared.notes.Ticket.{Ticket}
use Rattle.node_state.specs.declared.notes.Told.{Told}
use Rattle.node_state.specs.declared.notes.Told.TheVariants.{Step, Status, Refused}
use Rattle.replies.specs.Beginning.{Begins}
use Rattle.replies.specs.declared.pending.Begun.{Begun}
use Rattle.sessions.specs.Orders.{AreAll, HasNoOrder, HasOnly, was_ordered}
use Rattle.sessions.specs.Sending.{Acknowledges, Sends}
use Rattle.sessions.specs.Threads.{AreOfThread, IsDelivered, IsOfThread}
use Rattle.sessions.specs.declared.sending.Sent.{Sent}
use Rattle.sessions.specs.declared.sending.Sent.TheVariants as sent

-- records that all are of one sort, and one more of that sort
module _ (P : Input → Type 0) where
  abbrev AreSuch : List Ticket → Type 0
  AreSuch tickets = All (λ (t : Ticket). P t.input) tickets

  such_after : (tickets : List Ticket) (told : Told) (input : Input) → P input → AreSuch tickets → AreSuch (tickets_after tickets told (Take input))
  such_after tickets (Step (Recorded place)) input is all = All-push (λ (t : Ticket). P t.input) tickets (record { place = place; input = input }) all is
  such_after tickets (Step Repeat) input is all = all
  such_after tickets (Step Late) input is all = all
  such_after tickets (Status status) input is all = all
  such_after tickets (Refused refusal) input is all = all

  such_kept : (seat : SeatView) (note : Note) (input : Input) → note.asked ≡ Take input → P input → AreSuch seat.tickets → AreSuch (kept seat note).tickets
  such_kept seat note input asked is all =
      subst (λ (a : Asked). AreSuch (tickets_after seat.tickets note.told a)) (sym asked) (such_after seat.tickets note.told input is all)

module _ (to_send : Node → ℕ → Option (ℕ × Message) → Type 0) (got : Node → Message → Type 0) (tells : Moment → Type 0) where
  abbrev Is : Input → Type 0
  Is = IsOfThread to_send got tells

  abbrev Are : SeatView → Type 0
  Are = AreOfThread to_send got tells

  -- the outcome for a message
  pub after_begun : (old new : SeatView) (m : Message) (begun : Begun) → Begins tells old new m begun → Are old → Are new
  after_begun old new m begun b all = subst Are (sym b.seat) (such_kept Is old b.note (Received m b.moment) b.asked b.time all)

  -- a seat with the same records
  pub same_records : (old new : SeatView) → new.tickets ≡ old.tickets → Are old → Are new
  same_records old new same all = subst (λ (ts : List Ticket). All (λ (t : Ticket). Is t.input) ts) (sym same) all

  acknowledged : (old new : SeatView) (key : ℕ) → IsDelivered to_send got key → Acknowledges old new key → Are old → Are new
  acknowledged old new key is a all =
      subst Are (sym a.seat) (such_kept Is old a.note (Ack a.number) a.asked (subst (IsDelivered to_send got) (sym a.value) is) all)

  -- the outcome for a message to send
  pub after_sending : (peer : Node) (from : ℕ) (old new : SeatView) (became : Sent) → Sends to_send got peer from old new became → Are old → Are new
  after_sending peer from old new sent.Nothing s all = subst Are (sym s.1) all
  after_sending peer from old new (sent.Received key) s all =
      acknowledged old new key (record { peer = peer; from = from; message = s.0.0; sent = s.0.1; replied = s.0.2 }) s.1 all
  after_sending peer from old new (sent.NotReceived key) s all = subst Are (sym s.1) all
  after_sending peer from old new (sent.Unreachable key) s all = subst Are (sym s.1) all
  after_sending peer from old new (sent.Left key) s all = subst Are (sym s.1) all
  after_sending peer from old new sent.NoMemory s all = subst Are (sym s) all

  -- seats without notes
  pub none_yet : (seats : List SeatView) → All (λ (s : SeatView). (s.tickets ≡ []) × (s.notes ≡ [])) seats → All Are seats
  none_yet seats none =
      All-weaker (λ (s : SeatView). (s.tickets ≡ []) × (s.notes ≡ [])) Are
      (λ s is. subst (All (λ (t : Ticket). Is t.input)) (sym is.0) (All-nil (λ (t : Ticket). Is t.input))) seats none

  -- such records were not ordered
  pub not_ordered : (input : Input) → Is input → was_ordered input ≡ false
  not_ordered (Propose o) is = absurd is
  not_ordered (Request t) is = absurd is
  not_ordered (OpenAccount account) is = absurd is
  not_ordered (CloseAccount account) is = absurd is
  not_ordered (CleanUp moment) is = absurd is
  not_ordered (Eligible c may) is = absurd is
  not_ordered (Ack number) is = refl
  not_ordered (Received m moment) is = refl

  pub no_order : (seat : SeatView) → Are seat → HasNoOrder seat
  no_order seat all = All-weaker (λ (t : Ticket). Is t.input) (λ (t : Ticket). was_ordered t.input ≡ false) (λ t is. not_ordered t.input is) seat.tickets all

  -- and none of the seats has an order
  pub no_orders : (seats : List SeatView) → All Are seats → All HasNoOrder seats
  no_orders seats all = All-weaker Are HasNoOrder no_order seats all

  -- the inputs that the threads of all nodes took, under another name
  pub taken_so : (IsSuch : Input → Type 0) → ((input : Input) → Is input → IsSuch input) → (ends : List (Result (Vec SeatView Global) NoMemory)) → AreAll Are ends → AreAll (HasOnly IsSuch) ends
  taken_so IsSuch so ends all k seats at =
      All-weaker Are (HasOnly IsSuch) (λ s only. All-weaker (λ (t : Ticket). Is t.input) (λ (t : Ticket). IsSuch t.input) (λ t. so t.input) s.tickets only) seats.items (all k seats at)
