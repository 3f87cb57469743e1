-- A world that is stuck short of some journals shows that no events lead to them, and that none lead further. If some
-- events did, then one record would be next after what the world has committed (`always_next`, `greedy_to`). The world
-- is quiet, and all that was sent is in its bag, so one event makes the node record it. A stuck world has no such event.
use Rattle.std.proofs.Common.{◌≡◌, ℕ, ◌<◌, List, true, inl, inr, refl, sym, ap, subst, ◌∙◌, length}
use Rattle.std.specs.Prelude.{◌&&◌, ◌==◌}
use Rattle.std.proofs.lemmas.Bool.{cond-true, and_from, eq-eqb}
use Rattle.units.proofs.Same.{same_node-refl}
use Rattle.units.specs.Code.{same_node}
use Rattle.units.specs.declared.code.Node.{Node}
use Rattle.units.specs.declared.code.Node.TheVariants.{Itl, Registry}
use Rattle.wire.specs.declared.input.Input.{Input}
use Rattle.wire.specs.declared.input.Input.TheVariants.{Propose, Request, OpenAccount, CloseAccount, Ack, CleanUp, Eligible, Received}
use Rattle.protocol.specs.Claims.{committed_part, committed_of}
use Rattle.protocol.specs.Deciding.{IsRecorded}
use Rattle.protocol.specs.History.{Transition, sends}
use Rattle.protocol.specs.Registries.{is_node}
use Rattle.protocol.specs.Verdict.{verdict, history}
use Rattle.protocol.specs.Weave.{WasSent, IsQuiet, IsStuck, Gives, HasNext, StuckIsFinal, StuckIsFurthest, committed_by, journals_of}
use Rattle.protocol.specs.World.{World, Turn, Stepped, station, stays, take_input, at_node, is_order, was_posted, deliver, step}
use Rattle.protocol.specs.declared.event.Outcome.TheVariants.{Recorded, NotPossible}
use Rattle.protocol.specs.declared.event.Posted.{Posted}
use Rattle.protocol.specs.declared.event.WorldEvent.{WorldEvent}
use Rattle.protocol.specs.declared.event.WorldEvent.TheVariants.{Take, Deliver}
use Rattle.units.proofs.Lists.SomePass.{list_any_in}
use Rattle.safety.proofs.JournalWeaves.EventsFromOrders.{ack_below}
use Rattle.safety.proofs.JournalWeaves.OrdersFromEvents.{always_next, ordered_run}
use Rattle.safety.proofs.JournalWeaves.RecordOrders.{greedy_to, prefixes_alike}
use Rattle.units.proofs.Lists.Positions.{In_contains, index_of, some_at}
use Rattle.safety.proofs.WorldLemmas.QuietWorlds.{takes}
use Rattle.safety.proofs.WorldLemmas.StationsAfterPut.{found_at_node}

module _ (w : World) (all : IsQuiet w) where
  -- one event makes the node record the input
  abbrev GetsRecorded : Node → Input → Type 0
  GetsRecorded n input = (e : WorldEvent) × Gives w e n input × ((place : ℕ) × ((step w e).outcome ≡ Recorded place))

  node_records : (n : Node) (input : Input) (xs : List Transition) → is_node w.scheme n ≡ true → verdict w.scheme n (committed_of w n) input ≡ IsRecorded xs
      → (place : ℕ) × ((at_node w (station w n) (take_input w.scheme input)).outcome ≡ Recorded place)
  node_records n input xs node says =
      let idle = all.idle n node in
      let here = subst (λ o. verdict w.scheme n (history w.scheme n (committed_part o)) input ≡ IsRecorded xs) idle.is says in (
        _,
        ap (λ o. (at_node w o (take_input w.scheme input)).outcome) idle.is
            ∙ ap (λ (turn : Turn). turn.outcome) (takes w.scheme n idle.at input xs (found_at_node n w.stations idle.at idle.is) idle.runs idle.settled here),
      )

  take_recorded : (n : Node) (input : Input) (xs : List Transition) → is_node w.scheme n ≡ true → is_order w n input ≡ true → verdict w.scheme n (committed_of w n) input ≡ IsRecorded xs → GetsRecorded n input
  unfolding step
  take_recorded n input xs node order says =
      let r = node_records n input xs node says in (
        Take n input,
        (refl, refl),
        (r.0, ap (λ (z : Stepped). z.outcome) (cond-true (is_order w n input) (at_node w (station w n) (take_input w.scheme input)) (stays w NotPossible) order) ∙ r.1),
      )

  -- each key that was sent is in the bag
  posted_key : (n : Node) (key : ℕ) → key < length (sends (committed_of w n)) → was_posted w n key ≡ true
  posted_key n key below =
      let m = some_at (sends (committed_of w n)) key below in
      let p : Posted = record { node = n; key = key; message = m.0 } in
      list_any_in (λ (q : Posted). same_node q.node n && (q.key == key)) w.bag p (In_contains w.bag p (all.posted n key m.0 m.1))
      (and_from (same_node n n) (key == key) (same_node-refl n) (eq-eqb key key refl))

  next_recorded : (n : Node) (input : Input) (xs : List Transition) → is_node w.scheme n ≡ true → verdict w.scheme n (committed_of w n) input ≡ IsRecorded xs
      → WasSent w.scheme (λ m. committed_part (station w m)) n input → GetsRecorded n input
  unfolding step verdict
  next_recorded n (Received m moment) xs node says sent =
      let key = index_of (sends (committed_of w m.from)) m (In_contains (sends (committed_of w m.from)) m sent.1) in
      let p : Posted = record { node = m.from; key = key.0; message = m } in
      let index = index_of w.bag p (In_contains w.bag p (all.posted m.from key.0 m key.1)) in
      let r = node_records n (Received m moment) xs node says in (
        Deliver index.0 moment,
        (p, index.1, sent.0, refl),
        (
          r.0,
          ap (λ o. (deliver w moment o).outcome) index.1
              ∙ ap (λ z. (at_node w (station w z) (take_input w.scheme (Received m moment))).outcome) sent.0 ∙ r.1,
        ),
      )
  next_recorded (Registry c) (Ack key) xs node says sent = take_recorded (Registry c) (Ack key) xs node (posted_key (Registry c) key.value (ack_below w.scheme (committed_of w (Registry c)) key.value xs says)) says
  next_recorded Itl (Ack key) xs node says sent = take_recorded Itl (Ack key) xs node (posted_key Itl key.value (ack_below w.scheme (committed_of w Itl) key.value xs says)) says
  next_recorded (Registry c) (Propose o) xs node says sent = take_recorded (Registry c) (Propose o) xs node refl says
  next_recorded (Registry c) (Request t) xs node says sent = take_recorded (Registry c) (Request t) xs node refl says
  next_recorded (Registry c) (OpenAccount account) xs node says sent = take_recorded (Registry c) (OpenAccount account) xs node refl says
  next_recorded (Registry c) (CloseAccount account) xs node says sent = take_recorded (Registry c) (CloseAccount account) xs node refl says
  next_recorded (Registry c) (CleanUp moment) xs node says sent = absurd (cc (says))
  next_recorded (Registry c) (Eligible d may) xs node says sent = absurd (cc (says))
  next_recorded Itl (CleanUp moment) xs node says sent = take_recorded Itl (CleanUp moment) xs node refl says
  next_recorded Itl (Eligible d may) xs node says sent = take_recorded Itl (Eligible d may) xs node refl says
  next_recorded Itl (Propose o) xs node says sent = absurd (cc (says))
  next_recorded Itl (Request t) xs node says sent = absurd (cc (says))
  next_recorded Itl (OpenAccount account) xs node says sent = absurd (cc (says))
  next_recorded Itl (CloseAccount account) xs node says sent = absurd (cc (says))

-- a stuck world has no record that is next
pub none_next : (w : World) (journals : Node → List Input) → IsQuiet w → IsStuck w journals → HasNext w.scheme (λ n. committed_part (station w n)) journals → ⊥
none_next w journals all stuck next =
    let r = next.0 in
    let g = next_recorded w all r.node r.input next.1.1.0 next.1.0 next.1.1.1 next.1.2 in
    stuck r.node r.input next.2.0 g.0 g.2.0 next.2.1 g.1 g.2.1

pub stuck_is_final : (w : World) (journals : Node → List Input) → StuckIsFinal w journals
stuck_is_final w journals all on stuck others h =
    elim (always_next w.scheme others journals (λ n. committed_part (station w n)) h on) [
      | inl same ↦ same
      | inr next ↦ absurd (none_next w journals all stuck next)
    ]

pub stuck_is_furthest : (w : World) (journals : Node → List Input) → StuckIsFurthest w journals
stuck_is_furthest w journals all on stuck others inside =
    let o = ordered_run w.scheme others in
    elim (greedy_to w.scheme (λ n. committed_part (station w n)) journals on o.0 o.1 (prefixes_alike (journals_of o.0) (committed_by w.scheme others) journals o.2 inside)) [
      | inl covers ↦ prefixes_alike (committed_by w.scheme others) (journals_of o.0) (λ n. committed_part (station w n)) (λ n. sym (o.2 n)) covers
      | inr next ↦ absurd (none_next w journals all stuck next)
    ]
