-- What events lead to has an order of its records in which each is next in its turn. The order is that in which
-- the records were committed. The invariant `Ordered` also covers the records that are not committed yet: each was
-- entered by the verdict after the earlier ones of its node. A commit puts some of them after the order. Their
-- messages were delivered from the bag, so they were sent by committed records.
use Rattle.std.proofs.Common.{◌≡◌, ℕ, List, [], ◌∷◌, ◌++◌, Bool, true, false, cond, Option, Some, None, ◌⊎◌, inl, inr, refl, sym, ap, subst, ◌∙◌, append_assoc, take, drop, length, take-append-drop}
use Rattle.std.specs.Prelude.{nat_le, is_some, option_and_then, slice_get}
use Rattle.std.proofs.lemmas.Bool.{cases_Bool}
use Rattle.std.proofs.lemmas.List.{append-nil}
use Rattle.units.proofs.Same.{node_of_same}
use Rattle.units.specs.Code.{same_node}
use Rattle.units.specs.declared.code.Node.{Node}
use Rattle.units.specs.declared.code.Node.TheVariants.{Itl, Registry}
use Rattle.status.specs.declared.moment.Moment.{Moment}
use Rattle.wire.specs.declared.input.Input.{Input}
use Rattle.wire.specs.declared.input.Input.TheVariants.{Propose, Request, OpenAccount, CloseAccount, Ack, CleanUp, Eligible, Received}
use Rattle.wire.specs.declared.message.Message.{Message}
use Rattle.scheme.specs.declared.registries.Scheme.{Scheme}
use Rattle.protocol.specs.Claims.{committed_part, whole}
use Rattle.protocol.specs.Deciding.{Verdict, IsRecorded, IsRepeat, IsLate, IsRefused}
use Rattle.protocol.specs.History.{Transition, sends}
use Rattle.protocol.specs.Registries.{is_node}
use Rattle.protocol.specs.Verdict.{verdict, history}
use Rattle.protocol.specs.Weave.{Projects, Placed, journals_of, WasSent, IsNext, InTurn, ArePrefixes, HasNext, committed_by}
use Rattle.protocol.specs.World.{World, Station, Turn, station, journal, put, stays, opening, rests, answered, take_input, commit, crash, restart, sent, at_node, is_order, posted, deliver, step, run}
use Rattle.protocol.specs.declared.event.Outcome.TheVariants.{Done, NotPossible}
use Rattle.protocol.specs.declared.event.Posted.{Posted}
use Rattle.protocol.specs.declared.event.WorldEvent.{WorldEvent}
use Rattle.protocol.specs.declared.event.WorldEvent.TheVariants.{Take, Commit, Post, Deliver, Crash, Restart}
use Rattle.safety.proofs.MovesAndHistories.LongerHistories.{sends_append, got_in}
use Rattle.safety.proofs.MovesAndHistories.NewestTransitions.{Got}
use Rattle.units.proofs.Lists.Membership.{In, In_right}
use Rattle.units.proofs.Lists.OneValue.{one_some}
use Rattle.safety.proofs.WorldLemmas.NodesWithStation.{AllPlaced, step_placed, opening_placed}
use Rattle.units.proofs.Lists.Positions.{contains_in, In_take, right_empty}
use Rattle.protocol.proofs.NodeIndices.{other_way}
use Rattle.safety.proofs.WorldLemmas.ReachedWorlds.{reached_scheme}
use Rattle.safety.proofs.WorldLemmas.SoundWorlds.{Sound, step_sound, opening_sound, no_journal, none_committed}
use Rattle.safety.proofs.WorldLemmas.StationsAfterPut.{found_at_node, at_put, at_elsewhere}
use Rattle.safety.proofs.JournalWeaves.RecordOrders.{journals_here, journals_there, never_stuck}

-- a message is for that node
abbrev Addressed : Node → Input → Type 0
Addressed n (Received m moment) = m.to ≡ n
Addressed n _ = Unit {0}

-- every message among the inputs was sent by the journals
abbrev EachSent : Scheme → (Node → List Input) → List Input → Type 0
EachSent scheme journals xs = (m : Message) (moment : Moment) → In (Received m moment) xs → In m (sends (history scheme m.from (journals m.from)))

-- the records that wait after the past were recorded each after the earlier ones
abbrev Waiting : Scheme → Node → List Input → List Input → Type 0
Waiting scheme n past [] = Unit {0}
Waiting scheme n past (i ∷ is) = ((xs : List Transition) × (verdict scheme n (history scheme n past) i ≡ IsRecorded xs)) × Addressed n i × Waiting scheme n (past ++ i ∷ []) is

module _ (scheme : Scheme) (n : Node) where
  waiting_more : (past is : List Input) (i : Input) (xs : List Transition) → Waiting scheme n past is → verdict scheme n (history scheme n (past ++ is)) i ≡ IsRecorded xs → Addressed n i → Waiting scheme n past (is ++ i ∷ [])
  waiting_more past [] i xs h e a = ((xs, subst (λ zs. verdict scheme n (history scheme n zs) i ≡ IsRecorded xs) (append-nil past) e), a, tt)
  waiting_more past (x ∷ is) i xs h e a =
      (h.0, h.1, waiting_more (past ++ x ∷ []) is i xs h.2 (subst (λ zs. verdict scheme n (history scheme n zs) i ≡ IsRecorded xs) (sym (append_assoc past (x ∷ []) is)) e) a)

  was_sent : (journals : Node → List Input) (x : Input) (xs : List Input) → EachSent scheme journals (x ∷ xs) → Addressed n x → WasSent scheme journals n x
  was_sent journals (Received m moment) xs sent a = (a, contains_in (sends (history scheme m.from (journals m.from))) m (sent m moment (inl refl)))
  was_sent journals (Propose o) xs sent a = tt
  was_sent journals (Request t) xs sent a = tt
  was_sent journals (OpenAccount account) xs sent a = tt
  was_sent journals (CloseAccount account) xs sent a = tt
  was_sent journals (Ack key) xs sent a = tt
  was_sent journals (CleanUp moment) xs sent a = tt
  was_sent journals (Eligible c may) xs sent a = tt

  -- an order that goes on with the records that the node commits
  record Longer (order : List Placed) (past xs ys : List Input) : Type 0 where
    next : List Placed
    turn : InTurn scheme next
    here : journals_of next n ≡ past ++ xs
    elsewhere : (m : Node) → same_node m n ≡ false → journals_of next m ≡ journals_of order m
    waits : Waiting scheme n (past ++ xs) ys

  commit_more : (xs ys past : List Input) (order : List Placed) → is_node scheme n ≡ true → InTurn scheme order → journals_of order n ≡ past → Waiting scheme n past (xs ++ ys) → EachSent scheme (journals_of order) xs
      → Longer order past xs ys
  commit_more [] ys past order node turn e waits sent = record {
    next = order;
    turn = turn;
    here = e ∙ sym (append-nil past);
    elsewhere = λ m other. refl;
    waits = subst (λ zs. Waiting scheme n zs ys) (sym (append-nil past)) waits;
  }
  commit_more (x ∷ xs) ys past order node turn e waits sent =
      let r : Placed = record { node = n; input = x } in
      let next : IsNext scheme (journals_of order) r = (node, (waits.0.0, subst (λ zs. verdict scheme n (history scheme n zs) x ≡ IsRecorded waits.0.0) (sym e) waits.0.1), was_sent (journals_of order) x xs sent waits.1) in
      let later : EachSent scheme (journals_of (r ∷ order)) xs = λ m moment i.
      elim (cases_Bool (same_node m.from n)) [
        | inl y ↦
            subst (λ zs. In m (sends (history scheme m.from zs)))
            (sym (subst (λ z. journals_of (r ∷ order) z ≡ journals_of order z ++ x ∷ []) (sym (node_of_same m.from n y)) (journals_here r order)))
            (sends_append scheme m.from (journals_of order m.from) (x ∷ []) m (sent m moment (inr i)))
        | inr other ↦ subst (λ zs. In m (sends (history scheme m.from zs))) (sym (journals_there r order m.from other)) (sent m moment (inr i))
      ] in
      let more = commit_more xs ys (past ++ x ∷ []) (r ∷ order) node (next, turn) (journals_here r order ∙ ap (λ zs. zs ++ x ∷ []) e) waits.2 later in
      record {
        next = more.next;
        turn = more.turn;
        here = more.here ∙ append_assoc past (x ∷ []) xs;
        elsewhere = λ m other. more.elsewhere m other ∙ journals_there r order m other;
        waits = subst (λ zs. Waiting scheme n zs ys) (append_assoc past (x ∷ []) xs) more.waits;
      }

-- ---- worlds

-- the committed journals have an order, and what is not committed waits
record Ordered (w : World) : Type 0 where
  order : List Placed
  turn : InTurn w.scheme order
  same : (n : Node) → journals_of order n ≡ committed_part (station w n)
  waits : (n : Node) (s : Station) → station w n ≡ Some s → Waiting w.scheme n s.committed s.tail

-- a turn of a station commits some of what waits, and leaves or loses the rest
record Turned (w : World) (n : Node) (s t : Station) : Type 0 where
  node : t.node ≡ n
  more : List Input
  rest : List Input
  waited : Waiting w.scheme n s.committed (more ++ rest)
  sent_each : EachSent w.scheme (λ m. committed_part (station w m)) more
  committed : t.committed ≡ s.committed ++ more
  waits : Waiting w.scheme n (s.committed ++ more) rest → Waiting w.scheme n t.committed t.tail

module _ (w : World) (sound : Sound w) (o : Ordered w) (n : Node) (s : Station) (is : station w n ≡ Some s) where
  own : s.node ≡ n
  own = found_at_node n w.stations s is

  -- a station with the same committed journal
  waiting_still : (t : Station) → t.node ≡ s.node → t.committed ≡ s.committed → Waiting w.scheme n s.committed t.tail → Turned w n s t
  waiting_still t node e waits = record {
    node = node ∙ own;
    more = [];
    rest = t.tail;
    waited = waits;
    sent_each = λ m moment i. absurd i;
    committed = e ∙ sym (append-nil s.committed);
    waits = λ h. subst (λ zs. Waiting w.scheme n zs t.tail) (append-nil s.committed ∙ sym e) h;
  }

  still : Turned w n s s
  still = waiting_still s refl refl (o.waits n s is)

  turned_if : (b : Bool) (t : Turn) → Turned w n s t.station → Turned w n s (cond b t (rests s NotPossible)).station
  turned_if true t k = k
  turned_if false t k = still

  turned_answered : (i : Input) (v : Verdict) → Addressed n i → verdict w.scheme s.node (history w.scheme s.node (journal s)) i ≡ v → Turned w n s (answered s i v).station
  turned_answered i (IsRecorded xs) a says =
      waiting_still (record s { tail = s.tail ++ i ∷ [] }) refl refl
      (waiting_more w.scheme n s.committed s.tail i xs (o.waits n s is) (subst (λ z. verdict w.scheme z (history w.scheme z (journal s)) i ≡ IsRecorded xs) own says) a)
  turned_answered i IsRepeat a says = still
  turned_answered i IsLate a says = still
  turned_answered i (IsRefused code) a says = still

  turned_take : (i : Input) → Addressed n i → Turned w n s (take_input w.scheme i s).station
  turned_take i a =
      turned_if s.runs (answered s i (verdict w.scheme s.node (history w.scheme s.node (journal s)) i))
      (turned_answered i (verdict w.scheme s.node (history w.scheme s.node (journal s)) i) a refl)

  -- the first of those that wait are committed
  turned_more : (count : ℕ) (tail : List Input) (runs : Bool) → (Waiting w.scheme n (s.committed ++ take count s.tail) (drop count s.tail) → Waiting w.scheme n (s.committed ++ take count s.tail) tail)
      → Turned w n s (record { node = s.node; committed = s.committed ++ take count s.tail; tail = tail; runs = runs })
  turned_more count tail runs keep = record {
    node = own;
    more = take count s.tail;
    rest = drop count s.tail;
    waited = subst (λ zs. Waiting w.scheme n s.committed zs) (sym (take-append-drop count s.tail)) (o.waits n s is);
    sent_each = λ m moment i.
        sound.caused n m
        (subst (λ z. Got (history w.scheme n (whole z)) m) (sym is)
        (got_in w.scheme n [] (journal s) m moment (In_right (Received m moment) s.committed s.tail (In_take count s.tail (Received m moment) i)))) refl;
    committed = refl;
    waits = keep;
  }

  turned_commit : (count : ℕ) → Turned w n s (commit count s).station
  turned_commit count =
      let done : Turn = record { station = record s { committed = s.committed ++ take count s.tail; tail = drop count s.tail }; outcome = Done } in
      turned_if s.runs (cond (nat_le count (length s.tail)) done (rests s NotPossible)) (turned_if (nat_le count (length s.tail)) done (turned_more count (drop count s.tail) s.runs (λ h. h)))

  turned_crash : (kept : ℕ) → Turned w n s (crash kept s).station
  turned_crash kept =
      let done : Turn = record { station = record s { committed = s.committed ++ take kept s.tail; tail = []; runs = false }; outcome = Done } in
      turned_if s.runs (cond (nat_le kept (length s.tail)) done (rests s NotPossible)) (turned_if (nat_le kept (length s.tail)) done (turned_more kept [] false (λ h. tt)))

  turned_restart : Turned w n s (restart s).station
  turned_restart = go s.runs
    where
      go : (b : Bool) → Turned w n s (cond b (rests s NotPossible) (record { station = record s { runs = true }; outcome = Done })).station
      go true = still
      go false = waiting_still (record s { runs = true }) refl refl (o.waits n s is)

  ordered_put : (t : Station) → is_node w.scheme n ≡ true → Turned w n s t → Ordered (put w t)
  ordered_put t node k =
      let l =
      commit_more w.scheme n k.more k.rest s.committed o.order node o.turn (o.same n ∙ ap committed_part is) k.waited
      (λ m moment i. subst (λ zs. In m (sends (history w.scheme m.from zs))) (sym (o.same m.from)) (k.sent_each m moment i)) in
      let here : station (put w t) n ≡ Some t = at_put n w.stations s t is k.node in
      record {
        order = l.next;
        turn = l.turn;
        same = λ m.
            elim (cases_Bool (same_node n m)) [
              | inl y ↦ subst (λ z. journals_of l.next z ≡ committed_part (station (put w t) z)) (node_of_same n m y) (l.here ∙ sym k.committed ∙ sym (ap committed_part here))
              | inr other ↦ l.elsewhere m (other_way n m other) ∙ o.same m ∙ sym (ap committed_part (at_elsewhere n m w.stations t k.node other))
            ];
        waits = λ m x at.
            elim (cases_Bool (same_node n m)) [
              | inl y ↦
                  let same : n ≡ m = node_of_same n m y in
                  let it : t ≡ x = one_some t x (sym (subst (λ z. station (put w t) z ≡ Some t) same here) ∙ at) in
                  subst (λ (z : Station). Waiting w.scheme m z.committed z.tail) it (subst (λ z. Waiting w.scheme z t.committed t.tail) same (k.waits l.waits))
              | inr other ↦ o.waits m x (sym (at_elsewhere n m w.stations t k.node other) ∙ at)
            ];
      }

-- ---- a step

module _ (w : World) (sound : Sound w) (all : AllPlaced w) (o : Ordered w) where
  ordered_at : (n : Node) (x : Option Station) (f : Station → Turn) → station w n ≡ x → ((s : Station) → station w n ≡ Some s → Turned w n s (f s).station) → Ordered (at_node w x f).world
  ordered_at n None f is turned = o
  ordered_at n (Some s) f is turned = ordered_put w sound o n s is (f s).station (sym (all n) ∙ ap is_some is) (turned s is)

  ordered_posted : (n : Node) (key : ℕ) (m : Option Message) → Ordered (posted w n key m).world
  ordered_posted n key None = o
  ordered_posted n key (Some m) = record { order = o.order; turn = o.turn; same = o.same; waits = o.waits }

  ordered_deliver : (moment : Moment) (p : Option Posted) → Ordered (deliver w moment p).world
  ordered_deliver moment None = o
  ordered_deliver moment (Some p) =
      ordered_at p.message.to (station w p.message.to) (take_input w.scheme (Received p.message moment)) refl
      (λ s is. turned_take w sound o p.message.to s is (Received p.message moment) refl)

  order_addressed : (n : Node) (input : Input) → is_order w n input ≡ true → Addressed n input
  order_addressed Itl (Received m moment) h = absurd (cc (h))
  order_addressed (Registry c) (Received m moment) h = absurd (cc (h))
  order_addressed n (Propose order) h = tt
  order_addressed n (Request t) h = tt
  order_addressed n (OpenAccount account) h = tt
  order_addressed n (CloseAccount account) h = tt
  order_addressed n (Ack key) h = tt
  order_addressed n (CleanUp moment) h = tt
  order_addressed n (Eligible c may) h = tt

  step_ordered : (e : WorldEvent) → Ordered (step w e).world
  unfolding step
  step_ordered (Take n i) = go (is_order w n i) refl
    where
      go : (b : Bool) → is_order w n i ≡ b → Ordered (cond b (at_node w (station w n) (take_input w.scheme i)) (stays w NotPossible)).world
      go true order = ordered_at n (station w n) (take_input w.scheme i) refl (λ s is. turned_take w sound o n s is i (order_addressed n i order))
      go false order = o
  step_ordered (Commit n count) = ordered_at n (station w n) (commit count) refl (λ s is. turned_commit w sound o n s is count)
  step_ordered (Post n key) = ordered_posted n key (option_and_then (sent w.scheme key) (station w n))
  step_ordered (Deliver index moment) = ordered_deliver moment (slice_get w.bag index)
  step_ordered (Crash n kept) = ordered_at n (station w n) (crash kept) refl (λ s is. turned_crash w sound o n s is kept)
  step_ordered (Restart n) = ordered_at n (station w n) restart refl (λ s is. turned_restart w sound o n s is)

-- ---- worlds that events lead to

run_ordered : (w : World) (es : List WorldEvent) → Sound w → AllPlaced w → Ordered w → Ordered (run w es)
run_ordered w [] sound all o = o
run_ordered w (e ∷ es) sound all o =
    run_ordered (step w e).world es (step_sound w e sound) (step_placed w e all) (step_ordered w sound all o e)

opening_ordered : (scheme : Scheme) → Ordered (opening scheme)
opening_ordered scheme = record {
  order = [];
  turn = tt;
  same = λ n. sym (none_committed scheme n);
  waits = λ n s is.
      let e : journal s ≡ [] = subst (λ z. whole z ≡ []) is (no_journal scheme n) in
      subst (λ zs. Waiting scheme n s.committed zs) (sym (right_empty s.committed s.tail e)) tt;
}

pub ordered_run : (scheme : Scheme) (events : List WorldEvent) → (order : List Placed) × InTurn scheme order × ((n : Node) → journals_of order n ≡ committed_by scheme events n)
ordered_run scheme events =
    let o = run_ordered (opening scheme) events (opening_sound scheme) (opening_placed scheme) (opening_ordered scheme) in
    (o.order, subst (λ (z : Scheme). InTurn z o.order) (reached_scheme scheme events) o.turn, o.same)

pub ordered : (scheme : Scheme) (events : List WorldEvent) (journals : Node → List Input) → Projects scheme events journals
    → (order : List Placed) × InTurn scheme order × ((n : Node) → journals_of order n ≡ journals n)
ordered scheme events journals h = let o = ordered_run scheme events in (o.0, o.1, λ n. o.2 n ∙ (h n).0)

pub always_next : (scheme : Scheme) (events : List WorldEvent) (journals past : Node → List Input) → Projects scheme events journals → ArePrefixes past journals → ((n : Node) → past n ≡ journals n) ⊎ HasNext scheme past journals
always_next scheme events journals past h on = let o = ordered scheme events journals h in never_stuck scheme o.0 past journals o.1 o.2 on
