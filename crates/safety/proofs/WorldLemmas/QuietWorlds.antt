-- Worlds where every node is idle, and how a node records one more input in them. A node that is idle runs and has
-- committed its whole journal. One event makes it take an input that its verdict enters, and a commit makes it
-- idle again. `Grown` says so by equations: the node's journal has one input more, and all other nodes are as they
-- were.
use Rattle.std.proofs.Common.{◌≡◌, ℕ, List, [], ◌∷◌, ◌++◌, Bool, true, false, Option, Some, None, inl, inr, refl, sym, ap, subst, ◌∙◌, length}
use Rattle.std.specs.Prelude.{slice_get, option_and_then}
use Rattle.std.proofs.lemmas.Bool.{cases_Bool, cond-true}
use Rattle.std.proofs.lemmas.List.{append-nil}
use Rattle.units.proofs.Same.{node_of_same}
use Rattle.units.specs.Code.{same_node}
use Rattle.units.specs.declared.code.Node.{Node}
use Rattle.units.specs.declared.code.Node.TheVariants.{Registry}
use Rattle.status.specs.declared.moment.Moment.{Moment}
use Rattle.wire.specs.declared.input.Input.{Input}
use Rattle.wire.specs.declared.input.Input.TheVariants.{Received}
use Rattle.wire.specs.declared.message.Message.{Message}
use Rattle.scheme.specs.declared.members.SchemeRegistry.{SchemeRegistry}
use Rattle.scheme.specs.declared.registries.Scheme.{Scheme}
use Rattle.protocol.specs.Claims.{committed_part, committed_of}
use Rattle.protocol.specs.Deciding.{IsRecorded}
use Rattle.protocol.specs.History.{Transition, sends}
use Rattle.protocol.specs.Registries.{is_node}
use Rattle.protocol.specs.Verdict.{verdict, history}
use Rattle.protocol.specs.World.{World, Station, Turn, Stepped, opening, opening_station, station, journal, put, stays, rests, answered, take_input, commit, sent, at_node, is_order, posted, deliver, step, run}
use Rattle.protocol.specs.declared.event.Outcome.TheVariants.{NotPossible}
use Rattle.protocol.specs.declared.event.Posted.{Posted}
use Rattle.protocol.specs.declared.event.WorldEvent.{WorldEvent}
use Rattle.protocol.specs.declared.event.WorldEvent.TheVariants.{Take, Commit, Post, Deliver}
use Rattle.units.proofs.Lists.Membership.{In, In_find, In_map}
use Rattle.units.proofs.Lists.OneValue.{one_some}
use Rattle.safety.proofs.ListLemmas.FirstFound.{some_is}
use Rattle.safety.proofs.WorldLemmas.NodesWithStation.{AllPlaced, run_placed, opening_placed}
use Rattle.units.proofs.Lists.Positions.{index_of, last_at}
use Rattle.safety.proofs.WorldLemmas.SoundWorlds.{Sound, run_sound, opening_sound}
use Rattle.safety.proofs.WorldLemmas.StationsAfterPut.{found_at_node, at_put, at_elsewhere}

-- every node has a station, and each station runs and has committed all
pub record Quiet (w : World) : Type 0 where
  pub sound : Sound w
  pub placed : AllPlaced w
  pub idle : (n : Node) (s : Station) → station w n ≡ Some s → (s.runs ≡ true) × (s.tail ≡ [])

pub there : (w : World) → Quiet w → (n : Node) → is_node w.scheme n ≡ true → (s : Station) × (station w n ≡ Some s)
there w quiet n node = some_is (station w n) (quiet.placed n ∙ node)

-- after the events the node has committed one input more, it is idle, and all other nodes are as they were
pub record Grown (w : World) (events : List WorldEvent) (n : Node) (input : Input) : Type 0 where
  pub at : Station
  pub here : station (run w events) n ≡ Some at
  pub committed : at.committed ≡ committed_part (station w n) ++ input ∷ []
  pub idle : (at.runs ≡ true) × (at.tail ≡ [])
  pub elsewhere : (m : Node) → same_node n m ≡ false → station (run w events) m ≡ station w m

-- ---- an idle station

-- it takes what its verdict enters
pub takes : (scheme : Scheme) (n : Node) (s : Station) (input : Input) (xs : List Transition) → s.node ≡ n → s.runs ≡ true → s.tail ≡ [] → verdict scheme n (history scheme n s.committed) input ≡ IsRecorded xs
    → take_input scheme input s ≡ answered s input (IsRecorded xs)
takes scheme n s input xs own runs settled says =
    let whole : journal s ≡ s.committed = ap (λ zs. s.committed ++ zs) settled ∙ append-nil s.committed in
    let here : verdict scheme s.node (history scheme s.node (journal s)) input ≡ IsRecorded xs =
    ap (λ zs. verdict scheme s.node (history scheme s.node zs) input) whole ∙ subst (λ z. verdict scheme z (history scheme z s.committed) input ≡ IsRecorded xs) (sym own) says in
    cond-true s.runs (answered s input (verdict scheme s.node (history scheme s.node (journal s)) input)) (rests s NotPossible) runs ∙ ap (answered s input) here

-- and commits it
commits : (s : Station) (input : Input) → s.runs ≡ true → s.tail ≡ []
    → (commit 1 (record s { tail = s.tail ++ input ∷ [] })).station ≡ record { node = s.node; committed = s.committed ++ input ∷ []; tail = []; runs = true }
commits s input runs settled = go s.runs s.tail runs settled
  where
    go : (b : Bool) (tail : List Input) → b ≡ true → tail ≡ []
        → (commit 1 (record { node = s.node; committed = s.committed; tail = tail ++ input ∷ []; runs = b })).station ≡ record { node = s.node; committed = s.committed ++ input ∷ []; tail = []; runs = true }
    go true [] e f = refl
    go true (x ∷ xs) e f = absurd (cc (f))
    go false tail e f = absurd (cc (e))

-- ---- an event by which a node takes an input, and a commit

pub record_on : (w : World) (n : Node) (s : Station) (input : Input) (xs : List Transition) (e : WorldEvent) → station w n ≡ Some s → (s.runs ≡ true) × (s.tail ≡ [])
    → verdict w.scheme n (history w.scheme n s.committed) input ≡ IsRecorded xs → (step w e).world ≡ (at_node w (station w n) (take_input w.scheme input)).world → Grown w (e ∷ Commit n 1 ∷ []) n input
unfolding step
record_on w n s input xs e is idle says first = record {
  at = u;
  here = subst (λ (z : World). station z n ≡ Some u) (sym after) (at_put n (put w t).stations t u middle own);
  committed = ap (λ o. committed_part o ++ input ∷ []) (sym is);
  idle = (refl, refl);
  elsewhere = λ m other. subst (λ (z : World). station z m ≡ station w m) (sym after) (at_elsewhere n m (put w t).stations u own other ∙ at_elsewhere n m w.stations t own other);
}
  where
    own : s.node ≡ n
    own = found_at_node n w.stations s is

    t : Station
    t = record s { tail = s.tail ++ input ∷ [] }

    u : Station
    u = record { node = s.node; committed = s.committed ++ input ∷ []; tail = []; runs = true }

    middle : station (put w t) n ≡ Some t
    middle = at_put n w.stations s t is own

    taken : (step w e).world ≡ put w t
    taken =
        first ∙ ap (λ o. (at_node w o (take_input w.scheme input)).world) is
        ∙ ap (λ (turn : Turn). put w turn.station) (takes w.scheme n s input xs own idle.0 idle.1 says)

    after : run w (e ∷ Commit n 1 ∷ []) ≡ put (put w t) u
    after =
        ap (λ z. (step z (Commit n 1)).world) taken ∙ ap (λ o. (at_node (put w t) o (commit 1)).world) middle ∙ ap (put (put w t)) (commits s input idle.0 idle.1)

-- an event that only puts something into the bag comes before
pub bag_on : (w : World) (e : WorldEvent) (bag : List Posted) (events : List WorldEvent) (n : Node) (input : Input) → (step w e).world ≡ record w { bag = bag } → Grown (record w { bag = bag }) events n input
    → Grown w (e ∷ events) n input
bag_on w e bag events n input first g = record {
  at = g.at;
  here = subst (λ z. station (run z events) n ≡ Some g.at) (sym first) g.here;
  committed = g.committed;
  idle = g.idle;
  elsewhere = λ m other. subst (λ z. station (run z events) m ≡ station w m) (sym first) (g.elsewhere m other);
}

-- ---- single events

pub take_step : (w : World) (n : Node) (input : Input) → is_order w n input ≡ true → (step w (Take n input)).world ≡ (at_node w (station w n) (take_input w.scheme input)).world
unfolding step
take_step w n input order = ap (λ (z : Stepped). z.world) (cond-true (is_order w n input) (at_node w (station w n) (take_input w.scheme input)) (stays w NotPossible) order)

pub post_step : (w : World) (n : Node) (s : Station) (key : ℕ) (m : Message) → station w n ≡ Some s → s.runs ≡ true → slice_get (sends (committed_of w n)) key ≡ Some m
    → (step w (Post n key)).world ≡ record w { bag = w.bag ++ record { node = n; key = key; message = m } ∷ [] }
unfolding step
post_step w n s key m is runs there =
    let own : s.node ≡ n = found_at_node n w.stations s is in
    let here : slice_get (sends (history w.scheme s.node s.committed)) key ≡ Some m =
    subst (λ z. slice_get (sends (history w.scheme z s.committed)) key ≡ Some m) (sym own) (subst (λ o. slice_get (sends (history w.scheme n (committed_part o))) key ≡ Some m) is there) in
    let found : option_and_then (sent w.scheme key) (station w n) ≡ Some m =
    ap (option_and_then (sent w.scheme key)) is ∙ cond-true s.runs (slice_get (sends (history w.scheme s.node s.committed)) key) None runs ∙ here in
    ap (λ o. (posted w n key o).world) found

deliver_step : (w : World) (p : Posted) (moment : Moment) (n : Node) → p.message.to ≡ n
    → (step (record w { bag = w.bag ++ p ∷ [] }) (Deliver (length w.bag) moment)).world
    ≡ (at_node (record w { bag = w.bag ++ p ∷ [] }) (station w n) (take_input w.scheme (Received p.message moment))).world
unfolding step
deliver_step w p moment n to =
    ap (λ o. (deliver (record w { bag = w.bag ++ p ∷ [] }) moment o).world) (last_at w.bag p)
    ∙ ap (λ z. (at_node (record w { bag = w.bag ++ p ∷ [] }) (station w z) (take_input w.scheme (Received p.message moment))).world) to

-- ---- in a quiet world

-- a message that a node has sent was sent by a station
sending : (w : World) (n : Node) (m : Message) → In m (sends (committed_of w n)) → (s : Station) × (station w n ≡ Some s)
sending w n m i = go (station w n) refl
  where
    go : (o : Option Station) → station w n ≡ o → (s : Station) × (o ≡ Some s)
    go None e = absurd (subst (λ z. In m (sends (history w.scheme n (committed_part z)))) e i)
    go (Some s) e = (s, refl)

-- a message that was sent can be posted, delivered and committed
pub delivers : (w : World) → Quiet w → (m : Message) (moment : Moment) (xs : List Transition) → is_node w.scheme m.to ≡ true → In m (sends (committed_of w m.from))
    → verdict w.scheme m.to (committed_of w m.to) (Received m moment) ≡ IsRecorded xs
    → (key : ℕ) × Grown w (Post m.from key ∷ Deliver (length w.bag) moment ∷ Commit m.to 1 ∷ []) m.to (Received m moment)
delivers w quiet m moment xs node sent says =
    let n = m.to in
    let from = sending w m.from m sent in
    let key = index_of (sends (committed_of w m.from)) m sent in
    let to = there w quiet n node in
    let p : Posted = record { node = m.from; key = key.0; message = m } in (
      key.0,
      bag_on w (Post m.from key.0) (w.bag ++ p ∷ []) (Deliver (length w.bag) moment ∷ Commit n 1 ∷ []) n (Received m moment)
          (post_step w m.from from.0 key.0 m from.1 (quiet.idle m.from from.0 from.1).0 key.1)
          (record_on (record w { bag = w.bag ++ p ∷ [] }) n to.0 (Received m moment) xs (Deliver (length w.bag) moment) to.1 (quiet.idle n to.0 to.1)
          (subst (λ o. verdict w.scheme n (history w.scheme n (committed_part o)) (Received m moment) ≡ IsRecorded xs) to.1 says) (deliver_step w p moment n refl)),
    )

-- ---- quiet worlds

pub opening_quiet : (scheme : Scheme) → Quiet (opening scheme)
opening_quiet scheme = record {
  sound = opening_sound scheme;
  placed = opening_placed scheme;
  idle = λ n s is.
      elim (In_find (λ (x : Station). same_node x.node n) (opening scheme).stations s is).0 [
        | inl e ↦ subst (λ (z : Station). (z.runs ≡ true) × (z.tail ≡ [])) e (refl, refl)
        | inr i ↦
            let m = In_map (λ (k : SchemeRegistry). opening_station (Registry k.code)) s scheme.members i in
            subst (λ (z : Station). (z.runs ≡ true) × (z.tail ≡ [])) m.2 (refl, refl)
      ];
}

-- one input more leaves it quiet
pub quiet_after : (w : World) (events : List WorldEvent) (n : Node) (input : Input) → Quiet w → Grown w events n input → Quiet (run w events)
quiet_after w events n input quiet g = record {
  sound = run_sound w events quiet.sound;
  placed = run_placed w events quiet.placed;
  idle = λ m s is.
      elim (cases_Bool (same_node n m)) [
        | inl y ↦
            let same : Some g.at ≡ Some s = sym (subst (λ z. station (run w events) z ≡ Some g.at) (node_of_same n m y) g.here) ∙ is in
            subst (λ (z : Station). (z.runs ≡ true) × (z.tail ≡ [])) (one_some g.at s same) g.idle
        | inr other ↦ quiet.idle m s (sym (g.elsewhere m other) ∙ is)
      ];
}

-- ---- lists of events

pub run_append : (w : World) (es fs : List WorldEvent) → run w (es ++ fs) ≡ run (run w es) fs
run_append w [] fs = refl
run_append w (e ∷ es) fs = run_append (step w e).world es fs
