-- Which nodes have a station: the log and the scheme's registries, in every world that events lead to.
use Rattle.std.proofs.Common.{◌≡◌, ℕ, List, [], ◌∷◌, Bool, true, false, cond, Option, Some, None, inl, inr, refl, sym, ap, subst, ◌∙◌, map}
use Rattle.std.specs.Prelude.{nat_le, is_some, length, option_and_then, slice_get}
use Rattle.std.proofs.lemmas.Bool.{cases_Bool}
use Rattle.units.proofs.Lists.FirstIndices.{none_from_test}
use Rattle.units.proofs.Same.{node_of_same}
use Rattle.units.specs.Code.{same_node, same_code}
use Rattle.units.specs.declared.code.Code.{Code}
use Rattle.units.specs.declared.code.Node.{Node}
use Rattle.units.specs.declared.code.Node.TheVariants.{Itl, Registry}
use Rattle.status.specs.declared.moment.Moment.{Moment}
use Rattle.wire.specs.declared.input.Input.{Input}
use Rattle.wire.specs.declared.input.Input.TheVariants.{Received}
use Rattle.wire.specs.declared.message.Message.{Message}
use Rattle.scheme.specs.Order as order
use Rattle.scheme.specs.declared.members.SchemeRegistry.{SchemeRegistry}
use Rattle.scheme.specs.declared.registries.Scheme.{Scheme}
use Rattle.protocol.specs.Claims.{live_of, committed_of, whole, committed_part}
use Rattle.protocol.specs.Deciding.{Verdict, IsRecorded, IsRepeat, IsLate, IsRefused}
use Rattle.protocol.specs.History.{Entry}
use Rattle.protocol.specs.Registries.{is_node}
use Rattle.protocol.specs.Verdict.{verdict, history}
use Rattle.protocol.specs.World.{World, Station, Turn, Stepped, station, journal, put, stays, opening, opening_station, rests, answered, take_input, commit, crash, restart, sent, at_node, is_order, posted, deliver, step, run}
use Rattle.protocol.specs.declared.event.Outcome.TheVariants.{NotPossible}
use Rattle.protocol.specs.declared.event.Posted.{Posted}
use Rattle.protocol.specs.declared.event.WorldEvent.{WorldEvent}
use Rattle.protocol.specs.declared.event.WorldEvent.TheVariants.{Take, Commit, Post, Deliver, Crash, Restart}
use Rattle.safety.proofs.WorldLemmas.SchemesKept.{step_scheme}
use Rattle.safety.proofs.WorldLemmas.StationsAfterPut.{at, found_at_node, at_put, at_elsewhere}

-- ---- a node's turn keeps the node

cond_node : (n : Node) (b : Bool) (t u : Turn) → t.station.node ≡ n → u.station.node ≡ n → (cond b t u).station.node ≡ n
cond_node n true t u h i = h
cond_node n false t u h i = i

answered_node : (s : Station) (i : Input) (v : Verdict) → (answered s i v).station.node ≡ s.node
answered_node s i (IsRecorded xs) = refl
answered_node s i IsRepeat = refl
answered_node s i IsLate = refl
answered_node s i (IsRefused code) = refl

pub take_node : (scheme : Scheme) (i : Input) (s : Station) → (take_input scheme i s).station.node ≡ s.node
take_node scheme i s =
    let v = verdict scheme s.node (history scheme s.node (journal s)) i in
    cond_node s.node s.runs (answered s i v) (rests s NotPossible) (answered_node s i v) refl

pub commit_node : (count : ℕ) (s : Station) → (commit count s).station.node ≡ s.node
commit_node count s = cond_node s.node s.runs _ (rests s NotPossible) (cond_node s.node (nat_le count (length s.tail)) _ (rests s NotPossible) refl refl) refl

pub crash_node : (kept : ℕ) (s : Station) → (crash kept s).station.node ≡ s.node
crash_node kept s = cond_node s.node s.runs _ (rests s NotPossible) (cond_node s.node (nat_le kept (length s.tail)) _ (rests s NotPossible) refl refl) refl

pub restart_node : (s : Station) → (restart s).station.node ≡ s.node
restart_node s = cond_node s.node s.runs (rests s NotPossible) _ refl refl

-- ---- a step takes no station away and brings none

-- the nodes that have a station are the same
abbrev pub SameStations : World → World → Type 0
SameStations w v = (n : Node) → is_some (station v n) ≡ is_some (station w n)

put_stations : (w : World) (n : Node) (s t : Station) → station w n ≡ Some s → t.node ≡ s.node → SameStations w (put w t)
put_stations w n s t is node m =
    let own = node ∙ found_at_node n w.stations s is in
    elim (cases_Bool (same_node n m)) [
      | inl y ↦ subst (λ z. is_some (station (put w t) z) ≡ is_some (station w z)) (node_of_same n m y) (ap is_some (at_put n w.stations s t is own) ∙ sym (ap is_some is))
      | inr d ↦ ap is_some (at_elsewhere n m w.stations t own d)
    ]

turn_stations : (w : World) (n : Node) (o : Option Station) (f : Station → Turn) → station w n ≡ o → ((s : Station) → (f s).station.node ≡ s.node) → SameStations w (at_node w o f).world
turn_stations w n None f is node m = refl
turn_stations w n (Some s) f is node m = put_stations w n s (f s).station is (node s) m

posted_stations : (w : World) (n : Node) (key : ℕ) (o : Option Message) → SameStations w (posted w n key o).world
posted_stations w n key None m = refl
posted_stations w n key (Some x) m = refl

cond_stations : (w : World) (b : Bool) (x y : Stepped) → SameStations w x.world → SameStations w y.world → SameStations w (cond b x y).world
cond_stations w true x y h i = h
cond_stations w false x y h i = i

deliver_stations : (w : World) (moment : Moment) (o : Option Posted) → SameStations w (deliver w moment o).world
deliver_stations w moment None m = refl
deliver_stations w moment (Some p) m = turn_stations w p.message.to (station w p.message.to) (take_input w.scheme (Received p.message moment)) refl (take_node w.scheme (Received p.message moment)) m

step_stations : (w : World) (e : WorldEvent) → SameStations w (step w e).world
unfolding step
step_stations w (Take n i) m =
    cond_stations w (is_order w n i) (at_node w (station w n) (take_input w.scheme i)) (stays w NotPossible) (turn_stations w n (station w n) (take_input w.scheme i) refl (take_node w.scheme i)) (λ z. refl) m
step_stations w (Commit n count) m = turn_stations w n (station w n) (commit count) refl (commit_node count) m
step_stations w (Post n key) m = posted_stations w n key (option_and_then (sent w.scheme key) (station w n)) m
step_stations w (Deliver index moment) m = deliver_stations w moment (slice_get w.bag index) m
step_stations w (Crash n kept) m = turn_stations w n (station w n) (crash kept) refl (crash_node kept) m
step_stations w (Restart n) m = turn_stations w n (station w n) restart refl restart_node m

-- the nodes are those that have a station
abbrev pub AllPlaced : World → Type 0
AllPlaced w = (n : Node) → is_some (station w n) ≡ is_node w.scheme n

pub step_placed : (w : World) (e : WorldEvent) → AllPlaced w → AllPlaced (step w e).world
step_placed w e all n = step_stations w e n ∙ all n ∙ ap (λ (z : Scheme). is_node z n) (sym (step_scheme w e))

pub run_placed : (w : World) (events : List WorldEvent) → AllPlaced w → AllPlaced (run w events)
run_placed w [] all = all
run_placed w (e ∷ es) all = run_placed (step w e).world es (step_placed w e all)

-- ---- the opening world

opening_members : (c : Code) (members : List SchemeRegistry) → is_some (at (Registry c) (map (λ m. opening_station (Registry m.code)) members)) ≡ is_some (order.member members c)
opening_members c [] = refl
opening_members c (m ∷ ms) = go (same_code m.code c) (opening_members c ms)
  where
    go : (b : Bool) → is_some (at (Registry c) (map (λ k. opening_station (Registry k.code)) ms)) ≡ is_some (order.member ms c)
        → is_some (cond b (Some (opening_station (Registry m.code))) (at (Registry c) (map (λ k. opening_station (Registry k.code)) ms))) ≡ is_some (cond b (Some m) (order.member ms c))
    go true rest = refl
    go false rest = rest

pub opening_placed : (scheme : Scheme) → AllPlaced (opening scheme)
opening_placed scheme Itl = refl
opening_placed scheme (Registry c) = opening_members c scheme.members

-- ---- what stands where

-- where no node of the scheme is, no station is
unplaced : (w : World) → AllPlaced w → (n : Node) → is_node w.scheme n ≡ false → station w n ≡ None
unplaced w all n h = none_from_test (station w n) (all n ∙ h)

-- nodes that are none have no history
abbrev pub Unplaced : Scheme → (Node → List Entry) → Type 0
Unplaced scheme f = (n : Node) → is_node scheme n ≡ false → f n ≡ []

pub live_unplaced : (w : World) → AllPlaced w → Unplaced w.scheme (live_of w)
live_unplaced w all n h = ap (λ o. history w.scheme n (whole o)) (unplaced w all n h)

pub committed_unplaced : (w : World) → AllPlaced w → Unplaced w.scheme (committed_of w)
committed_unplaced w all n h = ap (λ o. history w.scheme n (committed_part o)) (unplaced w all n h)
