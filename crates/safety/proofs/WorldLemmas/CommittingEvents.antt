-- An event commits at one node at most, and takes nothing back.
use Rattle.std.proofs.Common.{◌≡◌, ℕ, List, [], ◌++◌, Bool, true, false, cond, Option, Some, None, refl, sym, ap, ◌∙◌, append-nil, take, length, nat_le, slice_get, option_and_then}
use Rattle.units.specs.Code.{same_node}
use Rattle.units.specs.declared.code.Node.{Node}
use Rattle.units.specs.declared.code.Node.TheVariants.{Itl}
use Rattle.status.specs.declared.moment.Moment.{Moment}
use Rattle.wire.specs.declared.input.Input.{Input}
use Rattle.wire.specs.declared.input.Input.TheVariants.{Received}
use Rattle.wire.specs.declared.message.Message.{Message}
use Rattle.scheme.specs.declared.registries.Scheme.{Scheme}
use Rattle.protocol.specs.Claims.{committed_part}
use Rattle.protocol.specs.Deciding.{Verdict, IsRecorded, IsRepeat, IsLate, IsRefused}
use Rattle.protocol.specs.Verdict.{verdict, history}
use Rattle.protocol.specs.World.{World, Station, Turn, Stepped, station, journal, put, stays, rests, answered, take_input, commit, crash, restart, sent, at_node, is_order, posted, deliver, step}
use Rattle.protocol.specs.declared.event.Outcome.TheVariants.{NotPossible}
use Rattle.protocol.specs.declared.event.Posted.{Posted}
use Rattle.protocol.specs.declared.event.WorldEvent.{WorldEvent}
use Rattle.protocol.specs.declared.event.WorldEvent.TheVariants.{Take, Commit, Post, Deliver, Crash, Restart}
use Rattle.safety.proofs.WorldLemmas.NodesWithStation.{take_node, commit_node, crash_node, restart_node}
use Rattle.safety.proofs.WorldLemmas.StationsAfterPut.{found_at_node, at_put, at_elsewhere}

-- ---- a node's turn

-- the committed journal goes on
abbrev Grows : Station → Station → Type 0
Grows s t = (more : List Input) × (t.committed ≡ s.committed ++ more)

same_grows : (s t : Station) → t.committed ≡ s.committed → Grows s t
same_grows s t e = ([], e ∙ sym (append-nil s.committed))

cond_grows : (s : Station) (b : Bool) (t u : Turn) → Grows s t.station → Grows s u.station → Grows s (cond b t u).station
cond_grows s true t u h i = h
cond_grows s false t u h i = i

answered_grows : (s : Station) (i : Input) (v : Verdict) → Grows s (answered s i v).station
answered_grows s i (IsRecorded xs) = same_grows s (answered s i (IsRecorded xs)).station refl
answered_grows s i IsRepeat = same_grows s s refl
answered_grows s i IsLate = same_grows s s refl
answered_grows s i (IsRefused code) = same_grows s s refl

take_grows : (scheme : Scheme) (i : Input) (s : Station) → Grows s (take_input scheme i s).station
take_grows scheme i s =
    let v = verdict scheme s.node (history scheme s.node (journal s)) i in
    cond_grows s s.runs (answered s i v) (rests s NotPossible) (answered_grows s i v) (same_grows s s refl)

commit_grows : (count : ℕ) (s : Station) → Grows s (commit count s).station
commit_grows count s =
    cond_grows s s.runs _ (rests s NotPossible) (cond_grows s (nat_le count (length s.tail)) _ (rests s NotPossible) (take count s.tail, refl) (same_grows s s refl)) (same_grows s s refl)

crash_grows : (kept : ℕ) (s : Station) → Grows s (crash kept s).station
crash_grows kept s =
    cond_grows s s.runs _ (rests s NotPossible) (cond_grows s (nat_le kept (length s.tail)) _ (rests s NotPossible) (take kept s.tail, refl) (same_grows s s refl)) (same_grows s s refl)

restart_grows : (s : Station) → Grows s (restart s).station
restart_grows s = cond_grows s s.runs (rests s NotPossible) _ (same_grows s s refl) (same_grows s (record s { runs = true }) refl)

-- ---- an event

pub record Commits (w v : World) : Type 0 where
  pub node : Node
  pub more : List Input
  pub here : committed_part (station v node) ≡ committed_part (station w node) ++ more
  pub elsewhere : (m : Node) → same_node node m ≡ false → committed_part (station v m) ≡ committed_part (station w m)

none_commits : (w v : World) → ((m : Node) → station v m ≡ station w m) → Commits w v
none_commits w v same = record {
  node = Itl;
  more = [];
  here = ap committed_part (same Itl) ∙ sym (append-nil (committed_part (station w Itl)));
  elsewhere = λ m other. ap committed_part (same m);
}

put_commits : (w : World) (n : Node) (s t : Station) → station w n ≡ Some s → t.node ≡ s.node → Grows s t → Commits w (put w t)
put_commits w n s t is node grows =
    let own = node ∙ found_at_node n w.stations s is in
    record {
      node = n;
      more = grows.0;
      here = ap committed_part (at_put n w.stations s t is own) ∙ grows.1 ∙ ap (λ o. committed_part o ++ grows.0) (sym is);
      elsewhere = λ m other. ap committed_part (at_elsewhere n m w.stations t own other);
    }

turn_commits : (w : World) (n : Node) (o : Option Station) (f : Station → Turn) → station w n ≡ o → ((s : Station) → (f s).station.node ≡ s.node) → ((s : Station) → Grows s (f s).station) → Commits w (at_node w o f).world
turn_commits w n None f is node grows = none_commits w w (λ m. refl)
turn_commits w n (Some s) f is node grows = put_commits w n s (f s).station is (node s) (grows s)

cond_commits : (w : World) (b : Bool) (x y : Stepped) → Commits w x.world → Commits w y.world → Commits w (cond b x y).world
cond_commits w true x y h i = h
cond_commits w false x y h i = i

posted_commits : (w : World) (n : Node) (key : ℕ) (o : Option Message) → Commits w (posted w n key o).world
posted_commits w n key None = none_commits w w (λ m. refl)
posted_commits w n key (Some x) = none_commits w (posted w n key (Some x)).world (λ m. refl)

take_commits : (w : World) (n : Node) (i : Input) → Commits w (at_node w (station w n) (take_input w.scheme i)).world
take_commits w n i = turn_commits w n (station w n) (take_input w.scheme i) refl (take_node w.scheme i) (take_grows w.scheme i)

deliver_commits : (w : World) (moment : Moment) (o : Option Posted) → Commits w (deliver w moment o).world
deliver_commits w moment None = none_commits w w (λ m. refl)
deliver_commits w moment (Some p) = take_commits w p.message.to (Received p.message moment)

pub step_commits : (w : World) (e : WorldEvent) → Commits w (step w e).world
unfolding step
step_commits w (Take n i) = cond_commits w (is_order w n i) (at_node w (station w n) (take_input w.scheme i)) (stays w NotPossible) (take_commits w n i) (none_commits w w (λ m. refl))
step_commits w (Commit n count) = turn_commits w n (station w n) (commit count) refl (commit_node count) (commit_grows count)
step_commits w (Post n key) = posted_commits w n key (option_and_then (sent w.scheme key) (station w n))
step_commits w (Deliver index moment) = deliver_commits w moment (slice_get w.bag index)
step_commits w (Crash n kept) = turn_commits w n (station w n) (crash kept) refl (crash_node kept) (crash_grows kept)
step_commits w (Restart n) = turn_commits w n (station w n) restart refl restart_node restart_grows
