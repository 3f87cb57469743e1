-- Every world leads to a quiet one: each stopped node starts, and each node commits all of its journal. `Woken`
-- says what events of transport do for one node, and the nodes are taken one after another. The journal of every
-- node, committed and tail together, is the same before and after.
use Rattle.std.proofs.Common.{◌≡◌, List, [], ◌∷◌, ◌++◌, true, false, cond, Option, Some, None, inl, inr, refl, sym, ap, subst, ◌∙◌, take, drop, length, map, arith}
use Rattle.std.specs.Prelude.{nat_le}
use Rattle.std.proofs.lemmas.Bool.{cases_Bool, cond-true, cond-false, le-leb}
use Rattle.std.proofs.lemmas.List.{append-nil, take_all, drop_all}
use Rattle.units.proofs.Same.{node_of_same}
use Rattle.units.specs.Code.{same_node}
use Rattle.units.specs.declared.code.Node.{Node}
use Rattle.scheme.specs.declared.registries.Scheme.{Scheme}
use Rattle.protocol.specs.Claims.{committed_of, committed_part, live_of, whole}
use Rattle.protocol.specs.Verdict.{history}
use Rattle.protocol.specs.WayOut.{OnlyTransport}
use Rattle.protocol.specs.World.{World, Station, Turn, station, journal, put, rests, commit, restart, at_node, step, run}
use Rattle.protocol.specs.declared.event.Outcome.TheVariants.{Done, NotPossible}
use Rattle.protocol.specs.declared.event.WorldEvent.{WorldEvent}
use Rattle.protocol.specs.declared.event.WorldEvent.TheVariants.{Take, Commit, Post, Deliver, Crash, Restart}
use Rattle.units.proofs.Lists.Membership.{In, In_find, map_In}
use Rattle.units.proofs.Lists.OneValue.{one_some}
use Rattle.safety.proofs.WorldLemmas.NodesWithStation.{AllPlaced, run_placed}
use Rattle.safety.proofs.WorldLemmas.QuietWorlds.{Quiet, run_append}
use Rattle.safety.proofs.WorldLemmas.SchemesKept.{run_scheme}
use Rattle.safety.proofs.WorldLemmas.SoundWorlds.{Sound, run_sound}
use Rattle.safety.proofs.WorldLemmas.StationsAfterPut.{found_at_node, at_put, at_elsewhere}

-- ---- events of transport

transport_append : (es fs : List WorldEvent) → OnlyTransport es → OnlyTransport fs → OnlyTransport (es ++ fs)
transport_append [] fs a b = b
transport_append (Take n input ∷ es) fs a b = a
transport_append (Crash n kept ∷ es) fs a b = a
transport_append (Commit n count ∷ es) fs a b = transport_append es fs a b
transport_append (Post n key ∷ es) fs a b = transport_append es fs a b
transport_append (Deliver index moment ∷ es) fs a b = transport_append es fs a b
transport_append (Restart n ∷ es) fs a b = transport_append es fs a b

-- events of transport lead from the one to the other
abbrev pub Reaches : World → World → Type 0
Reaches w v = (more : List WorldEvent) × (run w more ≡ v) × OnlyTransport more

pub reaches_on : (u v w : World) → Reaches u v → Reaches v w → Reaches u w
reaches_on u v w a b = (a.0 ++ b.0, run_append u a.0 b.0 ∙ ap (λ z. run z b.0) a.1 ∙ b.1, transport_append a.0 b.0 a.2 b.2)

-- ---- one node

-- the station there, if one is, runs and has committed all
abbrev IsAwake : World → Node → Type 0
IsAwake w n = (s : Station) → station w n ≡ Some s → (s.runs ≡ true) × (s.tail ≡ [])

-- the station of one node was changed, and its journal is the same
record Alike (w v : World) (n : Node) : Type 0 where
  journals : (m : Node) → whole (station v m) ≡ whole (station w m)
  elsewhere : (m : Node) → same_node n m ≡ false → station v m ≡ station w m

alike_put : (w : World) (n : Node) (s t : Station) → station w n ≡ Some s → t.node ≡ n → journal t ≡ journal s → Alike w (put w t) n
alike_put w n s t is own same = record {
  journals = λ m.
      elim (cases_Bool (same_node n m)) [
        | inl y ↦ subst (λ z. whole (station (put w t) z) ≡ whole (station w z)) (node_of_same n m y) (ap whole (at_put n w.stations s t is own) ∙ same ∙ sym (ap whole is))
        | inr other ↦ ap whole (at_elsewhere n m w.stations t own other)
      ];
  elsewhere = λ m other. at_elsewhere n m w.stations t own other;
}

alike_on : (u v w : World) (n : Node) → Alike u v n → Alike v w n → Alike u w n
alike_on u v w n a b = record { journals = λ m. b.journals m ∙ a.journals m; elsewhere = λ m other. b.elsewhere m other ∙ a.elsewhere m other }

-- events of transport that make the node idle
record Woken (w : World) (n : Node) : Type 0 where
  events : List WorldEvent
  transport : OnlyTransport events
  alike : Alike w (run w events) n
  awake : IsAwake (run w events) n

-- a node that runs commits its tail
module _ (w : World) (n : Node) (s : Station) (is : station w n ≡ Some s) where
  own : s.node ≡ n
  own = found_at_node n w.stations s is

  commit_all : s.runs ≡ true → (step w (Commit n (length s.tail))).world ≡ put w (record { node = s.node; committed = s.committed ++ s.tail; tail = []; runs = true })
  unfolding step
  commit_all runs =
      let done : Turn = record { station = record { node = s.node; committed = s.committed ++ take (length s.tail) s.tail; tail = drop (length s.tail) s.tail; runs = s.runs }; outcome = Done } in
      let turn : commit (length s.tail) s ≡ done =
      cond-true s.runs (cond (nat_le (length s.tail) (length s.tail)) done (rests s NotPossible)) (rests s NotPossible) runs
      ∙ cond-true (nat_le (length s.tail) (length s.tail)) done (rests s NotPossible) (le-leb (length s.tail) (length s.tail) (omega arith)) in
      ap (λ o. (at_node w o (commit (length s.tail))).world) is ∙ ap (λ (z : Turn). put w z.station) turn
      ∙ ap (λ xs. put w (record { node = s.node; committed = s.committed ++ xs; tail = drop (length s.tail) s.tail; runs = s.runs })) (take_all (length s.tail) s.tail (omega arith))
      ∙ ap (λ xs. put w (record { node = s.node; committed = s.committed ++ s.tail; tail = xs; runs = s.runs })) (drop_all (length s.tail) s.tail (omega arith))
      ∙ ap (λ b. put w (record { node = s.node; committed = s.committed ++ s.tail; tail = []; runs = b })) runs

  woken_running : s.runs ≡ true → Woken w n
  woken_running runs =
      let t : Station = record { node = s.node; committed = s.committed ++ s.tail; tail = []; runs = true } in
      let e = commit_all runs in
      record {
        events = Commit n (length s.tail) ∷ [];
        transport = tt;
        alike = subst (λ v. Alike w v n) (sym e) (alike_put w n s t is own (append-nil (s.committed ++ s.tail)));
        awake = subst (λ v. IsAwake v n) (sym e) (λ u at. subst (λ (z : Station). (z.runs ≡ true) × (z.tail ≡ [])) (one_some t u (sym (at_put n w.stations s t is own) ∙ at)) (refl, refl));
      }

  -- one that is stopped starts first
  start : s.runs ≡ false → (step w (Restart n)).world ≡ put w (record s { runs = true })
  unfolding step
  start stopped =
      let started : Turn = record { station = record s { runs = true }; outcome = Done } in
      ap (λ o. (at_node w o restart).world) is ∙ ap (λ (z : Turn). put w z.station) (cond-false s.runs (rests s NotPossible) started stopped)

woken_stopped : (w : World) (n : Node) (s : Station) → station w n ≡ Some s → s.runs ≡ false → Woken w n
woken_stopped w n s is stopped =
    let t : Station = record s { runs = true } in
    let e = start w n s is stopped in
    let first : Alike w (put w t) n = alike_put w n s t is (found_at_node n w.stations s is) refl in
    let next = woken_running (put w t) n t (at_put n w.stations s t is (found_at_node n w.stations s is)) refl in
    record {
      events = Restart n ∷ next.events;
      transport = next.transport;
      alike = subst (λ v. Alike w (run v next.events) n) (sym e) (alike_on w (put w t) (run (put w t) next.events) n first next.alike);
      awake = subst (λ v. IsAwake (run v next.events) n) (sym e) next.awake;
    }

wake : (w : World) (n : Node) → Woken w n
wake w n = go (station w n) refl
  where
    go : (o : Option Station) → station w n ≡ o → Woken w n
    go None e = record {
      events = [];
      transport = tt;
      alike = record { journals = λ m. refl; elsewhere = λ m other. refl };
      awake = λ s is. absurd (let x : ◌≡◌ {A = Option Station} None (Some s) = sym e ∙ is in cc (x));
    }
    go (Some s) e = elim (cases_Bool s.runs) [ inl runs ↦ woken_running w n s e runs | inr stopped ↦ woken_stopped w n s e stopped ]

wake_keeps : (w : World) (n m : Node) (x : Woken w n) → IsAwake w m → IsAwake (run w x.events) m
wake_keeps w n m x h =
    elim (cases_Bool (same_node n m)) [
      | inl y ↦ subst (IsAwake (run w x.events)) (node_of_same n m y) x.awake
      | inr other ↦ λ s is. h s (sym (x.alike.elsewhere m other) ∙ is)
    ]

-- ---- all nodes

record AllWoken (w : World) (ns : List Node) : Type 0 where
  events : List WorldEvent
  transport : OnlyTransport events
  journals : (m : Node) → whole (station (run w events) m) ≡ whole (station w m)
  awake : (n : Node) → In n ns → IsAwake (run w events) n
  keeps : (m : Node) → IsAwake w m → IsAwake (run w events) m

wake_all : (w : World) (ns : List Node) → AllWoken w ns
wake_all w [] = record { events = []; transport = tt; journals = λ m. refl; awake = λ n i. absurd i; keeps = λ m h. h }
wake_all w (n ∷ ns) =
    let a = wake w n in
    let b = wake_all (run w a.events) ns in
    let both : run w (a.events ++ b.events) ≡ run (run w a.events) b.events = run_append w a.events b.events in
    record {
      events = a.events ++ b.events;
      transport = transport_append a.events b.events a.transport b.transport;
      journals = λ m. ap (λ (v : World). whole (station v m)) both ∙ b.journals m ∙ a.alike.journals m;
      awake = λ m i. subst (λ v. IsAwake v m) (sym both) (elim i [ inl e ↦ subst (IsAwake (run (run w a.events) b.events)) e (b.keeps n a.awake) | inr j ↦ b.awake m j ]);
      keeps = λ m h. subst (λ v. IsAwake v m) (sym both) (b.keeps m (wake_keeps w n m a h));
    }

-- a quiet world whose committed journals are the journals of the first
pub record Quieted (w : World) : Type 0 where
  pub events : List WorldEvent
  pub transport : OnlyTransport events
  pub quiet : Quiet (run w events)
  pub same : (n : Node) → committed_of (run w events) n ≡ live_of w n

pub quieted : (w : World) → Sound w → AllPlaced w → Quieted w
quieted w sound all =
    let nodes = map (λ (s : Station). s.node) w.stations in
    let a = wake_all w nodes in
    record {
      events = a.events;
      transport = a.transport;
      quiet = record {
        sound = run_sound w a.events sound;
        placed = run_placed w a.events all;
        idle = λ n. everywhere a n (station w n) refl;
      };
      same = λ n.
          ap (λ (z : Scheme). history z n (committed_part (station (run w a.events) n))) (run_scheme w a.events)
          ∙ ap (history w.scheme n) (settled a n (station (run w a.events) n) refl ∙ a.journals n);
    }
  where
    everywhere : (a : AllWoken w (map (λ (s : Station). s.node) w.stations)) (n : Node) (o : Option Station) → station w n ≡ o → IsAwake (run w a.events) n
    everywhere a n None e = a.keeps n (λ s is. absurd (let x : ◌≡◌ {A = Option Station} None (Some s) = sym e ∙ is in cc (x)))
    everywhere a n (Some s) e =
        a.awake n (subst (λ z. In z (map (λ (x : Station). x.node) w.stations)) (found_at_node n w.stations s e) (map_In (λ (x : Station). x.node) s w.stations (In_find (λ (x : Station). same_node x.node n) w.stations s e).0))

    settled : (a : AllWoken w (map (λ (s : Station). s.node) w.stations)) (n : Node) (o : Option Station) → station (run w a.events) n ≡ o → committed_part o ≡ whole o
    settled a n None e = refl
    settled a n (Some s) e = sym (ap (λ xs. s.committed ++ xs) (everywhere a n (station w n) refl s e).1 ∙ append-nil s.committed)
