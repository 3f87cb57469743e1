-- The one invariant of worlds, `SoundAmong`: every message in the bag, and every message that a node received, is among
-- the messages that the committed journal of its sender sends, if its sender is trusted. `Sound` is the case in which
-- all nodes are. Each event is a turn of at most one node, and `Keeps` has the facts that such a turn preserves:
-- committed journals only get longer, the messages that were sent remain sent, and a new input is an order or a message
-- of the bag. The opening world has no journals, and in its bag messages of strangers alone. The families of histories
-- of a sound world, live or committed, are therefore `CausalAmong`.
use Rattle.std.proofs.Common.{◌≡◌, ℕ, List, [], ◌∷◌, ◌++◌, Bool, true, false, cond, Option, Some, None, inl, inr, refl, sym, ap, subst, ◌∙◌, take, drop, map, length, append_assoc, take-append-drop}
use Rattle.std.specs.Prelude.{nat_le, slice_get, option_and_then}
use Rattle.std.proofs.lemmas.Bool.{cases_Bool}
use Rattle.std.proofs.lemmas.List.{append-nil}
use Rattle.units.proofs.Same.{node_of_same}
use Rattle.units.specs.Code.{same_node}
use Rattle.units.specs.declared.code.Node.{Node}
use Rattle.units.specs.declared.code.Node.TheVariants.{Itl, Registry}
use Rattle.status.specs.declared.moment.Moment.{Moment}
use Rattle.wire.specs.declared.input.Input.{Input}
use Rattle.wire.specs.declared.input.Input.TheVariants.{Received}
use Rattle.wire.specs.declared.message.Message.{Message}
use Rattle.scheme.specs.declared.members.SchemeRegistry.{SchemeRegistry}
use Rattle.scheme.specs.declared.registries.Scheme.{Scheme}
use Rattle.protocol.specs.Claims.{committed_of, live_of, committed_part, whole}
use Rattle.protocol.specs.Deciding.{Verdict, IsRecorded, IsRepeat, IsLate, IsRefused}
use Rattle.protocol.specs.History.{sends}
use Rattle.protocol.specs.Verdict.{verdict, history}
use Rattle.protocol.specs.World.{World, Station, Turn, station, journal, put, stays, opening, opening_station, rests, answered, take_input, commit, crash, restart, sent, at_node, is_order, posted, deliver, step, run}
use Rattle.protocol.specs.declared.event.Outcome.TheVariants.{Done, NotPossible}
use Rattle.protocol.specs.declared.event.Posted.{Posted}
use Rattle.protocol.specs.declared.event.WorldEvent.{WorldEvent}
use Rattle.protocol.specs.declared.event.WorldEvent.TheVariants.{Take, Commit, Post, Deliver, Crash, Restart}
use Rattle.safety.specs.Strangers.{AreStrange, in_bag, opening_among}
use Rattle.safety.proofs.AgreementOfNodes.CausalHistories.{Causal, CausalAmong, all_nodes}
use Rattle.units.proofs.Lists.OneValue.{clash}
use Rattle.safety.proofs.MovesAndHistories.LongerHistories.{made_history, sends_append, got_append, got_more}
use Rattle.safety.proofs.MovesAndHistories.NewestTransitions.{Got}
use Rattle.units.proofs.Lists.Membership.{In, In_cases, In_map, In_slice_get}
use Rattle.units.proofs.Lists.Positions.{left_empty, contains_in, In_contains}
use Rattle.safety.proofs.MovesAndHistories.MessageSenders.{sender_sends}
use Rattle.safety.proofs.WorldLemmas.StationsAfterPut.{at, found_at_node, at_put, at_elsewhere}

-- the message was sent, if its sender is trusted
abbrev pub WasSent : (Node → Bool) → World → Message → Type 0
WasSent trusted w m = trusted m.from ≡ true → In m (sends (committed_of w m.from))

pub record SoundAmong (trusted : Node → Bool) (w : World) : Type 0 where
  pub posted : (p : Posted) → In p w.bag → WasSent trusted w p.message
  pub caused : (n : Node) (m : Message) → Got (live_of w n) m → WasSent trusted w m

abbrev pub Sound : World → Type 0
Sound w = SoundAmong all_nodes w

-- an order is no message
pub order_is_no_message : (w : World) (n : Node) (i : Input) → is_order w n i ≡ true → (m : Message) (moment : Moment) → i ≡ Received m moment → ⊥
order_is_no_message w n i order m moment e = never n (subst (λ z. is_order w n z ≡ true) e order)
  where
    never : (k : Node) → is_order w k (Received m moment) ≡ true → ⊥
    never Itl h = cc (h)
    never (Registry c) h = cc (h)

-- a message that a running node posts was sent
sent_fair : (w : World) (n : Node) (key : ℕ) (o : Option Station) → station w n ≡ o → (m : Message) → option_and_then (sent w.scheme key) o ≡ Some m → In m (sends (committed_of w m.from))
sent_fair w n key None is m e = absurd (cc (e))
sent_fair w n key (Some s) is m e =
    let node : s.node ≡ n = found_at_node n w.stations s is in
    let got = found s.runs e in
    let member : In m (sends (history w.scheme s.node s.committed)) = In_slice_get (sends (history w.scheme s.node s.committed)) key m got in
    let from : m.from ≡ s.node = sender_sends w.scheme s.node (history w.scheme s.node s.committed) (made_history w.scheme s.node s.committed) m member in
    let there : In m (sends (committed_of w n)) = subst (λ o. In m (sends (history w.scheme n (committed_part o)))) (sym is) (subst (λ z. In m (sends (history w.scheme z s.committed))) node member) in
    subst (λ z. In m (sends (committed_of w z))) (sym (from ∙ node)) there
  where
    found : (b : Bool) → cond b (slice_get (sends (history w.scheme s.node s.committed)) key) None ≡ Some m → slice_get (sends (history w.scheme s.node s.committed)) key ≡ Some m
    found true h = h
    found false h = absurd (cc (h))

-- what a turn of a station keeps: it commits more and takes nothing back, and what it has received was sent
record Keeps (trusted : Node → Bool) (w : World) (s : Station) (t : Station) : Type 0 where
  pub node : t.node ≡ s.node
  pub more : List Input
  pub grown : t.committed ≡ s.committed ++ more
  pub caused : (m : Message) → Got (history w.scheme s.node (journal t)) m → WasSent trusted w m

module _ {trusted : Node → Bool} where
  module _ (w : World) (sound : SoundAmong trusted w) (n : Node) (s : Station) (is : station w n ≡ Some s) where
    own : s.node ≡ n
    own = found_at_node n w.stations s is

    -- what the station received was sent
    own_caused : (m : Message) → Got (history w.scheme s.node (journal s)) m → WasSent trusted w m
    own_caused m g =
        sound.caused n m (subst (λ o. Got (history w.scheme n (whole o)) m) (sym is) (subst (λ z. Got (history w.scheme z (journal s)) m) own g))

    still : Keeps trusted w s s
    still = record { node = refl; more = []; grown = sym (append-nil s.committed); caused = own_caused }

    keeps_if : (b : Bool) (t : Turn) → Keeps trusted w s t.station → Keeps trusted w s (cond b t (rests s NotPossible)).station
    keeps_if true t k = k
    keeps_if false t k = still

    keeps_answered : (i : Input) (v : Verdict) → ((m : Message) (moment : Moment) → i ≡ Received m moment → WasSent trusted w m) → Keeps trusted w s (answered s i v).station
    keeps_answered i (IsRecorded xs) fair = record {
      node = refl;
      more = [];
      grown = sym (append-nil s.committed);
      caused = λ m g.
          elim (got_more w.scheme s.node (journal s) i m (subst (λ j. Got (history w.scheme s.node j) m) (sym (append_assoc s.committed s.tail (i ∷ []))) g)) [
            | inl new ↦ fair m new.0 new.1
            | inr old ↦ own_caused m old
          ];
    }
    keeps_answered i IsRepeat fair = still
    keeps_answered i IsLate fair = still
    keeps_answered i (IsRefused code) fair = still

    keeps_take : (i : Input) → ((m : Message) (moment : Moment) → i ≡ Received m moment → WasSent trusted w m) → Keeps trusted w s (take_input w.scheme i s).station
    keeps_take i fair = keeps_if s.runs (answered s i (verdict w.scheme s.node (history w.scheme s.node (journal s)) i)) (keeps_answered i (verdict w.scheme s.node (history w.scheme s.node (journal s)) i) fair)

    keeps_commit : (count : ℕ) → Keeps trusted w s (commit count s).station
    keeps_commit count =
        keeps_if s.runs (cond (nat_le count (length s.tail)) done (rests s NotPossible)) (keeps_if (nat_le count (length s.tail)) done (record {
          node = refl;
          more = take count s.tail;
          grown = refl;
          caused = λ m g. own_caused m (subst (λ j. Got (history w.scheme s.node j) m) (append_assoc s.committed (take count s.tail) (drop count s.tail) ∙ ap (λ z. s.committed ++ z) (take-append-drop count s.tail)) g);
        }))
      where
        done : Turn
        done = record {
          station = record s { committed = s.committed ++ take count s.tail; tail = drop count s.tail };
          outcome = Done;
        }

    keeps_crash : (kept : ℕ) → Keeps trusted w s (crash kept s).station
    keeps_crash kept =
        keeps_if s.runs (cond (nat_le kept (length s.tail)) done (rests s NotPossible)) (keeps_if (nat_le kept (length s.tail)) done (record {
          node = refl;
          more = take kept s.tail;
          grown = refl;
          caused = λ m g.
              let front = subst (λ j. Got (history w.scheme s.node j) m) (append-nil (s.committed ++ take kept s.tail)) g in
              let all = got_append w.scheme s.node (s.committed ++ take kept s.tail) (drop kept s.tail) m front in
              own_caused m (subst (λ j. Got (history w.scheme s.node j) m) (append_assoc s.committed (take kept s.tail) (drop kept s.tail) ∙ ap (λ z. s.committed ++ z) (take-append-drop kept s.tail)) all);
        }))
      where
        done : Turn
        done = record {
          station = record s { committed = s.committed ++ take kept s.tail; tail = []; runs = false };
          outcome = Done;
        }

    keeps_restart : Keeps trusted w s (restart s).station
    keeps_restart = go s.runs
      where
        go : (b : Bool) → Keeps trusted w s (cond b (rests s NotPossible) (record { station = record s { runs = true }; outcome = Done })).station
        go true = still
        go false = record { node = refl; more = []; grown = sym (append-nil s.committed); caused = own_caused }

    -- the world after the turn
    committed_after : (t : Station) → Keeps trusted w s t → (m : Node) (x : Message) → In x (sends (committed_of w m)) → In x (sends (committed_of (put w t) m))
    committed_after t k m x h =
        elim (cases_Bool (same_node n m)) [
          | inl y ↦
              let same : n ≡ m = node_of_same n m y in
              let before : In x (sends (history w.scheme m s.committed)) = subst (λ o. In x (sends (history w.scheme m (committed_part o)))) (subst (λ z. station w z ≡ Some s) same is) h in
              let after : station (put w t) m ≡ Some t = subst (λ z. station (put w t) z ≡ Some t) same (at_put n w.stations s t is (k.node ∙ own)) in
              subst (λ o. In x (sends (history w.scheme m (committed_part o)))) (sym after)
              (subst (λ j. In x (sends (history w.scheme m j))) (sym k.grown) (sends_append w.scheme m s.committed k.more x before))
          | inr d ↦ subst (λ o. In x (sends (history w.scheme m (committed_part o)))) (sym (at_elsewhere n m w.stations t (k.node ∙ own) d)) h
        ]

    sound_put : (t : Station) → Keeps trusted w s t → SoundAmong trusted (put w t)
    sound_put t k = record {
      posted = λ p i trust. committed_after t k p.message.from p.message (sound.posted p i trust);
      caused = λ m x g.
          elim (cases_Bool (same_node n m)) [
            | inl y ↦
                let same : n ≡ m = node_of_same n m y in
                let after : station (put w t) m ≡ Some t = subst (λ z. station (put w t) z ≡ Some t) same (at_put n w.stations s t is (k.node ∙ own)) in
                let here : Got (history w.scheme m (journal t)) x = subst (λ o. Got (history w.scheme m (whole o)) x) after g in
                λ trust. committed_after t k x.from x (k.caused x (subst (λ z. Got (history w.scheme z (journal t)) x) (sym same ∙ sym own) here) trust)
            | inr d ↦ λ trust. committed_after t k x.from x (sound.caused m x (subst (λ o. Got (history w.scheme m (whole o)) x) (at_elsewhere n m w.stations t (k.node ∙ own) d) g) trust)
          ];
    }

  -- a turn of the node that is found, if one is
  sound_at : (w : World) → SoundAmong trusted w → (n : Node) (o : Option Station) (f : Station → Turn) → station w n ≡ o → ((s : Station) → station w n ≡ Some s → Keeps trusted w s (f s).station) → SoundAmong trusted (at_node w o f).world
  sound_at w sound n None f is keeps = sound
  sound_at w sound n (Some s) f is keeps = sound_put w sound n s is (f s).station (keeps s is)

  -- a message of a committed record goes into the bag
  sound_posted : (w : World) → SoundAmong trusted w → (n : Node) (key : ℕ) (o : Option Message) → ((m : Message) → o ≡ Some m → WasSent trusted w m) → SoundAmong trusted (posted w n key o).world
  sound_posted w sound n key None fair = sound
  sound_posted w sound n key (Some m) fair = record {
    posted = λ p i.
        elim (In_cases p w.bag (record { node = n; key = key; message = m } ∷ []) i) [
          | inl old ↦ sound.posted p old
          | inr new ↦ only p new
        ];
    caused = sound.caused;
  }
    where
      only : (p : Posted) → In p (record { node = n; key = key; message = m } ∷ []) → WasSent trusted w p.message
      only p (inl e) = subst (λ (z : Posted). WasSent trusted w z.message) e (fair m refl)
      only p (inr h) = absurd h

  deliver_sound : (w : World) → SoundAmong trusted w → (moment : Moment) (o : Option Posted) → ((p : Posted) → o ≡ Some p → In p w.bag) → SoundAmong trusted (deliver w moment o).world
  deliver_sound w sound moment None there = sound
  deliver_sound w sound moment (Some p) there =
      sound_at w sound p.message.to (station w p.message.to) (take_input w.scheme (Received p.message moment)) refl
      (λ s is. keeps_take w sound p.message.to s is (Received p.message moment) (fair p (sound.posted p (there p refl))))
    where
      fair : (p : Posted) → WasSent trusted w p.message → (m : Message) (at : Moment) → Received p.message moment ≡ Received m at → WasSent trusted w m
      fair p h m at e = let same : p.message ≡ m = cc (e) in subst (λ z. WasSent trusted w z) same h

  pub step_sound : (w : World) (e : WorldEvent) → SoundAmong trusted w → SoundAmong trusted (step w e).world
  unfolding step
  step_sound w (Take n i) sound = go (is_order w n i) refl
    where
      go : (b : Bool) → is_order w n i ≡ b → SoundAmong trusted (cond b (at_node w (station w n) (take_input w.scheme i)) (stays w NotPossible)).world
      go true order = sound_at w sound n (station w n) (take_input w.scheme i) refl (λ s is. keeps_take w sound n s is i (λ m at e. absurd (order_is_no_message w n i order m at e)))
      go false order = sound
  step_sound w (Commit n count) sound = sound_at w sound n (station w n) (commit count) refl (λ s is. keeps_commit w sound n s is count)
  step_sound w (Post n key) sound = sound_posted w sound n key (option_and_then (sent w.scheme key) (station w n)) (λ m e trust. sent_fair w n key (station w n) refl m e)
  step_sound w (Deliver index moment) sound = deliver_sound w sound moment (slice_get w.bag index) (λ p e. In_slice_get w.bag index p e)
  step_sound w (Crash n kept) sound = sound_at w sound n (station w n) (crash kept) refl (λ s is. keeps_crash w sound n s is kept)
  step_sound w (Restart n) sound = sound_at w sound n (station w n) restart refl (λ s is. keeps_restart w sound n s is)

  pub run_sound : (w : World) (events : List WorldEvent) → SoundAmong trusted w → SoundAmong trusted (run w events)
  run_sound w [] sound = sound
  run_sound w (e ∷ es) sound = run_sound (step w e).world es (step_sound w e sound)

-- ---- the opening world

opening_empty : (n : Node) (members : List SchemeRegistry) → whole (at n (map (λ m. opening_station (Registry m.code)) members)) ≡ []
opening_empty n [] = refl
opening_empty n (m ∷ ms) = go (same_node (Registry m.code) n) (opening_empty n ms)
  where
    go : (b : Bool) → whole (at n (map (λ k. opening_station (Registry k.code)) ms)) ≡ [] → whole (cond b (Some (opening_station (Registry m.code))) (at n (map (λ k. opening_station (Registry k.code)) ms))) ≡ []
    go true rest = refl
    go false rest = rest

pub no_journal : (scheme : Scheme) (n : Node) → whole (station (opening scheme) n) ≡ []
no_journal scheme n = go (same_node Itl n)
  where
    go : (b : Bool) → whole (cond b (Some (opening_station Itl)) (at n (map (λ m. opening_station (Registry m.code)) scheme.members))) ≡ []
    go true = refl
    go false = opening_empty n scheme.members

pub none_committed : (scheme : Scheme) (n : Node) → committed_part (station (opening scheme) n) ≡ []
none_committed scheme n = go (station (opening scheme) n) (no_journal scheme n)
  where
    go : (o : Option Station) → whole o ≡ [] → committed_part o ≡ []
    go None e = refl
    go (Some s) e = left_empty s.committed s.tail e

pub opening_sound_among : (trusted : Node → Bool) (scheme : Scheme) (ms : List Message) → AreStrange trusted ms → SoundAmong trusted (opening_among scheme ms)
opening_sound_among trusted scheme ms strange = record {
  posted = λ p i trust.
      let g = In_map (λ (m : Message). in_bag m) p ms i in
      let from : g.0.from ≡ p.message.from = ap (λ (z : Posted). z.message.from) g.2 in
      clash (trusted g.0.from) (subst (λ z. trusted z ≡ true) (sym from) trust) (strange g.0 (contains_in ms g.0 g.1));
  caused = λ n m g. absurd (subst (λ j. Got (history scheme n j) m) (no_journal scheme n) g);
}

-- without strangers this is the opening world
pub opening_sound : (scheme : Scheme) → Sound (opening scheme)
opening_sound scheme = opening_sound_among all_nodes scheme [] (λ m i. absurd (In_contains [] m i))

-- ---- families of histories

-- what the committed journal sends, the live one sends
pub live_sends : (w : World) (n : Node) (m : Message) → In m (sends (committed_of w n)) → In m (sends (live_of w n))
live_sends w n m h = go (station w n) h
  where
    go : (o : Option Station) → In m (sends (history w.scheme n (committed_part o))) → In m (sends (history w.scheme n (whole o)))
    go None i = i
    go (Some s) i = sends_append w.scheme n s.committed s.tail m i

-- what the committed journal received, the live one received
live_got : (w : World) (n : Node) (m : Message) → Got (committed_of w n) m → Got (live_of w n) m
live_got w n m h = go (station w n) h
  where
    go : (o : Option Station) → Got (history w.scheme n (committed_part o)) m → Got (history w.scheme n (whole o)) m
    go None i = i
    go (Some s) i = got_append w.scheme n s.committed s.tail m i

pub live_causal : {trusted : Node → Bool} (w : World) → SoundAmong trusted w → CausalAmong trusted w.scheme (live_of w)
live_causal w sound = record {
  made = λ n. made_history w.scheme n (whole (station w n));
  sent = λ n m g trust. live_sends w m.from m (sound.caused n m g trust);
}

pub committed_causal : {trusted : Node → Bool} (w : World) → SoundAmong trusted w → CausalAmong trusted w.scheme (committed_of w)
committed_causal w sound = record {
  made = λ n. made_history w.scheme n (committed_part (station w n));
  sent = λ n m g trust. sound.caused n m (live_got w n m g) trust;
}
