-- Rounds of worlds are rounds of the families of their committed histories.

use Rattle.safety.proofs.ListLemmas.FirstFound.{some_is}
use Rattle.safety.proofs.SixRounds.RoundsLeft.{RoundsTo, by_statuses, later_on, six_left}
use Rattle.safety.specs.RoundsLeft.{EndsInTime, rounds_left}
use Rattle.safety.proofs.OneTransfer.StagesAtNodes.{Stage}
use Rattle.safety.proofs.MovesAndHistories.NewestTransitions.{newest_id}
use Rattle.safety.proofs.OneRegistry.InitiatorStatuses.{own_statuses}
use Rattle.units.proofs.Lists.OneValue.{one_some}
use Rattle.units.proofs.Same.{same_code-refl}
use Rattle.units.specs.Code.{same_code}
use Rattle.protocol.specs.History.{stands}
use Rattle.safety.specs.Rounds.{HasEnded}
use Rattle.protocol.specs.Claims.{at_registry}
use Rattle.std.proofs.Common.{◌≡◌, List, [], ◌∷◌, ◌++◌, Option, Some, None, inl, inr, refl, sym, ap, subst, ◌∙◌, append_assoc, ℕ, zero, suc, true}
use Rattle.std.proofs.lemmas.Bool.{cases_Bool}
use Rattle.std.proofs.lemmas.List.{append-nil}
use Rattle.units.proofs.Same.{node_of_same}
use Rattle.units.proofs.Lists.Membership.{In}
use Rattle.units.proofs.Lists.Positions.{contains_in}
use Rattle.units.specs.Code.{same_node}
use Rattle.units.specs.declared.code.Node.{Node}
use Rattle.units.specs.declared.code.Node.TheVariants.{Itl, Registry}
use Rattle.status.specs.declared.id.TransactionId.{TransactionId}
use Rattle.wire.specs.declared.input.Input.{Input}
use Rattle.scheme.specs.declared.registries.Scheme.{Scheme}
use Rattle.protocol.proofs.Histories.{history_from_append}
use Rattle.protocol.specs.Claims.{IsEnd, committed_of, committed_part, live_of, whole}
use Rattle.protocol.specs.History.{Entry, Transition, newest, sends, transitions_of}
use Rattle.protocol.specs.Verdict.{history}
use Rattle.protocol.specs.WayOut.{IsOpen}
use Rattle.protocol.specs.World.{World, Station, station, step, run, opening}
use Rattle.protocol.specs.declared.event.WorldEvent.{WorldEvent}
use Rattle.safety.proofs.AgreementOfNodes.CausalHistories.{Causal}
use Rattle.safety.proofs.MovesAndHistories.LongerHistories.{made_history, sends_append}
use Rattle.safety.proofs.WorldLemmas.CommittingEvents.{step_commits}
use Rattle.safety.proofs.WorldLemmas.NodesWithStation.{AllPlaced, Unplaced, opening_placed, run_placed, committed_unplaced, live_unplaced}
use Rattle.safety.proofs.WorldLemmas.QuietWorlds.{run_append}
use Rattle.safety.proofs.WorldLemmas.ReachedWorlds.{reached_sound}
use Rattle.safety.proofs.WorldLemmas.SchemesKept.{run_scheme}
use Rattle.safety.proofs.WorldLemmas.SoundWorlds.{Sound, run_sound, committed_causal, live_causal, live_sends}
use Rattle.safety.specs.Rounds.{HasRounds, IsRound, RoundsEnd}
use Rattle.safety.proofs.SixRounds.SettledMessages.{Settled}
use Rattle.safety.proofs.SixRounds.RoundsOfFamilies.{Family, Later, Round}
use Rattle.safety.proofs.SixRounds.EndedTransfers.{has_ended}
use Rattle.safety.proofs.OneTransfer.StagesAtNodes.{stage, own_offer}
use Rattle.safety.proofs.OneTransfer.EndsThatStay.{end_stays}

-- ---- committed journals grow

abbrev pub Grown : World → World → Node → Type 0
Grown w v n = (more : List Input) × (committed_part (station v n) ≡ committed_part (station w n) ++ more)

grows_once : (w : World) (e : WorldEvent) (n : Node) → Grown w (step w e).world n
grows_once w e n =
    let c = step_commits w e in
    elim (cases_Bool (same_node c.node n)) [
      | inl y ↦ subst (λ z. (more : List Input) × (committed_part (station (step w e).world z) ≡ committed_part (station w z) ++ more)) (node_of_same c.node n y) (c.more, c.here)
      | inr other ↦ ([], c.elsewhere n other ∙ sym (append-nil (committed_part (station w n))))
    ]

pub grows : (w : World) (es : List WorldEvent) (n : Node) → Grown w (run w es) n
grows w [] n = ([], sym (append-nil (committed_part (station w n))))
grows w (e ∷ es) n =
    let a = grows_once w e n in
    let b = grows (step w e).world es n in
    (a.0 ++ b.0, b.1 ∙ ap (λ z. z ++ b.0) a.1 ∙ append_assoc (committed_part (station w n)) a.0 b.0)

longer : (scheme : Scheme) (n : Node) (xs ys zs : List Input) → ys ≡ xs ++ zs → (u : TransactionId) (x : Transition) → IsEnd x.new → newest (transitions_of (history scheme n xs)) u ≡ Some x → newest (transitions_of (history scheme n ys)) u ≡ Some x
longer scheme n xs ys zs e u x end h =
    subst (λ (es : List Entry). newest (transitions_of es) u ≡ Some x) (sym (ap (history scheme n) e ∙ history_from_append scheme n [] xs zs)) (end_stays scheme n (history scheme n xs) zs u x (made_history scheme n xs) end h)

pub later : (w : World) (es : List WorldEvent) → Later (committed_of w) (committed_of (run w es))
later w es = record {
  sent = λ n m h.
      let g = grows w es n in
      subst (λ (z : Scheme). In m (sends (history z n (committed_part (station (run w es) n))))) (sym (run_scheme w es))
      (subst (λ zs. In m (sends (history w.scheme n zs))) (sym g.1) (sends_append w.scheme n (committed_part (station w n)) g.0 m h));
  ended = λ n u x end h.
      let g = grows w es n in
      subst (λ (z : Scheme). newest (transitions_of (history z n (committed_part (station (run w es) n)))) u ≡ Some x) (sym (run_scheme w es))
      (longer w.scheme n (committed_part (station w n)) (committed_part (station (run w es) n)) g.0 g.1 u x end h);
}

whole_more : (o : Option Station) → (more : List Input) × (whole o ≡ committed_part o ++ more)
whole_more None = ([], refl)
whole_more (Some s) = (s.tail, refl)

live_later : (w : World) → Later (committed_of w) (live_of w)
live_later w = record {
  sent = λ n m h. live_sends w n m h;
  ended = λ n u x end h. let g = whole_more (station w n) in longer w.scheme n (committed_part (station w n)) (whole (station w n)) g.0 g.1 u x end h;
}

same_later : (f : Node → List Entry) → Later f f
same_later f = record { sent = λ n m h. h; ended = λ n u x end h. h }

-- ---- worlds that events lead to

record Good (scheme : Scheme) : Type 0 where
  world : World
  same : world.scheme ≡ scheme
  sound : Sound world
  placed : AllPlaced world

module _ (scheme : Scheme) where
  abbrev ran : Good scheme → List WorldEvent → Good scheme
  ran g es = record { world = run g.world es; same = run_scheme g.world es ∙ g.same; sound = run_sound g.world es g.sound; placed = run_placed g.world es g.placed }

  abbrev family : Good scheme → Family scheme
  family g = record {
    all = committed_of g.world;
    causal = subst (λ (z : Scheme). Causal z (committed_of g.world)) g.same (committed_causal g.world g.sound);
    unplaced = subst (λ (z : Scheme). Unplaced z (committed_of g.world)) g.same (committed_unplaced g.world g.placed);
  }

  abbrev live_family : Good scheme → Family scheme
  live_family g = record {
    all = live_of g.world;
    causal = subst (λ (z : Scheme). Causal z (live_of g.world)) g.same (live_causal g.world g.sound);
    unplaced = subst (λ (z : Scheme). Unplaced z (live_of g.world)) g.same (live_unplaced g.world g.placed);
  }

  round : (g : Good scheme) (es : List WorldEvent) → IsRound g.world (run g.world es) → Round scheme (family g) (family (ran g es))
  round g es h = record {
    later = later g.world es;
    settled = λ n m i. subst (λ (z : Scheme). Settled z (committed_of (run g.world es)) m) (run_scheme g.world es ∙ g.same) (h n m (contains_in (sends (committed_of g.world n)) m i));
  }

  joined : (w : World) (events first rest : List WorldEvent) → events ≡ first ++ rest → run w events ≡ run (run w first) rest
  joined w events first rest e = ap (run w) e ∙ run_append w first rest

  -- rounds of worlds are rounds of their families, whatever family comes after them
  rounds_to : (count : ℕ) (g : Good scheme) (events : List WorldEvent) → HasRounds count g.world events → (h : Family scheme) → Later (committed_of (run g.world events)) h.all → RoundsTo scheme count (family g) h
  rounds_to zero g events r h on = later_on (committed_of g.world) (committed_of (run g.world events)) h.all (later g.world events) on
  rounds_to (suc count) g events r h on = (
    family (ran g r.0),
    round g r.0 r.3,
    rounds_to count (ran g r.0) r.1 r.4 h (subst (λ z. Later (committed_of z) h.all) (joined g.world events r.0 r.1 r.2) on),
  )

  -- what is closed in each family after the rounds has ended after them
  ended_by : (g : Good scheme) (count : ℕ) (events : List WorldEvent) → HasRounds count g.world events → (t : TransactionId) → ((h : Family scheme) → RoundsTo scheme count (family g) h → IsOpen h.all t → ⊥)
      → HasEnded (committed_of (run g.world events)) t × HasEnded (live_of (run g.world events)) t
  ended_by g count events r t closed =
      let last = ran g events in (
        has_ended scheme (committed_of last.world) (family last).causal t (closed (family last) (rounds_to count g events r (family last) (same_later (committed_of last.world)))),
        has_ended scheme (live_of last.world) (live_family last).causal t (closed (live_family last) (rounds_to count g events r (live_family last) (live_later last.world))),
      )

-- ---- the laws

abbrev reached : (scheme : Scheme) (events : List WorldEvent) → Good (run (opening scheme) events).scheme
reached scheme events = record { world = run (opening scheme) events; same = refl; sound = reached_sound scheme events; placed = run_placed (opening scheme) events (opening_placed scheme) }

pub six_rounds_end : (scheme : Scheme) (events : List WorldEvent) → RoundsEnd 6 (run (opening scheme) events)
six_rounds_end scheme events more h t k =
    let w = run (opening scheme) events in
    let g = reached scheme events in
    let x = some_is (newest (transitions_of (committed_of w (Registry t.code))) t) k in
    let s = stage w.scheme (committed_of w) (family w.scheme g).causal (family w.scheme g).unplaced t x.0 x.1 in
    ended_by w.scheme g 6 more h t (λ v r. six_left w.scheme t s.0 (family w.scheme g) v r (own_offer w.scheme (committed_of w) (family w.scheme g).causal t x.0 s.0 s.1))

pub ends_in_time : (scheme : Scheme) (events : List WorldEvent) → EndsInTime (run (opening scheme) events)
ends_in_time scheme events t x k is content more h =
    let w = run (opening scheme) events in
    let g = reached scheme events in
    let f = family w.scheme g in
    let s = stage w.scheme (committed_of w) f.causal f.unplaced t x is in
    let named : s.0 ≡ k = one_some s.0 k (sym s.1.content ∙ content) in
    let known : Stage w.scheme (committed_of w) t x k = subst (λ z. Stage w.scheme (committed_of w) t x z) named s.1 in
    let id = newest_id (transitions_of (committed_of w (Registry t.code))) t x is in
    let own = own_statuses w.scheme t.code (committed_of w (Registry t.code)) (f.causal.made (Registry t.code)) x id.0 (subst (λ (z : TransactionId). same_code z.code t.code ≡ true) (sym id.1) (same_code-refl t.code)) in
    let log = stands (transitions_of (committed_of w Itl)) t in
    let acquirer = stands (at_registry (committed_of w) k.acquirer) t in
    ended_by w.scheme g (rounds_left (Some x.new) log acquirer) more h t (λ v r. by_statuses w.scheme t k f v x known x.new refl own log refl acquirer refl r)
