-- The result of following, once no node is pending: the journals are gone through, or no events lead to them.
use Rattle.std.proofs.Common.{◌≡◌, ℕ, ◌<◌, ◌≤◌, List, [], ◌∷◌, ◌++◌, true, Some, None, Ok, inl, inr, sym, ap, subst, ◌∙◌, length, map, take, arith, length-append, append-nil, append_assoc}
use Rattle.std.specs.Prelude.{slice_get, slice_index_or, ◌⊎◌}
use Rattle.std.proofs.lemmas.Bool.{cases_Bool}
use Rattle.std.proofs.lemmas.List.{append_cancel_left, nil_from_length}
use Rattle.std.proofs.lemmas.Option.{slice_get_within}
use Rattle.units.specs.declared.code.Node.{Node}
use Rattle.status.specs.declared.id.TransactionId.{TransactionId}
use Rattle.wire.specs.declared.input.Input.{Input}
use Rattle.scheme.specs.declared.registries.Scheme.{Scheme}
use Rattle.protocol.specs.Claims.{DeliversWelcome, committed_of, committed_part, live_of, whole}
use Rattle.protocol.specs.Cores.{answer, answer_of}
use Rattle.protocol.specs.Headline.{IsSafe}
use Rattle.protocol.specs.Registries.{is_node, nodes, index_of}
use Rattle.protocol.specs.WayOut.{WayOut}
use Rattle.protocol.specs.Weave.{Gives, IsQuiet, IsStuck, Projects, uncommitted}
use Rattle.protocol.specs.World.{World, Station, Stepped, at_node, opening, run, station, step, take_input}
use Rattle.protocol.specs.declared.event.Outcome.TheVariants.{Recorded}
use Rattle.protocol.specs.declared.event.WorldEvent.{WorldEvent}
use Rattle.protocol.specs.declared.node_core.Stepped.TheVariants as stepped
use Rattle.units.proofs.Lists.FirstIndices.{none_from_test}
use Rattle.units.proofs.Lists.OneValue.{one_some}
use Rattle.units.proofs.Lists.Positions.{In_contains}
use Rattle.safety.proofs.Headline.{safe_live, safe_committed, way_out, welcome}
use Rattle.safety.proofs.JournalWeaves.StuckWorlds.{stuck_is_final}
use Rattle.safety.proofs.ListLemmas.FirstFound.{some_is}
use Rattle.safety.proofs.WorldLemmas.SchemesKept.{run_scheme}
use Rattle.safety.proofs.WorldLemmas.StationsAfterPut.{found_at_node}
use Rattle.weave.specs.Ahead.{AreAhead, IsAhead}
use Rattle.weave.specs.Following.{HasFollowed, HasNoEvents, IsFirstLeft, IsStuckAt, IsWoven, committed_at, journal_of}
use Rattle.weave.specs.Kept.{IsFollowing, numbers_of}
use Rattle.weave.specs.Left.{AreDoneBelow, IsLeft, count_at}
use Rattle.weave.specs.Steps.{Follows, HasNodesAlone, Waits, whole_at, without_tails}
use Rattle.weave.specs.declared.following.Following.{Following}
use Rattle.weave.proofs.Followed.{all_placed}
use Rattle.weave.proofs.Lists.{get_at, take_front}
use Rattle.protocol.proofs.NodeIndices.{node_at, node_of_index, node_there, index_within}
use Rattle.weave.proofs.NodeIndices.{counted, journal_is, nodes_alone}
use Rattle.weave.proofs.OneMore.{take_says}
use Rattle.weave.proofs.Rounds.{follows_journals, next_is}
use Rattle.weave.proofs.Tails.{committed_same, settled_is}
use Rattle.weave.proofs.Turns.{gives_step}

first_same : (x y : Input) (xs ys : List Input) → x ∷ xs ≡ y ∷ ys → x ≡ y
first_same x y xs ys e = cc (e)

-- ---- no node is pending

module _ (scheme : Scheme) (journals : Node → List Input) (w : World) (events : List WorldEvent) (numbers : TransactionId → List ℕ) (posted : List ℕ) (f : Follows scheme journals w events numbers posted []) (quiet : IsQuiet w) where
  pub stuck : IsStuck w journals
  stuck n input rest e place left gives recorded =
      elim (f.waits n) [
        | inl h ↦ absurd (In_contains [] n h)
        | inr h ↦ h input rest left e place gives recorded
      ]

  same_scheme : w.scheme ≡ scheme
  same_scheme = ap (λ (z : World). z.scheme) f.led ∙ run_scheme (opening scheme) events

  done_same : (n : Node) → length (journals n) ≤ length (committed_at w n) → committed_at w n ≡ journals n
  done_same n e =
      let rest = f.front n in
      let none : rest.0 ≡ [] = nil_from_length rest.0 (omega (arith, ap length rest.1, length-append (committed_at w n) rest.0)) in
      sym (rest.1 ∙ ap (λ xs. committed_at w n ++ xs) none ∙ append-nil (committed_at w n))

  pub no_events : (n : Node) (place : ℕ) → IsLeft w (λ m. length (journals m)) (nodes scheme) n place → IsStuckAt scheme journals n place × HasNoEvents scheme journals
  no_events n place l = (
    record {
      events = events;
      followed = subst (λ z. HasFollowed z journals) f.led (record { quiet = quiet; front = f.front });
      stuck = subst (λ z. IsStuck z journals) f.led stuck;
      first =
          subst (λ z. IsFirstLeft z journals n place) f.led
          (record {
            at = l.at;
            is = ap (λ (z : Scheme). slice_get (nodes z) l.at) same_scheme ∙ l.is;
            placed = l.placed;
            left = l.left;
            before = λ k m below is. done_same m (l.before k m below (sym (ap (λ (z : Scheme). slice_get (nodes z) k) same_scheme) ∙ is));
          });
    },
    λ others h.
        let same = stuck_is_final w journals quiet f.front stuck others (subst (λ (z : Scheme). Projects z others journals) (sym same_scheme) h) n in
        absurd (omega (arith, l.left, l.placed, ap length same)),
  )

  pub projects : HasNodesAlone scheme journals → AreDoneBelow w (λ n. length (journals n)) (nodes scheme) (length (nodes scheme)) → Projects scheme events journals
  projects alone done = subst (λ (z : World). (n : Node) → (committed_part (station z n) ≡ journals n) × (uncommitted (station z n) ≡ [])) f.led (λ n. both n)
    where
      both : (n : Node) → (committed_part (station w n) ≡ journals n) × (uncommitted (station w n) ≡ [])
      both n =
          elim (cases_Bool (is_node scheme n)) [
            | inl node ↦
                let at = node_at scheme n node in
                let idle = quiet.idle n (ap (λ (z : Scheme). is_node z n) same_scheme ∙ node) in
                (done_same n (done at.0 n (slice_get_within (nodes scheme) at.0 n at.1) at.1), ap uncommitted idle.is ∙ idle.settled)
            | inr outside ↦
                let none : station w n ≡ None =
                none_from_test (station w n) (all_placed scheme journals w events numbers posted [] f n ∙ ap (λ (z : Scheme). is_node z n) same_scheme ∙ outside) in
                (ap committed_part none ∙ sym (alone n outside), ap uncommitted none)
          ]

-- ---- journals that go on beyond what cores record

module _ (scheme : Scheme) (w : World) (n : Node) (quiet : IsQuiet w) (scheme_is : w.scheme ≡ scheme) (node : is_node scheme n ≡ true) where
  -- where the node records the input, its verdict on it is to record it
  answer_of_step : (e : WorldEvent) (input : Input) (place : ℕ) → Gives w e n input → (step w e).outcome ≡ Recorded place → answer scheme n (committed_at w n) input ≡ Ok (stepped.Recorded (length (committed_at w n)))
  answer_of_step e input place gives recorded =
      let idle = quiet.idle n (ap (λ (z : Scheme). is_node z n) scheme_is ∙ node) in
      let came : (at_node w (station w n) (take_input w.scheme input)).outcome ≡ Recorded place = subst (λ (z : Stepped). z.outcome ≡ Recorded place) (gives_step w e n input place gives recorded) recorded in
      let says = take_says w.scheme n idle.at input place (found_at_node n w.stations idle.at idle.is) idle.settled (subst (λ o. (at_node w o (take_input w.scheme input)).outcome ≡ Recorded place) idle.is came) in
      subst (λ (z : Scheme). answer z n (committed_at w n) input ≡ Ok (stepped.Recorded (length (committed_at w n)))) scheme_is
      (subst (λ o. answer w.scheme n (committed_part o) input ≡ Ok (stepped.Recorded (length (committed_part o)))) (sym idle.is) (ap (answer_of (length idle.at.committed)) says.1))

  waits_beyond : (js ks : Node → List Input) → IsAhead scheme n (js n) (ks n) → (rest : List Input) × (ks n ≡ committed_at w n ++ rest) → Waits w ks n → Waits w js n
  waits_beyond js ks a front waits input rest left e place gives recorded = go front.0 front.1
    where
      go : (r : List Input) → ks n ≡ committed_at w n ++ r → ⊥
      go (y ∷ ys) is =
          let both : committed_at w n ++ input ∷ rest ≡ committed_at w n ++ ((y ∷ ys) ++ a.rest) = sym left ∙ a.is ∙ ap (λ (xs : List Input). xs ++ a.rest) is ∙ append_assoc (committed_at w n) (y ∷ ys) a.rest in
          let same : input ∷ rest ≡ y ∷ (ys ++ a.rest) = append_cancel_left (committed_at w n) (input ∷ rest) ((y ∷ ys) ++ a.rest) both in
          waits y ys is e place (subst (Gives w e n) (first_same input y rest (ys ++ a.rest) same) gives) recorded
      go [] is =
          let all : ks n ≡ committed_at w n = is ∙ append-nil (committed_at w n) in
          elim a.ends [
            | inl none ↦
                let whole : js n ≡ committed_at w n = a.is ∙ ap (λ (xs : List Input). ks n ++ xs) none ∙ append-nil (ks n) ∙ all in
                absurd (omega (arith, ap length (sym left ∙ whole), length-append (committed_at w n) (input ∷ rest)))
            | inr first ↦
                let here : slice_get (js n) (length (committed_at w n)) ≡ Some first.input = ap (λ (xs : List Input). slice_get (js n) (length xs)) (sym all) ∙ first.is in
                let there : slice_get (js n) (length (committed_at w n)) ≡ Some input = ap (λ (xs : List Input). slice_get xs (length (committed_at w n))) left ∙ next_is (committed_at w n) rest input in
                let same : first.input ≡ input = one_some first.input input (sym here ∙ there) in
                let before : take (length (committed_at w n)) (js n) ≡ committed_at w n = ap (take (length (committed_at w n))) left ∙ take_front (committed_at w n) (input ∷ rest) in
                let count : length (ks n) ≡ length (committed_at w n) = ap length all in
                first.refused
                (subst (λ (z : Input). answer scheme n (take (length (ks n)) (js n)) z ≡ Ok (stepped.Recorded (length (ks n)))) (sym same)
                (subst (λ k. answer scheme n (take k (js n)) input ≡ Ok (stepped.Recorded k)) (sym count)
                (subst (λ (xs : List Input). answer scheme n xs input ≡ Ok (stepped.Recorded (length (committed_at w n)))) (sym before) (answer_of_step e input place gives recorded))))
          ]

-- a node's journal is as the core recorded it, or goes on beyond it
abbrev GoesOn : Scheme → (Node → List Input) → (Node → List Input) → Node → Type 0
GoesOn scheme js ks n = (js n ≡ ks n) ⊎ ((is_node scheme n ≡ true) × IsAhead scheme n (js n) (ks n))

follows_beyond : (scheme : Scheme) (js ks : Node → List Input) (w : World) (events : List WorldEvent) (numbers : TransactionId → List ℕ) (posted : List ℕ) (pending : List Node) → IsQuiet w → w.scheme ≡ scheme → ((n : Node) → GoesOn scheme js ks n)
    → Follows scheme ks w events numbers posted pending → Follows scheme js w events numbers posted pending
follows_beyond scheme js ks w events numbers posted pending quiet scheme_is goes f = record {
  led = f.led;
  front = λ n. front_of n (goes n);
  numbered = f.numbered;
  counted = f.counted;
  counts = f.counts;
  waits = λ n. elim (f.waits n) [ inl h ↦ inl h | inr h ↦ inr (waits_of n (goes n) h) ];
}
  where
    front_of : (n : Node) → GoesOn scheme js ks n → (rest : List Input) × (js n ≡ committed_at w n ++ rest)
    front_of n (inl same) = ((f.front n).0, same ∙ (f.front n).1)
    front_of n (inr a) = ((f.front n).0 ++ a.1.rest, a.1.is ∙ ap (λ (xs : List Input). xs ++ a.1.rest) (f.front n).1 ∙ append_assoc (committed_at w n) (f.front n).0 a.1.rest)

    waits_of : (n : Node) → GoesOn scheme js ks n → Waits w ks n → Waits w js n
    waits_of n (inl same) h input rest left = h input rest (sym same ∙ left)
    waits_of n (inr a) h input rest left = waits_beyond scheme w n quiet scheme_is a.0 js ks a.1 (f.front n) h input rest left

goes_on : (scheme : Scheme) (js ks : List (List Input)) → AreAhead scheme js ks → (n : Node) → GoesOn scheme (journal_of scheme js) (journal_of scheme ks) n
goes_on scheme js ks a n =
    elim (cases_Bool (is_node scheme n)) [
      | inl node ↦
          let index = some_is (index_of scheme n) (node_there scheme n ∙ node) in
          let below = index_within scheme n index.0 index.1 in
          let one = a.each index.0 n (slice_index_or js index.0 []) (slice_index_or ks index.0 []) (node_of_index scheme n index.0 index.1)
          (get_at js index.0 [] (omega (arith, below, a.journals_count))) (get_at ks index.0 [] (omega (arith, below, a.recorded_count))) in
          inr (
            node,
            subst (λ (xs : List Input). IsAhead scheme n xs (journal_of scheme ks n)) (sym (journal_is scheme n index.0 index.1 js))
                (subst (λ (xs : List Input). IsAhead scheme n (slice_index_or js index.0 []) xs) (sym (journal_is scheme n index.0 index.1 ks)) one),
          )
      | inr outside ↦ inl (nodes_alone scheme js n outside ∙ sym (nodes_alone scheme ks n outside))
    ]

-- what the core recorded is no longer than the journal
shorter : (scheme : Scheme) (js ks : List (List Input)) (n : Node) → GoesOn scheme (journal_of scheme js) (journal_of scheme ks) n → length (journal_of scheme ks n) ≤ length (journal_of scheme js n)
shorter scheme js ks n (inl same) = omega (arith, ap length same)
shorter scheme js ks n (inr a) = omega (arith, ap length a.1.is, length-append (journal_of scheme ks n) a.1.rest)

-- ---- by what following keeps

module _ (scheme : Scheme) (js ks : List (List Input)) (f : Following) (i : IsFollowing scheme f) (none_pending : f.pending.items ≡ []) (whole_is : (n : Node) → whole_at f.world n ≡ journal_of scheme ks n) (ahead : AreAhead scheme js ks)
    (counts : List ℕ) (counts_are : counts ≡ map (λ j. length j) js) (ns : List Node) (are : ns ≡ nodes scheme) where
  pub scheme_kept : f.world.scheme ≡ scheme
  scheme_kept = ap (λ (z : World). z.scheme) i.follows.follows.led ∙ run_scheme (opening scheme) f.events.items

  pub over : Follows scheme (journal_of scheme js) (without_tails f.world) f.events.items (numbers_of f) f.posted.items []
  over =
      follows_beyond scheme (journal_of scheme js) (journal_of scheme ks) (without_tails f.world) f.events.items (numbers_of f) f.posted.items [] i.quiet scheme_kept (goes_on scheme js ks ahead)
      (follows_journals scheme (whole_at f.world) (journal_of scheme ks) (without_tails f.world) f.events.items (numbers_of f) f.posted.items [] (λ n. sym (whole_is n))
      (subst (λ z. Follows scheme (whole_at f.world) (without_tails f.world) f.events.items (numbers_of f) f.posted.items z) none_pending i.follows.follows))

  pub count_is : (n : Node) → count_at scheme counts n ≡ length (journal_of scheme js n)
  count_is n = ap (λ (ks : List ℕ). count_at scheme ks n) counts_are ∙ counted scheme js n

  pub fault_of : (n : Node) (place : ℕ) → IsLeft f.world (count_at scheme counts) ns n place → IsStuckAt scheme (journal_of scheme js) n place × HasNoEvents scheme (journal_of scheme js)
  fault_of n place l =
      no_events scheme (journal_of scheme js) (without_tails f.world) f.events.items (numbers_of f) f.posted.items over i.quiet n place
      (record {
        at = l.at;
        is = subst (λ (zs : List Node). slice_get zs l.at ≡ Some n) are l.is;
        placed = l.placed ∙ ap length (sym (committed_same f.world n));
        left = omega (arith, l.left, count_is n);
        before = λ k m below is. done m (l.before k m below (subst (λ (zs : List Node). slice_get zs k ≡ Some m) (sym are) is));
      })
    where
      done : (m : Node) → count_at scheme counts m ≤ length (committed_at f.world m) → length (journal_of scheme js m) ≤ length (committed_at (without_tails f.world) m)
      done m few = omega (arith, few, count_is m, ap length (committed_same f.world m))

  module _ (done : AreDoneBelow f.world (count_at scheme counts) ns (length ns)) where
    all_done : AreDoneBelow (without_tails f.world) (λ n. length (journal_of scheme js n)) (nodes scheme) (length (nodes scheme))
    all_done k m below is =
        let few = done k m (subst (λ (zs : List Node). k < length zs) (sym are) below) (subst (λ (zs : List Node). slice_get zs k ≡ Some m) (sym are) is) in
        omega (arith, few, count_is m, ap length (committed_same f.world m))

    pub projected : Projects scheme f.events.items (journal_of scheme js)
    projected = projects scheme (journal_of scheme js) (without_tails f.world) f.events.items (numbers_of f) f.posted.items over i.quiet (nodes_alone scheme js) all_done

    -- nothing is left of a tail
    no_tail : (n : Node) (s : Station) → station f.world n ≡ Some s → s.tail ≡ []
    no_tail n s is =
        let led : committed_at (without_tails f.world) n ≡ journal_of scheme js n = ap (λ (z : World). committed_at z n) i.follows.follows.led ∙ (projected n).0 in
        let mine : s.committed ≡ journal_of scheme js n = sym (ap committed_part is) ∙ sym (committed_same f.world n) ∙ led in
        let all : s.committed ++ s.tail ≡ journal_of scheme ks n = sym (ap whole is) ∙ whole_is n in
        let few = shorter scheme js ks n (goes_on scheme js ks ahead n) in
        nil_from_length s.tail (omega (arith, few, ap length mine, ap length all, length-append s.committed s.tail))

    pub world_is : f.world ≡ run (opening scheme) f.events.items
    world_is = sym (settled_is scheme f.world i.follows.nodes_are no_tail) ∙ i.follows.follows.led

    pub woven_of : IsWoven scheme (journal_of scheme js) f.events.items f.world
    woven_of = record {
      projects = projected;
      world = world_is;
      live = subst (λ (w : World). IsSafe scheme (live_of w)) (sym world_is) (safe_live scheme f.events.items);
      committed = subst (λ (w : World). IsSafe scheme (committed_of w)) (sym world_is) (safe_committed scheme f.events.items);
      welcome = subst DeliversWelcome (sym world_is) (welcome scheme f.events.items);
      way_out = subst WayOut (sym world_is) (way_out scheme f.events.items);
    }
