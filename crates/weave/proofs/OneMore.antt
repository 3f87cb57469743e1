-- A world in which one node has recorded one input more, and has committed it.
use Rattle.std.proofs.Common.{◌≡◌, ℕ, ◌≤◌, List, [], ◌∷◌, ◌++◌, Bool, true, false, cond, Option, Some, None, inl, inr, refl, sym, ap, subst, ◌∙◌, length, arith}
use Rattle.std.specs.Prelude.{is_some, slice_get, Contains}
use Rattle.std.proofs.lemmas.Bool.{cases_Bool}
use Rattle.std.proofs.lemmas.List.{append-nil}
use Rattle.std.proofs.Common.{append_assoc, length-append}
use Rattle.units.proofs.Same.{node_of_same}
use Rattle.units.specs.Code.{same_node}
use Rattle.units.specs.declared.code.Node.{Node}
use Rattle.wire.specs.declared.input.Input.{Input}
use Rattle.wire.specs.declared.message.Message.{Message}
use Rattle.scheme.specs.declared.registries.Scheme.{Scheme}
use Rattle.protocol.proofs.Histories.{sends_snoc}
use Rattle.protocol.proofs.Replaying.{slice_get_front}
use Rattle.protocol.specs.Claims.{committed_part, committed_of}
use Rattle.protocol.specs.Deciding.{Verdict, IsRecorded, IsRepeat, IsLate, IsRefused}
use Rattle.protocol.specs.History.{Transition, sends, messages_of}
use Rattle.protocol.specs.Registries.{is_node}
use Rattle.protocol.specs.Verdict.{verdict, history, transitions_made}
use Rattle.protocol.specs.WayOut.{IsIdle}
use Rattle.protocol.specs.Weave.{ArePrefixes, Gives, IsQuiet}
use Rattle.protocol.specs.World.{World, Station, Turn, Stepped, station, journal, rests, answered, take_input, at_node, commit, step, run}
use Rattle.protocol.specs.declared.event.Outcome.TheVariants.{Recorded, NotPossible}
use Rattle.protocol.specs.declared.event.Posted.{Posted}
use Rattle.protocol.specs.declared.event.WorldEvent.{WorldEvent}
use Rattle.protocol.specs.declared.event.WorldEvent.TheVariants.{Commit}
use Rattle.safety.proofs.WorldLemmas.NodesWithStation.{AllPlaced}
use Rattle.safety.proofs.WorldLemmas.QuietWorlds.{Grown, record_on}
use Rattle.safety.proofs.WorldLemmas.SchemesKept.{run_scheme}
use Rattle.safety.proofs.WorldLemmas.StationsAfterPut.{found_at_node}
use Rattle.world.proofs.Worlds.{at_node_bag}
use Rattle.weave.specs.Following.{committed_at}
use Rattle.weave.specs.Steps.{IsPostedTo, sent_count}
use Rattle.weave.proofs.Turns.{taken, gives_step}

-- the node has committed one input more, and all else is as it was
pub record Advances (w v : World) (n : Node) (input : Input) : Type 0 where
  pub node : is_node w.scheme n ≡ true
  pub scheme : v.scheme ≡ w.scheme
  pub bag : v.bag ≡ w.bag
  pub at : Station
  pub here : station v n ≡ Some at
  pub committed : at.committed ≡ committed_at w n ++ input ∷ []
  pub runs : at.runs ≡ true
  pub settled : at.tail ≡ []
  pub elsewhere : (m : Node) → same_node n m ≡ false → station v m ≡ station w m

-- ---- the world after the events

commit_bag : (w : World) (n : Node) (count : ℕ) → (step w (Commit n count)).world.bag ≡ w.bag
unfolding step
commit_bag w n count = at_node_bag w (station w n) (commit count)

-- ---- the verdict

answered_says : (s : Station) (input : Input) (v : Verdict) (place : ℕ) → (answered s input v).outcome ≡ Recorded place → (xs : List Transition) × (v ≡ IsRecorded xs)
answered_says s input (IsRecorded xs) place e = (xs, refl)
answered_says s input IsRepeat place e = absurd (cc (e))
answered_says s input IsLate place e = absurd (cc (e))
answered_says s input (IsRefused code) place e = absurd (cc (e))

running_says : (s : Station) (b : Bool) (t : Turn) (place : ℕ) → (cond b t (rests s NotPossible)).outcome ≡ Recorded place → t.outcome ≡ Recorded place
running_says s true t place e = e
running_says s false t place e = absurd (cc (e))

pub take_says : (scheme : Scheme) (n : Node) (s : Station) (input : Input) (place : ℕ) → s.node ≡ n → s.tail ≡ [] → (take_input scheme input s).outcome ≡ Recorded place
    → (xs : List Transition) × (verdict scheme n (history scheme n s.committed) input ≡ IsRecorded xs)
take_says scheme n s input place own settled e =
    let v = verdict scheme s.node (history scheme s.node (journal s)) input in
    let says = answered_says s input v place (running_says s s.runs (answered s input v) place e) in
    let whole : journal s ≡ s.committed = ap (λ zs. s.committed ++ zs) settled ∙ append-nil s.committed in
    (says.0, subst (λ z. verdict scheme z (history scheme z s.committed) input ≡ IsRecorded says.0) own (subst (λ zs. verdict scheme s.node (history scheme s.node zs) input ≡ IsRecorded says.0) whole says.1))

recorded_there : (w : World) (o : Option Station) (f : Station → Turn) (place : ℕ) → (at_node w o f).outcome ≡ Recorded place → is_some o ≡ true
recorded_there w None f place e = absurd (cc (e))
recorded_there w (Some s) f place e = refl

-- the event and a commit
pub advances : (w : World) (e : WorldEvent) (n : Node) (input : Input) (place : ℕ) → AllPlaced w → IsQuiet w → Gives w e n input → (step w e).outcome ≡ Recorded place
    → Advances w (run w (e ∷ Commit n 1 ∷ [])) n input
advances w e n input place all quiet gives recorded = record {
  node = node;
  scheme = run_scheme w (e ∷ Commit n 1 ∷ []);
  bag = commit_bag (step w e).world n 1 ∙ ap (λ (z : Stepped). z.world.bag) first ∙ at_node_bag w (station w n) (take_input w.scheme input);
  at = g.at;
  here = g.here;
  committed = g.committed;
  runs = g.idle.0;
  settled = g.idle.1;
  elsewhere = g.elsewhere;
}
  where
    first : step w e ≡ taken w n input
    first = gives_step w e n input place gives recorded

    came : (taken w n input).outcome ≡ Recorded place
    came = subst (λ (z : Stepped). z.outcome ≡ Recorded place) first recorded

    node : is_node w.scheme n ≡ true
    node = sym (all n) ∙ recorded_there w (station w n) (take_input w.scheme input) place came

    idle : IsIdle w n
    idle = quiet.idle n node

    says : (xs : List Transition) × (verdict w.scheme n (history w.scheme n idle.at.committed) input ≡ IsRecorded xs)
    says = take_says w.scheme n idle.at input place (found_at_node n w.stations idle.at idle.is) idle.settled (subst (λ o. (at_node w o (take_input w.scheme input)).outcome ≡ Recorded place) idle.is came)

    g : Grown w (e ∷ Commit n 1 ∷ []) n input
    g = record_on w n idle.at input says.0 e idle.is (idle.runs, idle.settled) says.1 (ap (λ (z : Stepped). z.world) first)

-- ---- consequences

module _ (w v : World) (n : Node) (input : Input) (a : Advances w v n input) where
  pub committed_here : committed_at v n ≡ committed_at w n ++ input ∷ []
  committed_here = ap committed_part a.here ∙ a.committed

  pub committed_elsewhere : (m : Node) → same_node n m ≡ false → committed_at v m ≡ committed_at w m
  committed_elsewhere m other = ap committed_part (a.elsewhere m other)

  sent_here : (ms : List Message) × (sends (committed_of v n) ≡ sends (committed_of w n) ++ ms)
  sent_here = (
    messages_of (transitions_made (verdict w.scheme n (committed_of w n) input)),
    ap (λ (z : Scheme). sends (history z n (committed_at v n))) a.scheme ∙ ap (λ xs. sends (history w.scheme n xs)) committed_here ∙ sends_snoc w.scheme n (committed_at w n) input,
  )

  sent_elsewhere : (m : Node) → same_node n m ≡ false → sends (committed_of v m) ≡ sends (committed_of w m)
  sent_elsewhere m other = ap (λ (z : Scheme). sends (history z m (committed_at v m))) a.scheme ∙ ap (λ xs. sends (history w.scheme m xs)) (committed_elsewhere m other)

  -- no node has sent less
  pub sent_more : (m : Node) → sent_count w m ≤ sent_count v m
  sent_more m =
      elim (cases_Bool (same_node n m)) [
        | inl y ↦ subst (λ z. sent_count w z ≤ sent_count v z) (node_of_same n m y) (omega (arith, ap length sent_here.1, length-append (sends (committed_of w n)) sent_here.0))
        | inr other ↦ omega (arith, ap length (sent_elsewhere m other))
      ]

  idle_still : IsQuiet w → (m : Node) → is_node v.scheme m ≡ true → IsIdle v m
  idle_still quiet m node =
      elim (cases_Bool (same_node n m)) [
        | inl y ↦ subst (IsIdle v) (node_of_same n m y) (record { at = a.at; is = a.here; runs = a.runs; settled = a.settled })
        | inr other ↦
            let i = quiet.idle m (subst (λ (z : Scheme). is_node z m ≡ true) a.scheme node) in
            record { at = i.at; is = a.elsewhere m other ∙ i.is; runs = i.runs; settled = i.settled }
      ]

  -- all but what the input has sent is posted
  pub posted_to : IsQuiet w → (key : ℕ) → key ≤ sent_count w n → IsPostedTo v n key
  posted_to quiet key few = record {
    idle = idle_still quiet;
    own = λ k x below is.
        subst (λ (b : List Posted). Contains b (record { node = n; key = k; message = x })) (sym a.bag)
        (quiet.posted n k x (sym (slice_get_front (sends (committed_of w n)) sent_here.0 k (omega arith)) ∙ sym (ap (λ ms. slice_get ms k) sent_here.1) ∙ is));
    others = λ m k x other is.
        subst (λ (b : List Posted). Contains b (record { node = m; key = k; message = x })) (sym a.bag)
        (quiet.posted m k x (sym (ap (λ ms. slice_get ms k) (sent_elsewhere m other)) ∙ is));
  }

  -- the committed journals are first records still
  pub front_on : (journals : Node → List Input) (rest : List Input) → journals n ≡ committed_at w n ++ input ∷ rest → ArePrefixes (committed_at w) journals → ArePrefixes (committed_at v) journals
  front_on journals rest left front m =
      elim (cases_Bool (same_node n m)) [
        | inl y ↦
            subst (λ z. (more : List Input) × (journals z ≡ committed_at v z ++ more)) (node_of_same n m y)
            (rest, left ∙ sym (append_assoc (committed_at w n) (input ∷ []) rest) ∙ ap (λ xs. xs ++ rest) (sym committed_here))
        | inr other ↦ ((front m).0, (front m).1 ∙ ap (λ xs. xs ++ (front m).0) (sym (committed_elsewhere m other)))
      ]
