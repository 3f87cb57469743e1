-- A world without its tails: the parts that are the same as in the world, and that committing a record of a tail is
-- taking it and committing it.
use Rattle.std.proofs.Common.{◌≡◌, ℕ, List, [], ◌∷◌, ◌++◌, Bool, true, false, cond, Option, Some, None, Ok, inl, inr, refl, sym, ap, subst, ◌∙◌, length, map, append_assoc, arith}
use Rattle.std.specs.List.{AllByRecursion}
use Rattle.std.specs.Prelude.{is_some, nat_le, option_map, option_and_then}
use Rattle.std.proofs.lemmas.Bool.{cases_Bool, cond-true, cond-false, le-leb}
use Rattle.units.proofs.Same.{node_of_same, same_node-refl}
use Rattle.units.specs.Apart.{Pairwise}
use Rattle.units.specs.Code.{same_node}
use Rattle.units.specs.declared.code.Node.{Node}
use Rattle.wire.specs.declared.input.Input.{Input}
use Rattle.wire.specs.declared.input.Input.TheVariants.{Propose, Request, OpenAccount, CloseAccount, Ack, CleanUp, Eligible, Received}
use Rattle.scheme.specs.declared.registries.Scheme.{Scheme}
use Rattle.protocol.specs.Registries.{nodes}
use Rattle.protocol.specs.Claims.{committed_part, whole}
use Rattle.protocol.specs.Cores.{answer, answer_of}
use Rattle.protocol.specs.Deciding.{Verdict, IsRecorded, IsRepeat, IsLate, IsRefused}
use Rattle.protocol.specs.History.{Transition}
use Rattle.protocol.specs.Verdict.{verdict, history}
use Rattle.protocol.specs.World.{World, Station, Turn, Stepped, station, put, put_station, stays, answered, take_input, commit, sent, at_node, is_order, step, run}
use Rattle.protocol.specs.declared.event.Outcome.TheVariants.{NotPossible, Recorded}
use Rattle.protocol.specs.declared.event.WorldEvent.{WorldEvent}
use Rattle.protocol.specs.declared.event.WorldEvent.TheVariants.{Take, Commit, Post, Deliver, Crash, Restart}
use Rattle.protocol.specs.declared.node_core.Stepped.TheVariants as stepped
use Rattle.units.proofs.Lists.Membership.{In, In_find}
use Rattle.units.proofs.Lists.OneValue.{one_some}
use Rattle.safety.proofs.WorldLemmas.QuietWorlds.{takes}
use Rattle.safety.proofs.WorldLemmas.StationsAfterPut.{at, at_elsewhere, at_put, found_at_node}
use Rattle.protocol.proofs.NodeIndices.{Differ, nodes_differ}
use Rattle.weave.specs.Following.{committed_at}
use Rattle.weave.specs.Steps.{Fits, idle_station, next_message, whole_at, without_tails}
use Rattle.weave.proofs.Turns.{taken, deliver_at}

-- ---- the stations

idle_at : (n : Node) (ss : List Station) → at n (map idle_station ss) ≡ option_map idle_station (at n ss)
idle_at n [] = refl
idle_at n (s ∷ ss) = pick (idle_at n ss) (same_node s.node n)
  where
    pick : at n (map idle_station ss) ≡ option_map idle_station (at n ss) → (b : Bool) → cond b (Some (idle_station s)) (at n (map idle_station ss)) ≡ option_map idle_station (cond b (Some s) (at n ss))
    pick rest true = refl
    pick rest false = rest

pub station_idle : (w : World) (n : Node) → station (without_tails w) n ≡ option_map idle_station (station w n)
station_idle w n = idle_at n w.stations

committed_idle : (o : Option Station) → committed_part (option_map idle_station o) ≡ committed_part o
committed_idle None = refl
committed_idle (Some s) = refl

pub committed_same : (w : World) (n : Node) → committed_at (without_tails w) n ≡ committed_at w n
committed_same w n = ap committed_part (station_idle w n) ∙ committed_idle (station w n)

sent_idle : (scheme : Scheme) (key : ℕ) (o : Option Station) → option_and_then (λ s. sent scheme key s) (option_map idle_station o) ≡ option_and_then (λ s. sent scheme key s) o
sent_idle scheme key None = refl
sent_idle scheme key (Some s) = refl

pub next_same : (w : World) (n : Node) (key : ℕ) → next_message (without_tails w) n key ≡ next_message w n key
next_same w n key = ap (option_and_then (λ s. sent w.scheme key s)) (station_idle w n) ∙ sent_idle w.scheme key (station w n)

-- a station without its tail is one with it
pub raw_station : (o : Option Station) (i : Station) → option_map idle_station o ≡ Some i → (s : Station) × (o ≡ Some s) × (s.runs ≡ i.runs)
raw_station None i e = absurd (cc (e))
raw_station (Some s) i e = (s, refl, ap (λ (z : Station). z.runs) (one_some (idle_station s) i e))

pub whole_none : (w : World) (n : Node) → is_some (station (without_tails w) n) ≡ false → whole_at w n ≡ []
whole_none w n none = go (station w n) (sym (ap is_some (station_idle w n)) ∙ none)
  where
    go : (o : Option Station) → is_some (option_map idle_station o) ≡ false → whole o ≡ []
    go None e = refl
    go (Some s) e = absurd (cc (e))

-- ---- a station put in its place

put_idle : (s : Station) (ss : List Station) → put_station (idle_station s) (map idle_station ss) ≡ map idle_station (put_station s ss)
put_idle s [] = refl
put_idle s (x ∷ xs) = pick (put_idle s xs) (same_node x.node s.node)
  where
    pick : put_station (idle_station s) (map idle_station xs) ≡ map idle_station (put_station s xs) → (b : Bool)
        → cond b (idle_station s ∷ map idle_station xs) (idle_station x ∷ put_station (idle_station s) (map idle_station xs)) ≡ map idle_station (cond b (s ∷ xs) (x ∷ put_station s xs))
    pick rest true = refl
    pick rest false = ap (λ (l : List Station). idle_station x ∷ l) rest

put_twice : (s t : Station) (ss : List Station) → s.node ≡ t.node → put_station t (put_station s ss) ≡ put_station t ss
put_twice s t [] e = refl
put_twice s t (x ∷ xs) e =
    elim (cases_Bool (same_node x.node s.node)) [
      | inl y ↦
          let here : same_node x.node t.node ≡ true = ap (same_node x.node) (sym e) ∙ y in
          let own : same_node s.node t.node ≡ true = ap (λ z. same_node z t.node) (sym (node_of_same x.node s.node y)) ∙ here in
          ap (put_station t) (cond-true (same_node x.node s.node) (s ∷ xs) (x ∷ put_station s xs) y)
          ∙ cond-true (same_node s.node t.node) (t ∷ xs) (s ∷ put_station t xs) own
          ∙ sym (cond-true (same_node x.node t.node) (t ∷ xs) (x ∷ put_station t xs) here)
      | inr m ↦
          let here : same_node x.node t.node ≡ false = ap (same_node x.node) (sym e) ∙ m in
          ap (put_station t) (cond-false (same_node x.node s.node) (s ∷ xs) (x ∷ put_station s xs) m)
          ∙ cond-false (same_node x.node t.node) (t ∷ put_station s xs) (x ∷ put_station t (put_station s xs)) here
          ∙ ap (λ (l : List Station). x ∷ l) (put_twice s t xs e)
          ∙ sym (cond-false (same_node x.node t.node) (t ∷ xs) (x ∷ put_station t xs) here)
    ]

abbrev nodes_in : List Station → List Node
nodes_in ss = map (λ (s : Station). s.node) ss

nodes_put : (t : Station) (xs : List Station) → nodes_in (put_station t xs) ≡ nodes_in xs
nodes_put t [] = refl
nodes_put t (x ∷ xs) =
    elim (cases_Bool (same_node x.node t.node)) [
      | inl y ↦ ap nodes_in (cond-true (same_node x.node t.node) (t ∷ xs) (x ∷ put_station t xs) y) ∙ ap (λ (z : Node). z ∷ nodes_in xs) (sym (node_of_same x.node t.node y))
      | inr m ↦ ap nodes_in (cond-false (same_node x.node t.node) (t ∷ xs) (x ∷ put_station t xs) m) ∙ ap (λ (l : List Node). x.node ∷ l) (nodes_put t xs)
    ]

nodes_turn : (w : World) (o : Option Station) (f : Station → Turn) → nodes_in (at_node w o f).world.stations ≡ nodes_in w.stations
nodes_turn w None f = refl
nodes_turn w (Some s) f = nodes_put (f s).station w.stations

pub commit_nodes : (w : World) (n : Node) → map (λ (s : Station). s.node) (step w (Commit n 1)).world.stations ≡ map (λ (s : Station). s.node) w.stations
unfolding step
commit_nodes w n = nodes_turn w (station w n) (commit 1)

-- ---- a record of the tail is committed

-- the node with one record more, and no tail
abbrev more : Station → Input → Station
more s input = record { node = s.node; committed = s.committed ++ input ∷ []; tail = []; runs = true }

commits_one : (n : Node) (committed rest : List Input) (input : Input)
    → (commit 1 (record { node = n; committed = committed; tail = input ∷ rest; runs = true })).station ≡ record { node = n; committed = committed ++ input ∷ []; tail = rest; runs = true }
commits_one n committed rest input = ap (λ (t : Turn). t.station) (cond-true (nat_le 1 (length (input ∷ rest))) _ _ (le-leb 1 (length (input ∷ rest)) (omega arith)))

commits_first : (s : Station) (input : Input) (rest : List Input) → s.runs ≡ true → s.tail ≡ input ∷ rest → (commit 1 s).station ≡ record { node = s.node; committed = s.committed ++ input ∷ []; tail = rest; runs = true }
commits_first s input rest runs tail =
    ap (λ b. (commit 1 (record { node = s.node; committed = s.committed; tail = s.tail; runs = b })).station) runs
    ∙ ap (λ (l : List Input). (commit 1 (record { node = s.node; committed = s.committed; tail = l; runs = true })).station) tail ∙ commits_one s.node s.committed rest input

module _ (w : World) (n : Node) (s : Station) (input : Input) (is : station w n ≡ Some s) (runs : s.runs ≡ true) where
  pub commit_idle : (rest : List Input) → s.tail ≡ input ∷ rest → without_tails (step w (Commit n 1)).world ≡ put (without_tails w) (more s input)
  unfolding step
  commit_idle rest tail =
      ap (λ o. without_tails (at_node w o (commit 1)).world) is
      ∙ ap (λ (z : Station). without_tails (put w z)) (commits_first s input rest runs tail)
      ∙ ap (λ (l : List Station). record (without_tails w) { stations = l }) (sym (put_idle (record { node = s.node; committed = s.committed ++ input ∷ []; tail = rest; runs = true }) w.stations))

  -- the whole journals stay
  pub commit_whole : (rest : List Input) → s.tail ≡ input ∷ rest → (m : Node) → whole_at (step w (Commit n 1)).world m ≡ whole_at w m
  unfolding step
  commit_whole rest tail m =
      let own : s.node ≡ n = found_at_node n w.stations s is in
      let u : Station = record { node = s.node; committed = s.committed ++ input ∷ []; tail = rest; runs = true } in
      let went : (at_node w (station w n) (commit 1)).world ≡ put w u = ap (λ o. (at_node w o (commit 1)).world) is ∙ ap (put w) (commits_first s input rest runs tail) in
      ap (λ (z : World). whole_at z m) went
      ∙ elim (cases_Bool (same_node n m)) [
        | inl y ↦
            let same : n ≡ m = node_of_same n m y in
            subst (λ z. whole (at z (put_station u w.stations)) ≡ whole (at z w.stations)) same
            (ap whole (at_put n w.stations s u is own) ∙ append_assoc s.committed (input ∷ []) rest ∙ ap (λ (xs : List Input). s.committed ++ xs) (sym tail) ∙ sym (ap whole is))
        | inr other ↦ ap whole (at_elsewhere n m w.stations u own other)
      ]

-- ---- an event that gives the input, in a world whose nodes are idle

order_taken : (w : World) (n : Node) (input : Input) → is_order w n input ≡ true → step w (Take n input) ≡ taken w n input
unfolding step
order_taken w n input order = cond-true (is_order w n input) (taken w n input) (stays w NotPossible) order

order_same : (w : World) (n : Node) (input : Input) → is_order (without_tails w) n input ≡ is_order w n input
order_same w n (Propose o) = refl
order_same w n (Request t) = refl
order_same w n (OpenAccount account) = refl
order_same w n (CloseAccount account) = refl
order_same w n (CleanUp t) = refl
order_same w n (Eligible c may) = refl
order_same w n (Ack key) = refl
order_same w n (Received m moment) = refl

-- what fits the world, fits it without its tails
pub fits_idle : (w : World) (e : WorldEvent) (n : Node) (input : Input) → Fits w e n input → Fits (without_tails w) e n input
fits_idle w (Take m order) n input f = record { gives = f.gives; allowed = order_same w m order ∙ f.allowed }
fits_idle w (Deliver index moment) n input f = record { gives = f.gives; allowed = tt }
fits_idle w (Commit m count) n input f = absurd f.gives
fits_idle w (Post m key) n input f = absurd f.gives
fits_idle w (Crash m kept) n input f = absurd f.gives
fits_idle w (Restart m) n input f = absurd f.gives

pub no_order_idle : (w : World) (n : Node) (input : Input) → is_order w n input ≡ false → is_order (without_tails w) n input ≡ false
no_order_idle w n input none = order_same w n input ∙ none

-- the node takes what fits
pub fits_step : (w : World) (e : WorldEvent) (n : Node) (input : Input) → Fits w e n input → step w e ≡ taken w n input
fits_step w (Take m order) n input f = order_taken w m order f.allowed ∙ ap (λ z. taken w z order) f.gives.0 ∙ ap (taken w n) f.gives.1
fits_step w (Deliver index moment) n input f = deliver_at w index moment n f.gives.0 f.gives.1 f.gives.2 ∙ ap (taken w n) f.gives.3
fits_step w (Commit m count) n input f = absurd f.gives
fits_step w (Post m key) n input f = absurd f.gives
fits_step w (Crash m kept) n input f = absurd f.gives
fits_step w (Restart m) n input f = absurd f.gives

-- a result says the verdict
pub says : (place : ℕ) (v : Verdict) (k : ℕ) → answer_of place v ≡ Ok (stepped.Recorded k) → (xs : List Transition) × (v ≡ IsRecorded xs)
says place (IsRecorded xs) k e = (xs, refl)
says place IsRepeat k e = absurd (cc (e))
says place IsLate k e = absurd (cc (e))
says place (IsRefused code) k e = absurd (cc (e))

module _ (w : World) (n : Node) (s : Station) (input : Input) (e : WorldEvent) (k : ℕ) (is : station w n ≡ Some s) (runs : s.runs ≡ true) (settled : s.tail ≡ []) (fits : Fits w e n input)
    (answer_is : answer w.scheme n s.committed input ≡ Ok (stepped.Recorded k)) where
  own : s.node ≡ n
  own = found_at_node n w.stations s is

  verdict_is : (xs : List Transition) × (verdict w.scheme n (history w.scheme n s.committed) input ≡ IsRecorded xs)
  verdict_is = says (length s.committed) (verdict w.scheme n (history w.scheme n s.committed) input) k answer_is

  turn : Turn
  turn = answered s input (IsRecorded verdict_is.0)

  abbrev t : Station
  t = record s { tail = s.tail ++ input ∷ [] }

  stepped_is : step w e ≡ record { world = put w (record s { tail = s.tail ++ input ∷ [] }); outcome = Recorded (length (s.committed ++ s.tail)) }
  stepped_is =
      fits_step w e n input fits ∙ ap (λ o. at_node w o (take_input w.scheme input)) is
      ∙ ap (λ (z : Turn). record { world = put w z.station; outcome = z.outcome }) (takes w.scheme n s input verdict_is.0 own runs settled verdict_is.1)

  pub is_recorded : (step w e).outcome ≡ Recorded (length (s.committed ++ s.tail))
  is_recorded = ap (λ (z : Stepped). z.outcome) stepped_is

  pub takes_and_commits : run w (e ∷ Commit n 1 ∷ []) ≡ put w (more s input)
  unfolding step
  takes_and_commits =
      let middle : station (put w t) n ≡ Some t = at_put n w.stations s t is own in
      let tail : s.tail ++ input ∷ [] ≡ input ∷ [] = ap (λ (l : List Input). l ++ input ∷ []) settled in
      ap (λ (z : Stepped). (step z.world (Commit n 1)).world) stepped_is
      ∙ ap (λ o. (at_node (put w t) o (commit 1)).world) middle
      ∙ ap (λ (z : Station). put (put w t) z) (commits_first t input [] runs tail)
      ∙ ap (λ (l : List Station). record w { stations = l }) (put_twice t (more s input) w.stations refl)

-- ---- a world without tails is its own

none_beside : (n : Node) (xs : List Station) (s : Station) → AllByRecursion (Differ n) (nodes_in xs) → In s xs → same_node n s.node ≡ false
none_beside n [] s all i = absurd i
none_beside n (x ∷ xs) s all (inl e) = subst (λ (z : Station). same_node n z.node ≡ false) e all.0
none_beside n (x ∷ xs) s all (inr i) = none_beside n xs s all.1 i

later_at : (n : Node) (x : Station) (xs : List Station) (s : Station) → AllByRecursion (Differ x.node) (nodes_in xs) → at n xs ≡ Some s → at n (x ∷ xs) ≡ Some s
later_at n x xs s all is =
    let found = In_find (λ (z : Station). same_node z.node n) xs s is in
    let apart : same_node x.node n ≡ false = ap (same_node x.node) (sym (found_at_node n xs s is)) ∙ none_beside x.node xs s all found.0 in
    cond-false (same_node x.node n) (Some x) (at n xs) apart ∙ is

all_settled : (ss : List Station) → Pairwise Differ (nodes_in ss) → ((n : Node) (s : Station) → at n ss ≡ Some s → s.tail ≡ []) → map idle_station ss ≡ ss
all_settled [] differ settled = refl
all_settled (x ∷ xs) differ settled =
    let here : x.tail ≡ [] = settled x.node x (cond-true (same_node x.node x.node) (Some x) (at x.node xs) (same_node-refl x.node)) in
    ap (λ (l : List Input). record x { tail = l } ∷ map idle_station xs) (sym here)
    ∙ ap (λ (l : List Station). x ∷ l) (all_settled xs differ.1 (λ n s is. settled n s (later_at n x xs s differ.0 is)))

pub settled_is : (scheme : Scheme) (w : World) → map (λ (s : Station). s.node) w.stations ≡ nodes scheme → ((n : Node) (s : Station) → station w n ≡ Some s → s.tail ≡ []) → without_tails w ≡ w
settled_is scheme w nodes_are settled =
    ap (λ (l : List Station). record w { stations = l }) (all_settled w.stations (subst (Pairwise Differ) (sym nodes_are) (nodes_differ scheme)) settled)
