-- The journals of a woven world's stations, in the order of the nodes.
use Rattle.std.proofs.Common.{◌≡◌, ◌∙◌, ℕ, suc, ◌+◌, true, List, [], ◌∷◌, ◌++◌, Option, Some, None, inl, inr, refl, sym, ap, subst, length, map, option_map, arith, append-nil}
use Rattle.std.specs.List.{AllByRecursion, position_from}
use Rattle.std.specs.Option.{option_map_or}
use Rattle.std.specs.Prelude.{slice_index_or}
use Rattle.std.proofs.lemmas.Bool.{cases_Bool, cond-true, cond-false}
use Rattle.std.proofs.lemmas.List.{length-map}
use Rattle.units.proofs.Same.{node_of_same, same_node-refl}
use Rattle.units.specs.Apart.{Pairwise}
use Rattle.units.specs.Code.{same_node}
use Rattle.units.specs.declared.code.Node.{Node}
use Rattle.protocol.specs.Input.{Input}
use Rattle.protocol.specs.Scheme.{Scheme}
use Rattle.units.proofs.Lists.FirstIndices.{index_later}
use Rattle.protocol.specs.Claims.{committed_part, whole}
use Rattle.protocol.specs.Registries.{nodes}
use Rattle.protocol.specs.Weave.{Projects, uncommitted}
use Rattle.protocol.specs.World.{World, Station, journal, opening, station}
use Rattle.protocol.specs.declared.event.WorldEvent.{WorldEvent}
use Rattle.protocol.proofs.NodeIndices.{Differ, nodes_differ, other_way}
use Rattle.safety.proofs.WorldLemmas.SchemesKept.{run_scheme}
use Rattle.safety.proofs.WorldLemmas.StationsAfterPut.{at}
use Rattle.weave.specs.Following.{IsWoven, journal_of}

abbrev nodes_in : List Station → List Node
nodes_in ss = map (λ (s : Station). s.node) ss

-- the journal at the index of that node
abbrev placed : List (List Input) → List Node → Node → List Input
placed js ns n = option_map_or (λ i. slice_index_or js i []) (position_from (λ m. same_node m n) 0 ns) []

-- ---- a node that isn't among these

no_index : (ns : List Node) (n : Node) (k : ℕ) → AllByRecursion (Differ n) ns → position_from (λ m. same_node m n) k ns ≡ None
no_index [] n k all = refl
no_index (m ∷ ms) n k all = cond-false (same_node m n) (Some k) (position_from (λ m. same_node m n) (k + 1) ms) (other_way n m all.0) ∙ no_index ms n (k + 1) all.1

no_station : (ss : List Station) (n : Node) → AllByRecursion (Differ n) (nodes_in ss) → at n ss ≡ None
no_station [] n all = refl
no_station (s ∷ ss) n all = cond-false (same_node s.node n) (Some s) (at n ss) (other_way n s.node all.0) ∙ no_station ss n all.1

-- ---- one after another

later : (j : List Input) (js : List (List Input)) (o : Option ℕ) → option_map_or (λ i. slice_index_or (j ∷ js) i []) (option_map (λ i. i + 1) o) [] ≡ option_map_or (λ i. slice_index_or js i []) o []
later j js None = refl
later j js (Some i) = let e : i + 1 ≡ suc i = omega arith in ap (λ k. slice_index_or (j ∷ js) k []) e

all_placed : (ss : List Station) (js : List (List Input)) → Pairwise Differ (nodes_in ss) → length js ≡ length ss → ((n : Node) → whole (at n ss) ≡ placed js (nodes_in ss) n) → map journal ss ≡ js
all_placed [] [] differ count each = refl
all_placed [] (j ∷ js) differ count each = absurd (cc (count))
all_placed (s ∷ ss) [] differ count each = absurd (cc (count))
all_placed (s ∷ ss) (j ∷ js) differ count each = ap (λ (l : List (List Input)). journal s ∷ l) (all_placed ss js differ.1 (omega (arith, count)) others) ∙ ap (λ (l : List Input). l ∷ js) first
  where
    own : same_node s.node s.node ≡ true
    own = same_node-refl s.node

    first : journal s ≡ j
    first =
        sym (ap whole (cond-true (same_node s.node s.node) (Some s) (at s.node ss) own)) ∙ each s.node
        ∙ ap (λ o. option_map_or (λ i. slice_index_or (j ∷ js) i []) o []) (cond-true (same_node s.node s.node) (Some 0) (position_from (λ m. same_node m s.node) 1 (nodes_in ss)) own)

    others : (n : Node) → whole (at n ss) ≡ placed js (nodes_in ss) n
    others n =
        elim (cases_Bool (same_node s.node n)) [
          | inl here ↦
              let apart = subst (λ (m : Node). AllByRecursion (Differ m) (nodes_in ss)) (node_of_same s.node n here) differ.0 in
              ap whole (no_station ss n apart) ∙ sym (ap (λ o. option_map_or (λ i. slice_index_or js i []) o []) (no_index (nodes_in ss) n 0 apart))
          | inr other ↦
              sym (ap whole (cond-false (same_node s.node n) (Some s) (at n ss) other)) ∙ each n
              ∙ ap (λ o. option_map_or (λ i. slice_index_or (j ∷ js) i []) o []) (cond-false (same_node s.node n) (Some 0) (position_from (λ m. same_node m n) 1 (nodes_in ss)) other ∙ index_later (λ m. same_node m n) 0 (nodes_in ss))
              ∙ later j js (position_from (λ m. same_node m n) 0 (nodes_in ss))
        ]

-- a node with no tail has committed its whole journal
all_committed : (o : Option Station) (j : List Input) → committed_part o ≡ j → uncommitted o ≡ [] → whole o ≡ j
all_committed None j is none = is
all_committed (Some s) j is none = ap (λ (l : List Input). s.committed ++ l) none ∙ append-nil s.committed ∙ is

-- ---- a woven world

pub scheme_woven : (scheme : Scheme) (js : List (List Input)) (events : List WorldEvent) (w : World) → IsWoven scheme (journal_of scheme js) events w → w.scheme ≡ scheme
scheme_woven scheme js events w woven = ap (λ (v : World). v.scheme) woven.world ∙ run_scheme (opening scheme) events

pub journals_woven : (scheme : Scheme) (js : List (List Input)) (events : List WorldEvent) (w : World) → length js ≡ length (nodes scheme) → map (λ (s : Station). s.node) w.stations ≡ nodes w.scheme
    → IsWoven scheme (journal_of scheme js) events w → map journal w.stations ≡ js
journals_woven scheme js events w count named woven =
    all_placed w.stations js (subst (Pairwise Differ) (sym are) (nodes_differ scheme)) (count ∙ ap (λ (l : List Node). length l) (sym are) ∙ length-map w.stations (λ (s : Station). s.node)) each
  where
    are : map (λ (s : Station). s.node) w.stations ≡ nodes scheme
    are = named ∙ ap nodes (scheme_woven scheme js events w woven)

    each : (n : Node) → whole (station w n) ≡ placed js (nodes_in w.stations) n
    each n =
        let there = subst (λ (v : World). (committed_part (station v n) ≡ journal_of scheme js n) × (uncommitted (station v n) ≡ [])) (sym woven.world) (woven.projects n) in
        all_committed (station w n) (journal_of scheme js n) there.0 there.1 ∙ ap (λ (l : List Node). placed js l n) (sym are)
