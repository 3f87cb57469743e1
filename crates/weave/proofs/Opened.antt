-- The opening world, with the journals of cores as tails: nothing is followed yet, and each node is pending.
use Rattle.std.proofs.Common.{◌≡◌, ℕ, zero, suc, ◌+◌, List, [], ◌∷◌, ◌++◌, Bool, true, false, cond, Vec, Global, Some, None, inl, inr, refl, sym, ap, subst, ◌∙◌, length, map, replicate, arith, get_or, append_assoc, length-append}
use Rattle.std.specs.BTreeMap as tree
use Rattle.std.specs.BTreeMap.{BTreeMap}
use Rattle.std.specs.List.{position_from}
use Rattle.std.specs.Map.{lookup}
use Rattle.std.specs.Option.{option_map_or}
use Rattle.std.specs.Ordering.{is_eq}
use Rattle.std.specs.Prelude.{slice_get, slice_index, slice_index_or, Contains, ◌⊎◌}
use Rattle.std.proofs.lemmas.Bool.{cases_Bool}
use Rattle.units.specs.Code.{same_node}
use Rattle.units.specs.declared.code.Node.{Node}
use Rattle.units.specs.declared.code.Node.TheVariants.{Itl, Registry}
use Rattle.status.specs.Id.{id_cmp}
use Rattle.status.specs.declared.id.TransactionId.{TransactionId}
use Rattle.wire.specs.declared.input.Input.{Input}
use Rattle.wire.specs.declared.message.Message.{Message}
use Rattle.scheme.specs.declared.members.SchemeRegistry.{SchemeRegistry}
use Rattle.scheme.specs.declared.registries.Scheme.{Scheme}
use Rattle.protocol.specs.Claims.{committed_of, whole}
use Rattle.protocol.specs.History.{sends}
use Rattle.protocol.specs.Registries.{is_node, nodes}
use Rattle.protocol.specs.Verdict.{history}
use Rattle.protocol.specs.Weave.{IsQuiet}
use Rattle.protocol.specs.World.{World, Station, opening, opening_station, run}
use Rattle.units.proofs.Lists.Membership.{In_slice_get}
use Rattle.units.proofs.Lists.Positions.{contains_in}
use Rattle.safety.proofs.WorldLemmas.QuietWorlds.{opening_quiet, there}
use Rattle.safety.proofs.WorldLemmas.SoundWorlds.{none_committed}
use Rattle.safety.proofs.WorldLemmas.StationsAfterPut.{at}
use Rattle.world.specs.Cores.{node_of}
use Rattle.world.specs.Cores as node_cores
use Rattle.world.specs.declared.any_core.Core.{Core}
use Rattle.world.specs.Stations.{uncommitted, uncommitted_station}
use Rattle.weave.specs.Following.{committed_at, journal_of}
use Rattle.weave.specs.Kept.{IsFollowing, numbers_of}
use Rattle.weave.specs.Steps.{Waits, idle_station, whole_at, without_tails}
use Rattle.weave.specs.declared.following.Following.{Following}
use Rattle.protocol.proofs.NodeIndices.{node_at}
use Rattle.weave.proofs.NodeIndices.{nodes_alone}

nothing_sent : (scheme : Scheme) (n : Node) (key : ℕ) (m : Message) → slice_get (sends (committed_of (opening scheme) n)) key ≡ Some m → ⊥
nothing_sent scheme n key m is =
    let none : None ≡ Some m = sym (ap (λ j. slice_get (sends (history scheme n j)) key) (none_committed scheme n)) ∙ is in
    cc (none)

is_quiet : (scheme : Scheme) → IsQuiet (opening scheme)
is_quiet scheme = record {
  idle = λ n node.
      let s = there (opening scheme) (opening_quiet scheme) n node in
      let idle = (opening_quiet scheme).idle n s.0 s.1 in record { at = s.0; is = s.1; runs = idle.0; settled = idle.1 };
  posted = λ n key m is. absurd (nothing_sent scheme n key m is);
}

no_first : (xs ys : List Input) (y : Input) → xs ++ y ∷ ys ≡ [] → ⊥
no_first [] ys y e = cc (e)
no_first (x ∷ xs) ys y e = cc (e)

zeros : (n k : ℕ) → slice_index (replicate n 0) k ≡ 0
zeros zero zero = refl
zeros zero (suc k) = refl
zeros (suc n) zero = refl
zeros (suc n) (suc k) = zeros n k

pub none_at : (m : BTreeMap TransactionId (Vec ℕ Global)) → m.entries ≡ [] → (t : TransactionId) → option_map_or (λ v. v.items) (tree.get id_cmp m t) [] ≡ []
none_at m empty t = ap (λ (es : List (TransactionId × Vec ℕ Global)). option_map_or (λ (v : Vec ℕ Global). v.items) (lookup (λ k. is_eq (id_cmp t k)) es) []) empty

-- ---- the cores' journals as tails

idle_all : (cores : List Core) → map idle_station (map uncommitted_station cores) ≡ map opening_station (map node_of cores)
idle_all [] = refl
idle_all (c ∷ cs) = ap (λ (l : List Station). opening_station (node_of c) ∷ l) (idle_all cs)

registries_open : (ms : List SchemeRegistry) → map opening_station (map (λ m. Registry m.code) ms) ≡ map (λ m. opening_station (Registry m.code)) ms
registries_open [] = refl
registries_open (m ∷ ms) = ap (λ (l : List Station). opening_station (Registry m.code) ∷ l) (registries_open ms)

nodes_open : (scheme : Scheme) → map opening_station (nodes scheme) ≡ (opening scheme).stations
nodes_open scheme = ap (λ (l : List Station). opening_station Itl ∷ l) (registries_open scheme.members)

module _ (scheme : Scheme) (cores : List Core) (nodes_are : map node_of cores ≡ nodes scheme) where
  pub is_opening : without_tails (uncommitted scheme cores) ≡ opening scheme
  is_opening = ap (λ (l : List Station). record (opening scheme) { stations = l }) (idle_all cores ∙ ap (map opening_station) nodes_are ∙ nodes_open scheme)

  pub stations_are : map (λ (s : Station). s.node) (uncommitted scheme cores).stations ≡ nodes scheme
  stations_are = names cores ∙ nodes_are
    where
      names : (cs : List Core) → map (λ (s : Station). s.node) (map uncommitted_station cs) ≡ map node_of cs
      names [] = refl
      names (c ∷ cs) = ap (λ (l : List Node). node_of c ∷ l) (names cs)

index_at : (front : List (List Input)) (x : List Input) (rest : List (List Input)) → get_or (front ++ x ∷ rest) (length front) [] ≡ x
index_at [] x rest = refl
index_at (y ∷ front) x rest = index_at front x rest

whole_from : (n : Node) (k : ℕ) (front : List (List Input)) (cores : List Core) → length front ≡ k
    → whole (at n (map uncommitted_station cores)) ≡ option_map_or (λ i. slice_index_or (front ++ map node_cores.journal_of cores) i []) (position_from (λ m. same_node m n) k (map node_of cores)) []
whole_from n k front [] count = refl
whole_from n k front (c ∷ cs) count = pick (whole_from n (k + 1) (front ++ node_cores.journal_of c ∷ []) cs (length-append front (node_cores.journal_of c ∷ []) ∙ ap (λ i. i + 1) count)) (same_node (node_of c) n)
  where
    journals : List (List Input)
    journals = front ++ node_cores.journal_of c ∷ map node_cores.journal_of cs

    pick : whole (at n (map uncommitted_station cs)) ≡ option_map_or (λ i. slice_index_or ((front ++ node_cores.journal_of c ∷ []) ++ map node_cores.journal_of cs) i []) (position_from (λ m. same_node m n) (k + 1) (map node_of cs)) [] → (b : Bool)
        → whole (cond b (Some (uncommitted_station c)) (at n (map uncommitted_station cs)))
        ≡ option_map_or (λ i. slice_index_or (front ++ node_cores.journal_of c ∷ map node_cores.journal_of cs) i []) (cond b (Some k) (position_from (λ m. same_node m n) (k + 1) (map node_of cs))) []
    pick rest true = sym (index_at front (node_cores.journal_of c) (map node_cores.journal_of cs)) ∙ ap (λ i. get_or (front ++ node_cores.journal_of c ∷ map node_cores.journal_of cs) i []) count
    pick rest false = rest ∙ ap (λ (js : List (List Input)). option_map_or (λ i. slice_index_or js i []) (position_from (λ m. same_node m n) (k + 1) (map node_of cs)) []) (append_assoc front (node_cores.journal_of c ∷ []) (map node_cores.journal_of cs))

pub whole_is : (scheme : Scheme) (cores : List Core) → map node_of cores ≡ nodes scheme → (n : Node) → whole_at (uncommitted scheme cores) n ≡ journal_of scheme (map node_cores.journal_of cores) n
whole_is scheme cores nodes_are n =
    whole_from n 0 [] cores refl ∙ ap (λ (ns : List Node). option_map_or (λ k. slice_index_or (map node_cores.journal_of cores) k []) (position_from (λ m. same_node m n) 0 ns) []) nodes_are

-- ---- nothing is followed yet

pub opened : (scheme : Scheme) (cores : List Core) (f : Following) → map node_of cores ≡ nodes scheme → f.world ≡ uncommitted scheme cores → f.events.items ≡ [] → ((t : TransactionId) → numbers_of f t ≡ []) → f.posted.items ≡ replicate (length f.pending.items) 0
    → length f.posted.items ≡ length f.pending.items → f.pending.items ≡ nodes scheme → IsFollowing scheme f
opened scheme cores f nodes_are world events numbers posted count pending = record {
  follows = record {
    follows = record {
      led = subst (λ es. without_tails f.world ≡ run (opening scheme) es) (sym events) bare;
      front = λ n. (whole_at f.world n, subst (λ (w : World). whole_at f.world n ≡ committed_at w n ++ whole_at f.world n) (sym bare) (ap (λ j. j ++ whole_at f.world n) (sym (none_committed scheme n))));
      numbered = λ k p is. let none : None ≡ Some p = sym (ap (λ (w : World). slice_get w.bag k) world) ∙ is in absurd (cc (none));
      counted = count ∙ ap length pending;
      counts = λ k n is. let none : slice_index f.posted.items k ≡ 0 = ap (λ ks. slice_index ks k) posted ∙ zeros (length f.pending.items) k in omega (arith, none);
      waits = waits;
    };
    nodes_are = ap (λ (w : World). map (λ (s : Station). s.node) w.stations) world ∙ stations_are scheme cores nodes_are;
  };
  quiet = subst IsQuiet (sym bare) (is_quiet scheme);
}
  where
    bare : without_tails f.world ≡ opening scheme
    bare = ap without_tails world ∙ is_opening scheme cores nodes_are

    waits : (n : Node) → Contains f.pending.items n ⊎ Waits (without_tails f.world) (whole_at f.world) n
    waits n =
        elim (cases_Bool (is_node scheme n)) [
          | inl node ↦
              let at = node_at scheme n node in
              inl (subst (λ ns. Contains ns n) (sym pending) (contains_in (nodes scheme) n (In_slice_get (nodes scheme) at.0 n at.1)))
          | inr outside ↦
              let nothing : whole_at f.world n ≡ [] = ap (λ (w : World). whole_at w n) world ∙ whole_is scheme cores nodes_are n ∙ nodes_alone scheme (map node_cores.journal_of cores) n outside in
              inr (λ input rest left. absurd (no_first _ rest input (sym left ∙ nothing)))
        ]
