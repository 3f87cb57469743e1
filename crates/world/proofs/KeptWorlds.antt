-- The fields of the code's world that the protocol's world doesn't have: after a turn of one station, and after a
-- message is posted.
use Rattle.std.proofs.Common.{◌≡◌, ℕ, zero, suc, Bool, true, false, List, [], ◌∷◌, ◌++◌, map, Option, Some, None, get_or, refl, sym, ap, ◌∙◌, subst}
use Rattle.std.specs.BTreeSet.{contains}
use Rattle.std.specs.Ordering.{nat_cmp}
use Rattle.std.specs.Prelude.{All, ◌==◌, ◌&&◌, ◌||◌, is_some, option_and_then}
use Rattle.std.specs.List.{AllByRecursion, list_any, position_from}
use Rattle.std.proofs.Math.Bool.{or-false}
use Rattle.std.proofs.Math.ListN.{set}
use Rattle.std.proofs.Math.Seq.{map-set_same}
use Rattle.std.proofs.lemmas.Bool.{false≢true}
use Rattle.std.proofs.lemmas.List.Elements.{All-nil, All-cons, All-head, All-tail, All-get_or, All-set, All-push, All-weaker}
use Rattle.std.proofs.lemmas.List.Folds.{list_any-append, list_any_none}
use Rattle.units.specs.Apart.{Pairwise}
use Rattle.units.specs.Code.{same_node}
use Rattle.units.specs.declared.code.Node.{Node}
use Rattle.units.proofs.Same.{node_of_same, same_node-refl}
use Rattle.wire.specs.declared.message.Message.{Message}
use Rattle.scheme.specs.declared.registries.Scheme.{Scheme}
use Rattle.protocol.specs.Registries.{is_node, nodes, index_of}
use Rattle.protocol.specs.World.{Station, posted, sent, station, was_posted}
use Rattle.protocol.specs.declared.event.Outcome.TheVariants.{Done, NotPossible}
use Rattle.protocol.specs.declared.event.Posted.{Posted}
use Rattle.protocol.proofs.NodeIndices.{Differ, node_there, nodes_differ, other_way}
use Rattle.world.specs.Cores.{node_of, scheme_of}
use Rattle.world.specs.Kept.{AreKept, IsFresh, IsKept, world_of}
use Rattle.world.specs.Stations.{station_of}
use Rattle.world.specs.declared.station.Station.{Station as Kept}
use Rattle.world.proofs.Indices.{StandsAt, is_of, IsIndex, index_find, index_found, index_node, index_none, index_within, same_seen}
use Rattle.world.proofs.PlacedStations.{placed, unplaced}
use Rattle.world.proofs.Worlds.{after}

-- ---- where a node stands

pub found : (scheme : Scheme) (ss : List Kept) (bag : List Posted) (n : Node) (at : ℕ) → AreKept scheme ss bag → Some at ≡ index_of scheme n → IsIndex ss n at
found scheme ss bag n at k e = index_found ss n at (placed scheme ss n at k.nodes_are e)

pub missing : (scheme : Scheme) (ss : List Kept) (bag : List Posted) (n : Node) → AreKept scheme ss bag → None ≡ index_of scheme n → position_from (is_of n) 0 ss ≡ None
missing scheme ss bag n k e = unplaced scheme ss n k.nodes_are e

pub at_index : (scheme : Scheme) (ss : List Kept) (bag : List Posted) (n : Node) (at : ℕ) (s : Kept) → AreKept scheme ss bag → Some at ≡ index_of scheme n → s ≡ get_or ss at s → IsKept scheme bag s
at_index scheme ss bag n at s k e is = subst (IsKept scheme bag) (sym is) (All-get_or (IsKept scheme bag) ss at s (index_within ss n at (found scheme ss bag n at k e)) k.kept)

-- ---- whether a message was posted

pub marked_here : (scheme : Scheme) (ss : List Kept) (bag : List Posted) (n : Node) (at key : ℕ) (s : Kept) → AreKept scheme ss bag → Some at ≡ index_of scheme n → s ≡ get_or ss at s
    → contains nat_cmp s.posted key ≡ was_posted (world_of scheme ss bag) n key
marked_here scheme ss bag n at key s k e is =
    (at_index scheme ss bag n at s k e is).marked key
    ∙ ap (λ m. was_posted (world_of scheme ss bag) m key) (ap (λ (s : Kept). node_of s.core) is ∙ index_node ss n at s (found scheme ss bag n at k e))

other_node : (scheme : Scheme) (n m : Node) (b : Bool) → is_node scheme n ≡ false → is_node scheme m ≡ true → (same_node m n && b) ≡ false
other_node scheme n m b outside inside = pick (same_node m n) refl
  where
    pick : (t : Bool) → same_node m n ≡ t → (t && b) ≡ false
    pick true e = absurd (false≢true (sym outside ∙ ap (is_node scheme) (sym (node_of_same m n e)) ∙ inside))
    pick false e = refl

-- a node that isn't of the scheme posted nothing
pub posted_nothing : (scheme : Scheme) (ss : List Kept) (bag : List Posted) (n : Node) (key : ℕ) → AreKept scheme ss bag → None ≡ index_of scheme n → false ≡ was_posted (world_of scheme ss bag) n key
posted_nothing scheme ss bag n key k e =
    let outside : is_node scheme n ≡ false = sym (node_there scheme n) ∙ ap is_some (sym e) in
    sym (list_any_none (λ (p : Posted). same_node p.node n && (p.key == key)) bag
    (All-weaker (λ (p : Posted). is_node scheme p.node ≡ true) (λ (p : Posted). (same_node p.node n && (p.key == key)) ≡ false) (λ p inside. other_node scheme n p.node (p.key == key) outside inside) bag k.among))

-- ---- a turn

-- the scheme, the node and the keys of the messages that it posted are as before
pub record Stays (old new : Kept) : Type 0 where
  pub scheme : scheme_of new.core ≡ scheme_of old.core
  pub node : node_of new.core ≡ node_of old.core
  pub posted : (key : ℕ) → contains nat_cmp new.posted key ≡ contains nat_cmp old.posted key

pub stays_with : (old new : Kept) → scheme_of new.core ≡ scheme_of old.core → node_of new.core ≡ node_of old.core → new.posted ≡ old.posted → Stays old new
stays_with old new scheme node keys = record { scheme = scheme; node = node; posted = λ key. ap (λ t. contains nat_cmp t key) keys }

pub stays_core : (old new : Kept) → new.core ≡ old.core → new.posted ≡ old.posted → Stays old new
stays_core old new core keys = stays_with old new (ap scheme_of core) (ap node_of core) keys

kept_station : (scheme : Scheme) (bag : List Posted) (old new : Kept) → Stays old new → IsKept scheme bag old → IsKept scheme bag new
kept_station scheme bag old new same k = record {
  scheme_is = same.scheme ∙ k.scheme_is;
  marked = λ key. same.posted key ∙ k.marked key ∙ ap (λ m. was_posted (world_of scheme [] bag) m key) (sym same.node);
}

same_nodes : (ss : List Kept) (at : ℕ) (old new : Kept) → old ≡ get_or ss at old → node_of new.core ≡ node_of old.core → map (λ (s : Kept). node_of s.core) (set ss at new) ≡ map (λ (s : Kept). node_of s.core) ss
same_nodes ss at old new is e = map-set_same (λ (s : Kept). node_of s.core) ss at new old (e ∙ ap (λ (s : Kept). node_of s.core) is)

pub kept_turn : (scheme : Scheme) (ss : List Kept) (bag : List Posted) (n : Node) (at : ℕ) (old new : Kept) → AreKept scheme ss bag → Some at ≡ index_of scheme n → old ≡ get_or ss at old → Stays old new → AreKept scheme (set ss at new) bag
kept_turn scheme ss bag n at old new k e is same = record {
  nodes_are = same_nodes ss at old new is same.node ∙ k.nodes_are;
  kept = All-set (IsKept scheme bag) ss at new (kept_station scheme bag old new same (at_index scheme ss bag n at old k e is)) k.kept;
  among = k.among;
}

-- ---- a message posted

pub one_more : (scheme : Scheme) (bag : List Posted) (p : Posted) (m : Node) (key : ℕ)
    → was_posted (world_of scheme [] (bag ++ p ∷ [])) m key ≡ (was_posted (world_of scheme [] bag) m key || (same_node p.node m && (p.key == key)))
one_more scheme bag p m key =
    let q : Posted → Bool = λ p. same_node p.node m && (p.key == key) in
    list_any-append q bag (p ∷ []) ∙ ap (λ b. list_any q bag || b) (or-false (q p))

kept_other : (scheme : Scheme) (bag : List Posted) (p : Posted) (s : Kept) → same_node p.node (node_of s.core) ≡ false → IsKept scheme bag s → IsKept scheme (bag ++ p ∷ []) s
kept_other scheme bag p s other k = record {
  scheme_is = k.scheme_is;
  marked = λ key.
      k.marked key
      ∙ sym (one_more scheme bag p (node_of s.core) key
      ∙ ap (λ b. was_posted (world_of scheme [] bag) (node_of s.core) key || (b && (p.key == key))) other
      ∙ or-false (was_posted (world_of scheme [] bag) (node_of s.core) key));
}

kept_others : (scheme : Scheme) (bag : List Posted) (p : Posted) (ss : List Kept) → AllByRecursion (Differ p.node) (map (λ (s : Kept). node_of s.core) ss) → All (IsKept scheme bag) ss → All (IsKept scheme (bag ++ p ∷ [])) ss
kept_others scheme bag p [] differ k = All-nil (IsKept scheme (bag ++ p ∷ []))
kept_others scheme bag p (s ∷ ss) differ k =
    All-cons (IsKept scheme (bag ++ p ∷ [])) s ss (kept_other scheme bag p s differ.0 (All-head (IsKept scheme bag) s ss k))
    (kept_others scheme bag p ss differ.1 (All-tail (IsKept scheme bag) s ss k))

kept_from : (scheme : Scheme) (bag : List Posted) (p : Posted) (ss : List Kept) (at : ℕ) (new : Kept) → StandsAt ss p.node at → Pairwise Differ (map (λ (s : Kept). node_of s.core) ss) → All (IsKept scheme bag) ss
    → IsKept scheme (bag ++ p ∷ []) new → All (IsKept scheme (bag ++ p ∷ [])) (set ss at new)
unfolding StandsAt
kept_from scheme bag p [] at new stands differ k one = absurd stands
kept_from scheme bag p (s ∷ ss) zero new stands differ k one =
    All-cons (IsKept scheme (bag ++ p ∷ [])) new ss one
    (kept_others scheme bag p ss (subst (λ m. AllByRecursion (Differ m) (map (λ (s : Kept). node_of s.core) ss)) (node_of_same (node_of s.core) p.node stands) differ.0) (All-tail (IsKept scheme bag) s ss k))
kept_from scheme bag p (s ∷ ss) (suc at) new stands differ k one =
    All-cons (IsKept scheme (bag ++ p ∷ [])) s (set ss at new)
    (kept_other scheme bag p s (other_way (node_of s.core) p.node stands.0) (All-head (IsKept scheme bag) s ss k))
    (kept_from scheme bag p ss at new stands.1 differ.1 (All-tail (IsKept scheme bag) s ss k) one)

-- the station at that index has the key now
pub kept_post : (scheme : Scheme) (ss : List Kept) (bag : List Posted) (at : ℕ) (p : Posted) (old new : Kept) → AreKept scheme ss bag → Some at ≡ index_of scheme p.node → old ≡ get_or ss at old → new.core ≡ old.core
    → ((key : ℕ) → contains nat_cmp new.posted key ≡ (contains nat_cmp old.posted key || (p.key == key))) → AreKept scheme (set ss at new) (bag ++ p ∷ [])
kept_post scheme ss bag at p old new k e is core marks =
    let here = found scheme ss bag p.node at k e in
    let one = at_index scheme ss bag p.node at old k e is in
    let node : node_of new.core ≡ p.node = ap node_of core ∙ ap (λ (s : Kept). node_of s.core) is ∙ index_node ss p.node at old here in
    let own : same_node p.node (node_of new.core) ≡ true = ap (same_node p.node) node ∙ same_node-refl p.node in
    let inside : is_node scheme p.node ≡ true = sym (node_there scheme p.node) ∙ ap is_some (sym e) in
    record {
      nodes_are = same_nodes ss at old new is (ap node_of core) ∙ k.nodes_are;
      kept =
          kept_from scheme bag p ss at new here.stands (subst (Pairwise Differ) (sym k.nodes_are) (nodes_differ scheme)) k.kept
          (record {
            scheme_is = ap scheme_of core ∙ one.scheme_is;
            marked = λ key.
                marks key
                ∙ ap (λ b. b || (p.key == key)) (one.marked key ∙ ap (λ m. was_posted (world_of scheme [] bag) m key) (ap node_of (sym core)))
                ∙ sym (one_more scheme bag p (node_of new.core) key ∙ ap (λ b. was_posted (world_of scheme [] bag) (node_of new.core) key || (b && (p.key == key))) own);
          });
      among = All-push (λ (p : Posted). is_node scheme p.node ≡ true) bag p k.among inside;
    }

-- the messages that the node of that index sends
sends_from : (scheme : Scheme) (ss : List Kept) (bag : List Posted) (n : Node) (at key : ℕ) (s : Kept) (o : Option Message) → AreKept scheme ss bag → Some at ≡ index_of scheme n → s ≡ get_or ss at s
    → o ≡ sent (scheme_of s.core) key (station_of s) → option_and_then (sent scheme key) (station (world_of scheme ss bag) n) ≡ o
sends_from scheme ss bag n at key s o k e is so =
    ap (option_and_then (sent scheme key)) (index_find ss n at s (found scheme ss bag n at k e) ∙ ap (λ (s : Kept). Some (station_of s)) (sym is))
    ∙ sym (so ∙ ap (λ z. sent z key (station_of s)) (at_index scheme ss bag n at s k e is).scheme_is)

pub posts : (scheme : Scheme) (ss : List Kept) (bag : List Posted) (n : Node) (at key : ℕ) (message : Message) (s old new : Kept) → AreKept scheme ss bag → Some at ≡ index_of scheme n → s ≡ get_or ss at s
    → Some message ≡ sent (scheme_of s.core) key (station_of s) → old ≡ get_or ss at old → station_of new ≡ station_of old
    → after (world_of scheme (set ss at new) (bag ++ record { node = n; key = key; message = message } ∷ [])) Done ≡ posted (world_of scheme ss bag) n key (option_and_then (sent scheme key) (station (world_of scheme ss bag) n))
posts scheme ss bag n at key message s old new k e is some was same =
    let w = world_of scheme ss bag in
    ap (λ (l : List Station). after (record w { stations = l; bag = bag ++ record { node = n; key = key; message = message } ∷ [] }) Done) (same_seen ss at old new was same)
    ∙ sym (ap (posted w n key) (sends_from scheme ss bag n at key s (Some message) k e is some))

pub posts_none : (scheme : Scheme) (ss : List Kept) (bag : List Posted) (n : Node) (at key : ℕ) (s : Kept) → AreKept scheme ss bag → Some at ≡ index_of scheme n → s ≡ get_or ss at s → None ≡ sent (scheme_of s.core) key (station_of s)
    → after (world_of scheme ss bag) NotPossible ≡ posted (world_of scheme ss bag) n key (option_and_then (sent scheme key) (station (world_of scheme ss bag) n))
posts_none scheme ss bag n at key s k e is none = sym (ap (posted (world_of scheme ss bag) n key) (sends_from scheme ss bag n at key s None k e is none))

pub posts_nowhere : (scheme : Scheme) (ss : List Kept) (bag : List Posted) (n : Node) (key : ℕ) → AreKept scheme ss bag → None ≡ index_of scheme n
    → after (world_of scheme ss bag) NotPossible ≡ posted (world_of scheme ss bag) n key (option_and_then (sent scheme key) (station (world_of scheme ss bag) n))
posts_nowhere scheme ss bag n key k e =
    sym (ap (λ o. posted (world_of scheme ss bag) n key (option_and_then (sent scheme key) o)) (index_none ss n (missing scheme ss bag n k e)))

-- ---- the opening world

pub kept_opening : (scheme : Scheme) (ss : List Kept) → map (λ (s : Kept). node_of s.core) ss ≡ nodes scheme → All (IsFresh scheme) ss → AreKept scheme ss []
kept_opening scheme ss nodes fresh = record {
  nodes_are = nodes;
  kept = All-weaker (IsFresh scheme) (IsKept scheme []) (λ s f. record { scheme_is = f.scheme_is; marked = λ key. f.none key }) ss fresh;
  among = All-nil (λ (p : Posted). is_node scheme p.node ≡ true);
}
