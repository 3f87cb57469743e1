-- The station of a node, by the node's index among the nodes of the scheme.
use Rattle.std.proofs.Common.{◌≡◌, ℕ, Bool, true, false, List, [], ◌∷◌, map, find, Some, None, cond, is_some, refl, sym, ap, ◌∙◌}
use Rattle.std.specs.List.{position_from}
use Rattle.units.specs.Code.{same_code, same_node}
use Rattle.units.specs.declared.code.Code.{Code}
use Rattle.units.specs.declared.code.Node.{Node}
use Rattle.units.specs.declared.code.Node.TheVariants.{Itl, Registry}
use Rattle.scheme.specs.Order.{member}
use Rattle.scheme.specs.declared.members.SchemeRegistry.{SchemeRegistry}
use Rattle.scheme.specs.declared.registries.Scheme.{Scheme}
use Rattle.units.proofs.Lists.FirstIndices.{index_map}
use Rattle.protocol.specs.Registries.{is_node, nodes, index_of}
use Rattle.protocol.specs.World as worlds
use Rattle.world.specs.Cores.{node_of}
use Rattle.world.specs.declared.station.Station.{Station}
use Rattle.world.specs.Stations.{station_of}
use Rattle.world.proofs.Indices.{is_of}

abbrev pub AreNodes : Scheme → List Station → Type 0
AreNodes scheme ss = map (λ s. node_of s.core) ss ≡ nodes scheme

-- an index among the nodes is the index of the station
same_index : (scheme : Scheme) (ss : List Station) (n : Node) → AreNodes scheme ss → position_from (is_of n) 0 ss ≡ index_of scheme n
same_index scheme ss n are = sym (index_map (λ (s : Station). node_of s.core) (λ x. same_node x n) 0 ss) ∙ ap (position_from (λ x. same_node x n) 0) are

pub placed : (scheme : Scheme) (ss : List Station) (n : Node) (at : ℕ) → AreNodes scheme ss → Some at ≡ index_of scheme n → position_from (is_of n) 0 ss ≡ Some at
placed scheme ss n at are e = same_index scheme ss n are ∙ sym e

pub unplaced : (scheme : Scheme) (ss : List Station) (n : Node) → AreNodes scheme ss → None ≡ index_of scheme n → position_from (is_of n) 0 ss ≡ None
unplaced scheme ss n are e = same_index scheme ss n are ∙ sym e

-- ---- which nodes have a station

found_seen : (n : Node) (ss : List Station) → is_some (find (λ (s : worlds.Station). same_node s.node n) (map station_of ss)) ≡ is_some (find (λ x. same_node x n) (map (λ s. node_of s.core) ss))
found_seen n [] = refl
found_seen n (s ∷ ss) = pick (found_seen n ss) (same_node (node_of s.core) n)
  where
    pick : is_some (find (λ (s : worlds.Station). same_node s.node n) (map station_of ss)) ≡ is_some (find (λ x. same_node x n) (map (λ s. node_of s.core) ss)) → (b : Bool)
        → is_some (cond b (Some (station_of s)) (find (λ (s : worlds.Station). same_node s.node n) (map station_of ss))) ≡ is_some (cond b (Some (node_of s.core)) (find (λ x. same_node x n) (map (λ s. node_of s.core) ss)))
    pick rest true = refl
    pick rest false = rest

found_code : (c : Code) (ms : List SchemeRegistry) → is_some (find (λ x. same_node x (Registry c)) (map (λ m. Registry m.code) ms)) ≡ is_some (member ms c)
found_code c [] = refl
found_code c (m ∷ ms) = pick (found_code c ms) (same_code m.code c)
  where
    pick : is_some (find (λ x. same_node x (Registry c)) (map (λ m. Registry m.code) ms)) ≡ is_some (member ms c) → (b : Bool)
        → is_some (cond b (Some (Registry m.code)) (find (λ x. same_node x (Registry c)) (map (λ m. Registry m.code) ms))) ≡ is_some (cond b (Some m) (member ms c))
    pick rest true = refl
    pick rest false = rest

found_node : (scheme : Scheme) (n : Node) → is_some (find (λ x. same_node x n) (nodes scheme)) ≡ is_node scheme n
found_node scheme Itl = refl
found_node scheme (Registry c) = found_code c scheme.members

-- each node of the scheme has its station, and no other has one
pub there : (scheme : Scheme) (ss : List Station) (n : Node) → AreNodes scheme ss → is_some (find (λ (s : worlds.Station). same_node s.node n) (map station_of ss)) ≡ is_node scheme n
there scheme ss n are = found_seen n ss ∙ ap (λ (l : List Node). is_some (find (λ x. same_node x n) l)) are ∙ found_node scheme n
