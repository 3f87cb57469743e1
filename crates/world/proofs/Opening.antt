-- The stations of an opening world, one after another.
use Rattle.std.proofs.Common.{◌≡◌, ℕ, ◌+◌, ◌<◌, List, [], ◌∷◌, ◌++◌, map, take, length, get_or, refl, sym, ap, ◌∙◌}
use Rattle.std.proofs.lemmas.List.{map-append, take_more}
use Rattle.units.specs.declared.code.Node.TheVariants.{Itl, Registry}
use Rattle.units.specs.declared.code.Node.{Node}
use Rattle.scheme.specs.declared.members.SchemeRegistry.{SchemeRegistry}
use Rattle.world.specs.declared.station.Station.{Station as Kept}
use Rattle.protocol.specs.World.{Station, opening_station}
use Rattle.world.specs.Cores.{node_of}
use Rattle.world.specs.Stations.{station_of}

abbrev pub opens : List SchemeRegistry → List Station
opens ms = opening_station Itl ∷ map (λ m. opening_station (Registry m.code)) ms

pub opens_more : (ss : List Station) (ms : List SchemeRegistry) (i : ℕ) (m : SchemeRegistry) → i < length ms → m ≡ get_or ms i m → ss ≡ opens (take i ms) → ss ++ opening_station (Registry m.code) ∷ [] ≡ opens (take (i + 1) ms)
opens_more ss ms i m h is old =
    ap (λ (l : List Station). l ++ opening_station (Registry m.code) ∷ []) old
    ∙ ap (λ (l : List Station). opening_station Itl ∷ l)
    (ap (λ (x : SchemeRegistry). map (λ (m : SchemeRegistry). opening_station (Registry m.code)) (take i ms) ++ opening_station (Registry x.code) ∷ []) is
    ∙ sym (map-append (λ (m : SchemeRegistry). opening_station (Registry m.code)) (take i ms) (get_or ms i m ∷ []))
    ∙ sym (ap (map (λ (m : SchemeRegistry). opening_station (Registry m.code))) (take_more ms i m h)))

-- the nodes of stations, in the protocol's world
seen_nodes : (ss : List Kept) → map (λ s. node_of s.core) ss ≡ map (λ s. s.node) (map station_of ss)
seen_nodes [] = refl
seen_nodes (s ∷ ss) = ap (λ (l : List Node). node_of s.core ∷ l) (seen_nodes ss)

opening_nodes : (ms : List SchemeRegistry) → map (λ s. s.node) (map (λ m. opening_station (Registry m.code)) ms) ≡ map (λ m. Registry m.code) ms
opening_nodes [] = refl
opening_nodes (m ∷ ms) = ap (λ (l : List Node). Registry m.code ∷ l) (opening_nodes ms)

pub nodes_opened : (ss : List Kept) (ms : List SchemeRegistry) → map station_of ss ≡ opens ms → map (λ s. node_of s.core) ss ≡ Itl ∷ map (λ m. Registry m.code) ms
nodes_opened ss ms is = seen_nodes ss ∙ ap (map (λ (s : Station). s.node)) is ∙ ap (λ (l : List Node). Itl ∷ l) (opening_nodes ms)
