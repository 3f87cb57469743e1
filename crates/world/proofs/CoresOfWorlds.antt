-- The cores of a world's stations.
use Rattle.std.proofs.Common.{◌≡◌, List, [], ◌∷◌, map, refl, sym, ap, ◌∙◌}
use Rattle.std.specs.Prelude.{All}
use Rattle.std.proofs.lemmas.List.{take-append-drop}
use Rattle.std.proofs.lemmas.List.Elements.{All-nil, All-cons, All-head, All-tail}
use Rattle.units.specs.declared.code.Node.{Node}
use Rattle.wire.specs.declared.input.Input.{Input}
use Rattle.scheme.specs.declared.registries.Scheme.{Scheme}
use Rattle.protocol.specs.World as worlds
use Rattle.protocol.specs.declared.event.Posted.{Posted}
use Rattle.world.specs.Cores.{journal_of, node_of, scheme_of}
use Rattle.world.specs.Kept.{IsKept}
use Rattle.world.specs.declared.any_core.Core.{Core}
use Rattle.world.specs.declared.station.Station.{Station}
use Rattle.world.specs.Stations.{station_of}

pub journals_seen : (ss : List Station) → map journal_of (map (λ (s : Station). s.core) ss) ≡ map worlds.journal (map station_of ss)
journals_seen [] = refl
journals_seen (s ∷ ss) =
    ap (λ (js : List Input). js ∷ map journal_of (map (λ (s : Station). s.core) ss)) (sym (take-append-drop s.committed (journal_of s.core)))
    ∙ ap (λ (l : List (List Input)). worlds.journal (station_of s) ∷ l) (journals_seen ss)

pub nodes_seen : (ss : List Station) → map (λ (s : worlds.Station). s.node) (map station_of ss) ≡ map (λ (s : Station). node_of s.core) ss
nodes_seen [] = refl
nodes_seen (s ∷ ss) = ap (λ (l : List Node). node_of s.core ∷ l) (nodes_seen ss)

pub nodes_of_cores : (ss : List Station) → map node_of (map (λ (s : Station). s.core) ss) ≡ map (λ (s : Station). node_of s.core) ss
nodes_of_cores [] = refl
nodes_of_cores (s ∷ ss) = ap (λ (l : List Node). node_of s.core ∷ l) (nodes_of_cores ss)

pub schemes_kept : (scheme : Scheme) (bag : List Posted) (ss : List Station) → All (IsKept scheme bag) ss → All (λ (core : Core). scheme_of core ≡ scheme) (map (λ (s : Station). s.core) ss)
schemes_kept scheme bag [] kept = All-nil (λ (core : Core). scheme_of core ≡ scheme)
schemes_kept scheme bag (s ∷ ss) kept =
    All-cons (λ (core : Core). scheme_of core ≡ scheme) s.core (map (λ (t : Station). t.core) ss) ((All-head (IsKept scheme bag) s ss kept).scheme_is) (schemes_kept scheme bag ss (All-tail (IsKept scheme bag) s ss kept))
