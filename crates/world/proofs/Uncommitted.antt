-- The stations of cores that have committed nothing, made one after another, and the world of them.
use Rattle.std.proofs.Common.{◌≡◌, ℕ, List, [], ◌∷◌, ◌++◌, false, map, refl, sym, ap, subst, ◌∙◌, append_assoc}
use Rattle.std.specs.BTreeSet.{contains}
use Rattle.std.specs.Ordering.{nat_cmp}
use Rattle.std.specs.Prelude.{All}
use Rattle.std.proofs.lemmas.List.{map-append}
use Rattle.std.proofs.lemmas.List.Elements.{All-nil, All-cons, All-head, All-tail}
use Rattle.units.specs.declared.code.Node.{Node}
use Rattle.scheme.specs.declared.registries.Scheme.{Scheme}
use Rattle.protocol.specs.Registries.{nodes}
use Rattle.protocol.specs.World as worlds
use Rattle.world.specs.Cores.{node_of, scheme_of}
use Rattle.world.specs.declared.any_core.Core.{Core}
use Rattle.world.specs.declared.station.Station.{Station}
use Rattle.world.specs.Kept.{AreKept, IsFresh, world_of}
use Rattle.world.specs.Stations.{station_of, uncommitted, uncommitted_station}
use Rattle.world.proofs.KeptWorlds.{kept_opening}

-- one element more has gone from a list to the images of others
pub moved : {X Y : Type 0} (f : X → Y) (xs : List X) (x : X) (ys : List X) (rest all : List Y) → ys ≡ xs ++ x ∷ [] → map f xs ++ f x ∷ rest ≡ all → map f ys ++ rest ≡ all
moved {X = X} {Y = Y} f xs x ys rest all is e =
    ap (λ (l : List X). map f l ++ rest) is ∙ ap (λ (l : List Y). l ++ rest) (map-append f xs (x ∷ [])) ∙ append_assoc (map f xs) (f x ∷ []) rest ∙ e

abbrev IsUncommitted : Station → Type 0
IsUncommitted s = station_of s ≡ uncommitted_station s.core

abbrev IsSilent : Station → Type 0
IsSilent s = (key : ℕ) → contains nat_cmp s.posted key ≡ false

seen_all : (ss : List Station) → All IsUncommitted ss → map station_of ss ≡ map uncommitted_station (map (λ (s : Station). s.core) ss)
seen_all [] all = refl
seen_all (s ∷ ss) all =
    ap (λ (x : worlds.Station). x ∷ map station_of ss) (All-head IsUncommitted s ss all)
    ∙ ap (λ (l : List worlds.Station). uncommitted_station s.core ∷ l) (seen_all ss (All-tail IsUncommitted s ss all))

nodes_all : (ss : List Station) → map (λ (s : Station). node_of s.core) ss ≡ map node_of (map (λ (s : Station). s.core) ss)
nodes_all [] = refl
nodes_all (s ∷ ss) = ap (λ (l : List Node). node_of s.core ∷ l) (nodes_all ss)

fresh_all : (scheme : Scheme) (ss : List Station) → All (λ (core : Core). scheme_of core ≡ scheme) (map (λ (s : Station). s.core) ss) → All IsSilent ss → All (IsFresh scheme) ss
fresh_all scheme [] schemes silent = All-nil (IsFresh scheme)
fresh_all scheme (s ∷ ss) schemes silent =
    All-cons (IsFresh scheme) s ss
    (record { scheme_is = All-head (λ (core : Core). scheme_of core ≡ scheme) s.core (map (λ (s : Station). s.core) ss) schemes; none = All-head IsSilent s ss silent })
    (fresh_all scheme ss (All-tail (λ (core : Core). scheme_of core ≡ scheme) s.core (map (λ (s : Station). s.core) ss) schemes) (All-tail IsSilent s ss silent))

pub kept_uncommitted : (scheme : Scheme) (cores : List Core) (ss : List Station) → map (λ (s : Station). s.core) ss ≡ cores → map node_of cores ≡ nodes scheme → All (λ (core : Core). scheme_of core ≡ scheme) cores → All IsSilent ss
    → AreKept scheme ss []
kept_uncommitted scheme cores ss are nodes_are schemes silent =
    kept_opening scheme ss (nodes_all ss ∙ ap (map node_of) are ∙ nodes_are) (fresh_all scheme ss (subst (All (λ (core : Core). scheme_of core ≡ scheme)) (sym are) schemes) silent)

pub seen_uncommitted : (scheme : Scheme) (cores : List Core) (ss : List Station) → map (λ (s : Station). s.core) ss ≡ cores → All IsUncommitted ss → world_of scheme ss [] ≡ uncommitted scheme cores
seen_uncommitted scheme cores ss are seen =
    ap (λ (l : List worlds.Station). record { scheme = scheme; stations = l; bag = [] }) (seen_all ss seen ∙ ap (map uncommitted_station) are)
