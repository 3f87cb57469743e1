-- The index of a node among the stations of a world.
use Rattle.std.proofs.Common.{◌≡◌, ℕ, zero, suc, ◌+◌, ◌<◌, Bool, true, false, List, [], ◌∷◌, map, find, length, get_or, Some, None, cond, refl, sym, ap, ◌∙◌, subst, arith}
use Rattle.std.proofs.Math.ListN.{set}
use Rattle.std.specs.List.{position_from}
use Rattle.units.specs.Code.{same_node}
use Rattle.units.specs.declared.code.Node.{Node}
use Rattle.units.proofs.Same.{node_of_same}
use Rattle.world.specs.declared.station.Station.{Station as Kept}
use Rattle.protocol.specs.World.{Station, put_station}
use Rattle.world.specs.Cores.{node_of}
use Rattle.world.specs.Stations.{station_of}

-- the first station of that node is the j-th
unfoldable pub StandsAt : List Kept → Node → ℕ → Type 0
StandsAt [] n j = ⊥
StandsAt (s ∷ ss) n zero = same_node (node_of s.core) n ≡ true
StandsAt (s ∷ ss) n (suc j) = (same_node (node_of s.core) n ≡ false) × StandsAt ss n j

abbrev pub is_of : Node → Kept → Bool
is_of n s = same_node (node_of s.core) n

index_from : (ss : List Kept) (n : Node) (k at : ℕ) → position_from (is_of n) k ss ≡ Some at → (j : ℕ) × (at ≡ k + j) × StandsAt ss n j
unfolding StandsAt
index_from [] n k at e = cc
index_from (s ∷ ss) n k at e = pick (λ h. index_from ss n (k + 1) at h) (same_node (node_of s.core) n) refl e
  where
    pick : (position_from (is_of n) (k + 1) ss ≡ Some at → (j : ℕ) × (at ≡ k + 1 + j) × StandsAt ss n j) → (b : Bool) → same_node (node_of s.core) n ≡ b
        → cond b (Some k) (position_from (is_of n) (k + 1) ss) ≡ Some at → (j : ℕ) × (at ≡ k + j) × StandsAt (s ∷ ss) n j
    pick rest true is h = let same : k ≡ at = cc in (0, omega (arith, same), is)
    pick rest false is h = let r = rest h in (suc r.0, omega (arith, r.1), (is, r.2))

pub record IsIndex (ss : List Kept) (n : Node) (at : ℕ) : Type 0 where
  pub stands : StandsAt ss n at

pub index_found : (ss : List Kept) (n : Node) (at : ℕ) → position_from (is_of n) 0 ss ≡ Some at → IsIndex ss n at
index_found ss n at e = let r = index_from ss n 0 at e in let same : r.0 ≡ at = omega (arith, r.1) in record { stands = subst (StandsAt ss n) same r.2 }

within_from : (ss : List Kept) (n : Node) (j : ℕ) → StandsAt ss n j → j < length ss
unfolding StandsAt
within_from [] n j h = absurd h
within_from (s ∷ ss) n zero h = omega arith
within_from (s ∷ ss) n (suc j) h = let r = within_from ss n j h.1 in omega arith

pub index_within : (ss : List Kept) (n : Node) (at : ℕ) → IsIndex ss n at → at < length ss
index_within ss n at p = within_from ss n at p.stands

node_from : (ss : List Kept) (n : Node) (j : ℕ) (d : Kept) → StandsAt ss n j → node_of (get_or ss j d).core ≡ n
unfolding StandsAt
node_from [] n j d h = absurd h
node_from (s ∷ ss) n zero d h = node_of_same (node_of s.core) n h
node_from (s ∷ ss) n (suc j) d h = node_from ss n j d h.1

pub index_node : (ss : List Kept) (n : Node) (at : ℕ) (d : Kept) → IsIndex ss n at → node_of (get_or ss at d).core ≡ n
index_node ss n at d p = node_from ss n at d p.stands

find_from : (ss : List Kept) (n : Node) (j : ℕ) (d : Kept) → StandsAt ss n j → find (λ (s : Station). same_node s.node n) (map station_of ss) ≡ Some (station_of (get_or ss j d))
unfolding StandsAt
find_from [] n j d h = absurd h
find_from (s ∷ ss) n zero d h = rw h refl
find_from (s ∷ ss) n (suc j) d h = rw h.0 (find_from ss n j d h.1)

pub index_find : (ss : List Kept) (n : Node) (at : ℕ) (d : Kept) → IsIndex ss n at → find (λ (s : Station). same_node s.node n) (map station_of ss) ≡ Some (station_of (get_or ss at d))
index_find ss n at d p = find_from ss n at d p.stands

put_from : (ss : List Kept) (j : ℕ) (s : Kept) → StandsAt ss (node_of s.core) j → put_station (station_of s) (map station_of ss) ≡ map station_of (set ss j s)
unfolding StandsAt
put_from [] j s h = absurd h
put_from (x ∷ ss) zero s h = rw h refl
put_from (x ∷ ss) (suc j) s h = rw h.0 (ap (λ (l : List Station). station_of x ∷ l) (put_from ss j s h.1))

-- a station put in the place of its node's
pub index_put : (ss : List Kept) (n : Node) (at : ℕ) (s : Kept) → node_of s.core ≡ n → IsIndex ss n at → put_station (station_of s) (map station_of ss) ≡ map station_of (set ss at s)
index_put ss n at s e p = put_from ss at s (subst (λ (m : Node). StandsAt ss m at) (sym e) p.stands)

-- a node with the same view
pub same_seen : (ss : List Kept) (at : ℕ) (old new : Kept) → old ≡ get_or ss at old → station_of new ≡ station_of old → map station_of (set ss at new) ≡ map station_of ss
same_seen [] at old new is e = refl
same_seen (x ∷ ss) zero old new is e = ap (λ (s : Station). s ∷ map station_of ss) (e ∙ ap station_of is)
same_seen (x ∷ ss) (suc at) old new is e = ap (λ (l : List Station). station_of x ∷ l) (same_seen ss at old new is e)

-- no station of that node
none_from : (ss : List Kept) (n : Node) (k : ℕ) → position_from (is_of n) k ss ≡ None → find (λ (s : Station). same_node s.node n) (map station_of ss) ≡ None
none_from [] n k e = refl
none_from (s ∷ ss) n k e = pick (none_from ss n (k + 1)) (same_node (node_of s.core) n) e
  where
    pick : (position_from (is_of n) (k + 1) ss ≡ None → find (λ (s : Station). same_node s.node n) (map station_of ss) ≡ None) → (b : Bool)
        → cond b (Some k) (position_from (is_of n) (k + 1) ss) ≡ None → cond b (Some (station_of s)) (find (λ (s : Station). same_node s.node n) (map station_of ss)) ≡ None
    pick rest true h = cc
    pick rest false h = rest h

pub index_none : (ss : List Kept) (n : Node) → position_from (is_of n) 0 ss ≡ None → find (λ (s : Station). same_node s.node n) (map station_of ss) ≡ None
index_none ss n e = none_from ss n 0 e
