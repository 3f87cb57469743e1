-- What the code follows; no public contract cites it.
use Rattle.std.specs.Prelude.{◌≡◌, ◌⊎◌, ◌+◌, Bool, ◌==◌, ◌&&◌, List, [], ◌∷◌, ◌++◌}
use Rattle.units.specs.Canonical.{GoesOn}
use Rattle.units.specs.Code.{same_code}
use Rattle.units.specs.Unit.{same_period}
use Rattle.units.specs.declared.interval.Interval.{Interval}

-- the second begins where the first ends
abbrev pub is_next : {M : Type 0} → Interval M → Interval M → Bool
is_next a b = same_code a.origin b.origin && (same_period a.period b.period && (a.last + 1 == b.first))

-- the first interval, to the end of the second
abbrev pub joined : {M : Type 0} → Interval M → Interval M → Interval M
joined a b = record { origin = a.origin; period = a.period; first = a.first; last = b.last; label = a.label }

-- the next one is added after the intervals, or joined with the last one where it goes on there
abbrev pub IsOnto : {M : Type 0} → List (Interval M) → Interval M → List (Interval M) → Type 0
IsOnto {M} is next js =
    ((front : List (Interval M)) × (a : Interval M) × (is ≡ front ++ a ∷ []) × GoesOn a next × (js ≡ front ++ joined a next ∷ []))
    ⊎ (((front : List (Interval M)) (a : Interval M) → is ≡ front ++ a ∷ [] → GoesOn a next → ⊥) × (js ≡ is ++ next ∷ []))
