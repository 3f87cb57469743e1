use Rattle.std.proofs.Common.{◌≡◌, ◌<◌, ◌++◌, ◌∙◌, Bor, List, [], ◌∷◌, ap, arith, length, map, refl, string_bytes, sym, ℕ}
use Rattle.std.proofs.lemmas.List.{append-nil}
use Rattle.std.specs.Slice.Iter.{windows_rest}
use Rattle.explain.specs.Topics.{pairs}
use Rattle.explain.proofs.naming.add_pairs.Goals as goal

-- a single piece has no neighbour
no_pairs : (parts : List (Bor (List ℕ))) → length parts < 2 → pairs (map (λ part. part.now) parts) ≡ []
no_pairs [] few = refl
no_pairs (only ∷ []) few = refl
no_pairs (first ∷ second ∷ rest) few = absurd (omega (arith, few))

pub returns : goal.returns
returns c =
    let few : length (windows_rest c.loop-two.two-iterator) < 2 = omega (arith, c.in-None.ensures.steps.1.0, c.loop-two.invariant.two) in
    sym (ap (λ rest. map string_bytes c.loop-two.names.items ++ rest) (no_pairs (windows_rest c.loop-two.two-iterator) few)
    ∙ append-nil (map string_bytes c.loop-two.names.items))
    ∙ c.loop-two.invariant.same
