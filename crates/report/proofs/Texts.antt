-- A text that grows by a line for each element of a list.
use Rattle.std.proofs.Common.{◌≡◌, ℕ, ◌+◌, ◌<◌, List, [], ◌∷◌, ◌++◌, map, length, take, get_or, sym, ap, ◌∙◌}
use Rattle.std.specs.List.{flat_map}
use Rattle.std.proofs.lemmas.List.{flat_map_more, map-append, take_more}

pub lines_more : {X : Type 0} (f : X → List ℕ) (start now new : List ℕ) (xs : List X) (i : ℕ) (x : X) → i < length xs → x ≡ get_or xs i x
    → now ≡ start ++ flat_map f (take i xs) → new ≡ now ++ f x → new ≡ start ++ flat_map f (take (i + 1) xs)
lines_more f start now new xs i x low item so_far step =
    step ∙ ap (λ s. s ++ f x) so_far ∙ flat_map_more f start (take i xs) x
    ∙ ap (λ ys. start ++ flat_map f ys) (sym (take_more xs i x low ∙ ap (λ y. take i xs ++ y ∷ []) (sym item)))

-- the same for a list of parts of the elements
pub parts_more : {X Y : Type 0} (part : Y → X) (f : X → List ℕ) (start now new : List ℕ) (ys : List Y) (i : ℕ) (y : Y) → i < length ys → y ≡ get_or ys i y
    → now ≡ start ++ flat_map f (map part (take i ys)) → new ≡ now ++ f (part y) → new ≡ start ++ flat_map f (map part (take (i + 1) ys))
parts_more part f start now new ys i y low item so_far step =
    step ∙ ap (λ s. s ++ f (part y)) so_far ∙ flat_map_more f start (map part (take i ys)) (part y)
    ∙ ap (λ xs. start ++ flat_map f xs) (sym (ap (map part) (take_more ys i y low ∙ ap (λ z. take i ys ++ z ∷ []) (sym item)) ∙ map-append part (take i ys) (y ∷ [])))
