-- Stores that are closed one after another.
use Rattle.std.proofs.Common.{◌≡◌, ◌∙◌, ◌∷◌, ◌++◌, List, [], Some, ap, length, refl, take}
use Rattle.std.specs.Prelude.{slice_get}

after_done : {X : Type 0} (done rest : List X) (x : X) → slice_get (done ++ x ∷ rest) (length done) ≡ Some x
after_done [] rest x = refl
after_done (y ∷ ys) rest x = after_done ys rest x

-- where the next one is
pub at_next : {X : Type 0} (all done left rest : List X) (x : X) → all ≡ done ++ left → left ≡ x ∷ rest → slice_get all (length done) ≡ Some x
at_next {X} all done left rest x split is = ap (λ (xs : List X). slice_get xs (length done)) (split ∙ ap (λ (xs : List X). done ++ xs) is) ∙ after_done done rest x

-- those that are done are the first part
pub part_done : {X : Type 0} (all done left : List X) → all ≡ done ++ left → take (length done) all ≡ done
part_done {X} all done left split = ap (λ (xs : List X). take (length done) xs) split ∙ cut done left
  where
    cut : (xs ys : List X) → take (length xs) (xs ++ ys) ≡ xs
    cut [] ys = refl
    cut (x ∷ xs) ys = ap (λ (zs : List X). x ∷ zs) (cut xs ys)
