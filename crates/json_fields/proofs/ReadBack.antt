-- Arrays that are read back as they were written.
use Rattle.std.proofs.Common.{◌≡◌, ℕ, ◌≤◌, List, [], ◌∷◌, Some, refl, arith}
use Rattle.std.specs.List.{AllByRecursion}
use Rattle.json.specs.Tree.{depth, items_depth}
use Rattle.serde_json.specs.Data.{Data}
use Rattle.serde_json.specs.Read.{of_json, of_items}
use Rattle.serde_json.specs.Written.{outline, items_outline}
use Rattle.json_fields.specs.Fields.{EachIs}
use Rattle.json_fields.specs.Objects.{items_with}

module _ {X : Type 0} (f : X → Data) where
  pub items_back : (P : X → Type 0) → ((x : X) → P x → of_json (outline (f x)) ≡ Some (f x)) → (xs : List X) → AllByRecursion P xs → of_items (items_outline (items_with f xs)) ≡ Some (items_with f xs)
  items_back P one [] all = refl
  items_back P one (x ∷ xs) all = rw (one x all.0, items_back P one xs all.1) refl

  pub items_shallow : (n : ℕ) → ((x : X) → depth (outline (f x)) ≤ n) → (xs : List X) → items_depth (items_outline (items_with f xs)) ≤ n
  items_shallow n one [] = omega arith
  items_shallow n one (x ∷ xs) = omega (arith, one x, items_shallow n one xs)

  pub each_written : (R : Data → X → Type 0) (P : X → Type 0) → ((x : X) → P x → R (f x) x) → (xs : List X) → AllByRecursion P xs → EachIs R (items_with f xs) xs
  each_written R P one [] all = tt
  each_written R P one (x ∷ xs) all = (one x all.0, each_written R P one xs all.1)
