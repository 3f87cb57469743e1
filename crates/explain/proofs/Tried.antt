-- The first of some names that a topic has.
use Rattle.std.proofs.Common.{◌≡◌, ◌<◌, ◌+◌, ◌∙◌, ℕ, Bool, List, [], ◌∷◌, None, Option, Some, ap, cond, drop, false, find, get_or, length, map, refl, subst, true}
use Rattle.std.proofs.lemmas.List.{drop_all, drop_more}
use Rattle.std.proofs.lemmas.List.Folds.{Any-from_list_any, list_any-from_Any}
use Rattle.std.proofs.lemmas.Slice.Eq.{bytes_eq-Decides}
use Rattle.std.specs.Str.{bytes_eq}
use Rattle.explain.specs.Topics.{Has, HasNone, is_topic, topics}

-- ---- one name

found : (name text : List ℕ) → Has topics name text → is_topic name ≡ true
found name text has = list_any-from_Any (λ t. bytes_eq t.0 name) topics (has.0, (name, text), has.1, has.2, (bytes_eq-Decides name name).1 refl)

not_found : (name : List ℕ) (test : Bool) → is_topic name ≡ test → HasNone topics name → test ≡ false
not_found name false e none = refl
not_found name true e none =
    let any = Any-from_list_any (λ t. bytes_eq t.0 name) topics e in
    let same : any.1.0 ≡ name = (bytes_eq-Decides any.1.0 name).0 any.4 in
    absurd (none any.1.1 (subst (λ n. Has topics n any.1.1) same (any.0, any.2, any.3)))

-- ---- names of values, from left to right

module _ {X : Type 0} (name_of : X → List ℕ) (xs : List X) (i : ℕ) (d : X) (lt : i < length xs) where
  here : (name : List ℕ) → name_of (get_or xs i d) ≡ name → (test : Bool) → is_topic name ≡ test
      → find is_topic (map name_of (drop i xs)) ≡ cond test (Some name) (find is_topic (map name_of (drop (i + 1) xs)))
  here name at test is =
      let rest : Option (List ℕ) = find is_topic (map name_of (drop (i + 1) xs)) in
      ap (λ ys. find is_topic (map name_of ys)) (drop_more xs i d lt)
      ∙ ap (λ n. cond (is_topic n) (Some n) rest) at
      ∙ ap (λ b. cond b (Some name) rest) is

  pub found_at : (name text : List ℕ) → find is_topic (map name_of xs) ≡ find is_topic (map name_of (drop i xs)) → name_of (get_or xs i d) ≡ name
      → Has topics name text → find is_topic (map name_of xs) ≡ Some name
  found_at name text before at has = before ∙ here name at true (found name text has)

  pub passed : (name : List ℕ) → find is_topic (map name_of xs) ≡ find is_topic (map name_of (drop i xs)) → name_of (get_or xs i d) ≡ name
      → HasNone topics name → find is_topic (map name_of xs) ≡ find is_topic (map name_of (drop (i + 1) xs))
  passed name before at none = before ∙ here name at false (not_found name (is_topic name) refl none)
