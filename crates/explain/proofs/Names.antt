-- The names of topics differ. The proof computes this.
use Rattle.std.proofs.Common.{◌≡◌, ◌∙◌, ◌&&◌, ℕ, Bool, List, [], ◌∷◌, not, refl, sym, false, true}
use Rattle.std.proofs.lemmas.Map.Views.{lookup-from_Contains}
use Rattle.std.proofs.lemmas.Cmp.{nat_list_eq_equiv}
use Rattle.std.proofs.lemmas.Bool.{not-true}
use Rattle.std.proofs.lemmas.Option.{same_Some}
use Rattle.std.specs.Cmp.{first_so, second_so}
use Rattle.std.specs.List.{AllByRecursion, IsDistinct}
use Rattle.std.specs.Map.{keys_of}
use Rattle.std.specs.Str.{bytes_eq}
use Rattle.explain.specs.Topics.{Has, format_topics, topics}

-- the text differs from each of the others
differs : List ℕ → List (List ℕ) → Bool
differs x [] = true
differs x (y ∷ ys) = not (bytes_eq x y) && differs x ys

all_differ : List (List ℕ) → Bool
all_differ [] = true
all_differ (x ∷ xs) = differs x xs && all_differ xs

each_other : (x : List ℕ) (ys : List (List ℕ)) → differs x ys ≡ true → AllByRecursion (λ y. bytes_eq x y ≡ false) ys
unfolding differs
each_other x [] e = tt
each_other x (y ∷ ys) e = (not-true (bytes_eq x y) (first_so (not (bytes_eq x y)) (differs x ys) e), each_other x ys (second_so (not (bytes_eq x y)) (differs x ys) e))

distinct : (xs : List (List ℕ)) → all_differ xs ≡ true → IsDistinct bytes_eq xs
unfolding all_differ IsDistinct
distinct [] e = tt
distinct (x ∷ xs) e = (each_other x xs (first_so (differs x xs) (all_differ xs) e), distinct xs (second_so (differs x xs) (all_differ xs) e))

topics_differ : all_differ (keys_of topics) ≡ true
unfolding all_differ differs format_topics topics
topics_differ = refl

pub one_text : (word first second : List ℕ) → Has topics word first → Has topics word second → first ≡ second
one_text word first second a b =
    same_Some first second (sym (lookup-from_Contains nat_list_eq_equiv word first topics (distinct (keys_of topics) topics_differ) a)
    ∙ lookup-from_Contains nat_list_eq_equiv word second topics (distinct (keys_of topics) topics_differ) b)
