-- Words with one space between them: a line is cut into words in one way.
use Rattle.std.proofs.Common.{◌≡◌, ℕ, ◌<◌, List, [], ◌∷◌, ◌++◌, length, refl, sym, ap, ◌∙◌, arith, subst}
use Rattle.std.specs.List.{AllByRecursion}
use denote.Ref.{Bor}
use Rattle.units.specs.Text.{IsFreeOf}
use Rattle.units.proofs.Cuts.{cut_once, cut_not_free}
use Rattle.input_lines.specs.Words.{AreCut, spaced, texts}

-- ---- one word more

pub texts_more : (words : List (Bor (List ℕ))) (w : Bor (List ℕ)) → texts (words ++ w ∷ []) ≡ texts words ++ w.now ∷ []
texts_more [] w = refl
texts_more (x ∷ xs) w = ap (λ (l : List (List ℕ)). x.now ∷ l) (texts_more xs w)

pub all_more : {X : Type 0} (P : X → Type 0) (xs : List X) (x : X) → AllByRecursion P xs → P x → AllByRecursion P (xs ++ x ∷ [])
all_more P [] x all here = (here, tt)
all_more P (y ∷ ys) x all here = (all.0, all_more P ys x all.1 here)

-- the last word cut in two
spaced_more : (words : List (List ℕ)) (word after : List ℕ) → spaced (words ++ (word ++ 32 ∷ after) ∷ []) ≡ spaced ((words ++ word ∷ []) ++ after ∷ [])
spaced_more [] word after = refl
spaced_more (x ∷ []) word after = refl
spaced_more (x ∷ y ∷ ys) word after = ap (λ (l : List ℕ). x ++ 32 ∷ l) (spaced_more (y ∷ ys) word after)

some_more : {X : Type 0} (xs : List X) (x : X) → 0 < length (xs ++ x ∷ [])
some_more [] x = omega arith
some_more (y ∷ ys) x = omega arith

-- the words so far, and the rest of the line
pub record Passed (line : List ℕ) (words : List (List ℕ)) (rest : List ℕ) : Type 0 where
  pub spelled : line ≡ spaced (words ++ rest ∷ [])
  pub free : AllByRecursion (IsFreeOf 32) words

pub passed_more : (line : List ℕ) (words : List (Bor (List ℕ))) (rest after : List ℕ) (w : Bor (List ℕ)) → Passed line (texts words) rest → rest ≡ w.now ++ 32 ∷ after → IsFreeOf 32 w.now
    → Passed line (texts (words ++ w ∷ [])) after
passed_more line words rest after w passed cut free = subst (λ ws. Passed line ws after) (sym (texts_more words w)) (record {
  spelled = passed.spelled ∙ ap (λ r. spaced (texts words ++ r ∷ [])) cut ∙ spaced_more (texts words) w.now after;
  free = all_more (IsFreeOf 32) (texts words) w.now passed.free free;
})

pub passed_whole : (line : List ℕ) (words : List (Bor (List ℕ))) (w : Bor (List ℕ)) → Passed line (texts words) w.now → IsFreeOf 32 w.now → AreCut line (texts (words ++ w ∷ []))
passed_whole line words w passed free = subst (AreCut line) (sym (texts_more words w)) (record {
  some = some_more (texts words) w.now;
  spelled = passed.spelled;
  free = all_more (IsFreeOf 32) (texts words) w.now passed.free free;
})

-- ---- one cut

no_cut : (words a b : List ℕ) → IsFreeOf 32 words → words ≡ a ++ 32 ∷ b → ⊥
no_cut words a b free e = cut_not_free 32 a b (subst (IsFreeOf 32) e free)

one_spaced : (ws vs : List (List ℕ)) → 0 < length ws → 0 < length vs → AllByRecursion (IsFreeOf 32) ws → AllByRecursion (IsFreeOf 32) vs → spaced ws ≡ spaced vs → ws ≡ vs
one_spaced [] vs s t p q e = absurd (omega arith)
one_spaced (w ∷ ws) [] s t p q e = absurd (omega arith)
one_spaced (w ∷ []) (v ∷ []) s t p q e = ap (λ (x : List ℕ). x ∷ []) e
one_spaced (w ∷ []) (v ∷ u ∷ us) s t p q e = absurd (no_cut w v (spaced (u ∷ us)) p.0 e)
one_spaced (w ∷ x ∷ xs) (v ∷ []) s t p q e = absurd (no_cut v w (spaced (x ∷ xs)) q.0 (sym e))
one_spaced (w ∷ x ∷ xs) (v ∷ u ∷ us) s t p q e =
    let c = cut_once 32 w (spaced (x ∷ xs)) v (spaced (u ∷ us)) p.0 q.0 e in
    let rest = one_spaced (x ∷ xs) (u ∷ us) (omega arith) (omega arith) p.1 q.1 c.1 in
    ap (λ (y : List ℕ). y ∷ x ∷ xs) c.0 ∙ ap (λ (l : List (List ℕ)). v ∷ l) rest

pub one_cut : (line : List ℕ) (ws vs : List (List ℕ)) → AreCut line ws → AreCut line vs → ws ≡ vs
one_cut line ws vs p q = one_spaced ws vs p.some q.some p.free q.free (sym p.spelled ∙ q.spelled)
