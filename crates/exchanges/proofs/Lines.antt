-- The lines before and after one of them.
use Rattle.std.proofs.Common.{◌≡◌, ℕ, ◌+◌, ◌<◌, List, [], ◌∷◌, ◌++◌, length, get_or, take, drop, sym, ap, ◌∙◌}
use Rattle.std.proofs.lemmas.List.{take_more, drop_more, take-append-drop}

-- lines around the one at i
pub lines_around : (ls : List (List ℕ)) (i : ℕ) (l m : List ℕ) → i < length ls → l ≡ get_or ls i l → m ≡ l → ls ≡ take i ls ++ ((m ∷ []) ++ drop (i + 1) ls)
lines_around ls i l m low at same =
    sym (take-append-drop i ls) ∙ ap (λ (t : List (List ℕ)). take i ls ++ t) (drop_more ls i l low ∙ ap (λ (x : List ℕ). x ∷ drop (i + 1) ls) (sym at ∙ sym same))

-- one line more
pub lines_more : (ls : List (List ℕ)) (i : ℕ) (l m : List ℕ) → i < length ls → l ≡ get_or ls i l → m ≡ l → take i ls ++ m ∷ [] ≡ take (i + 1) ls
lines_more ls i l m low at same =
    ap (λ (x : List ℕ). take i ls ++ x ∷ []) (same ∙ at) ∙ sym (take_more ls i l low)
