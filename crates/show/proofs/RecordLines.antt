-- The lines of records, with one record more.
use Rattle.std.proofs.Common.{◌≡◌, ℕ, ◌+◌, ◌<◌, List, [], ◌∷◌, ◌++◌, length, take, get_or, refl, sym, ap, ◌∙◌, arith}
use Rattle.std.proofs.lemmas.List.{length-take, take_more}
use Rattle.wire.specs.declared.input.Input.{Input}
use Rattle.report.specs.declared.form.Form.{Form}
use Rattle.show.specs.Show.{record_line, record_lines}
use Rattle.report.proofs.NumberedLines.{lines_more}

record_lines-snoc : (form : Form) (n : ℕ) (xs : List Input) (x : Input) → record_lines form n (xs ++ x ∷ []) ≡ record_lines form n xs ++ record_line form (n + length xs) x
record_lines-snoc form n xs x = lines_more (record_line form) (record_lines form) (λ k. refl) (λ k y ys. refl) n xs x

pub records_more : (form : Form) (now new : List ℕ) (first : ℕ) (xs : List Input) (i place : ℕ) (x : Input) → i < length xs → x ≡ get_or xs i x → place ≡ first + i
    → now ≡ record_lines form first (take i xs) → new ≡ now ++ record_line form place x → new ≡ record_lines form first (take (i + 1) xs)
records_more form now new first xs i place x low item at so_far step =
    let most = length-take i xs in
    let same : place ≡ first + length (take i xs) = omega arith in
    step ∙ ap (λ (l : List ℕ). l ++ record_line form place x) so_far
    ∙ ap (λ (k : ℕ). record_lines form first (take i xs) ++ record_line form k x) same
    ∙ sym (record_lines-snoc form first (take i xs) x)
    ∙ ap (record_lines form first) (sym (take_more xs i x low ∙ ap (λ (y : Input). take i xs ++ y ∷ []) (sym item)))
