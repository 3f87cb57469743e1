-- The lines of answers, one after another.
use Rattle.std.proofs.Common.{◌≡◌, ◌∙◌, ◌+◌, ℕ, zero, suc, List, [], ◌∷◌, ◌++◌, take, Some, sym, ap, arith, append-nil, append_assoc}
use Rattle.std.specs.Prelude.{slice_get}
use Rattle.units.proofs.Lists.OneValue.{one_some}
use Rattle.serving.specs.Answers.{answer_line, answer_lines}
use Rattle.serving.specs.declared.answer.ScriptAnswer.{ScriptAnswer}

lines_more : (n k : ℕ) (xs : List ScriptAnswer) (x : ScriptAnswer) → slice_get xs k ≡ Some x → answer_lines n (take (suc k) xs) ≡ answer_lines n (take k xs) ++ answer_line (n + k) x
lines_more n zero [] x is = absurd (cc (is))
lines_more n (suc k) [] x is = absurd (cc (is))
lines_more n zero (y ∷ xs) x is =
    append-nil (answer_line n y) ∙ ap (answer_line n) (one_some y x is) ∙ ap (λ (m : ℕ). answer_line m x) (omega arith)
lines_more n (suc k) (y ∷ xs) x is =
    ap (λ (t : List ℕ). answer_line n y ++ t) (lines_more (n + 1) k xs x is)
    ∙ sym (append_assoc (answer_line n y) (answer_lines (n + 1) (take k xs)) (answer_line (n + 1 + k) x))
    ∙ ap (λ (m : ℕ). (answer_line n y ++ answer_lines (n + 1) (take k xs)) ++ answer_line m x) (omega arith)

pub text_more : (old new : List ℕ) (number i : ℕ) (xs : List ScriptAnswer) (x : ScriptAnswer) → slice_get xs i ≡ Some x → number ≡ i → old ≡ answer_lines 1 (take i xs)
    → new ≡ old ++ answer_line (number + 1) x → new ≡ answer_lines 1 (take (i + 1) xs)
text_more old new number i xs x is same was added =
    let next : number + 1 ≡ 1 + i = omega (arith, same) in
    let longer : suc i ≡ i + 1 = omega arith in
    added ∙ ap (λ (t : List ℕ). t ++ answer_line (number + 1) x) was ∙ ap (λ (m : ℕ). answer_lines 1 (take i xs) ++ answer_line m x) next
    ∙ sym (lines_more 1 i xs x is) ∙ ap (λ (m : ℕ). answer_lines 1 (take m xs)) longer
