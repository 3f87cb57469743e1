use Rattle.std.proofs.Common.{◌≡◌, ℕ, List, ◌++◌, take, drop, true, bytes_eq, inl, sym, ap, ◌∙◌}
use Rattle.std.specs.Cmp.Lexicographic.{same_text}
use Rattle.std.proofs.lemmas.List.{take-append-drop}
use Rattle.command_faults.proofs.scheme_file.text_in.Goals as goal

ends : (bytes text mark : List ℕ) (n : ℕ) → bytes_eq (drop n bytes) mark ≡ true → text ≡ take n bytes → bytes ≡ text ++ mark
ends bytes text mark n same front =
    sym (take-append-drop n bytes) ∙ ap (λ (l : List ℕ). l ++ drop n bytes) (sym front) ∙ ap (λ (l : List ℕ). text ++ l) (same_text (drop n bytes) mark (sym same))

pub returns-in-Some : goal.returns-in-Some
returns-in-Some c = inl (ends _ _ _ _ c.in-Some.ensures.cases.0 c.in-Some.ensures.cases.1)
