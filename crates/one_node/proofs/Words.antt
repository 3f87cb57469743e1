-- Bytes that were added to none.
use Rattle.std.proofs.Common.{◌≡◌, ℕ, List, [], ◌++◌, ap, ◌∙◌}

pub added_to_none : (old new more : List ℕ) → new ≡ old ++ more → old ≡ [] → new ≡ more
added_to_none old new more is none = is ∙ ap (λ (xs : List ℕ). xs ++ more) none
