use Rattle.std.proofs.Common.{◌≡◌, ℕ, ◌+◌, List, [], ◌∷◌, true, cond, length, sym, ap, ◌∙◌, rules, arith}
use Rattle.std.specs.List.{fold}
use Rattle.std.specs.FinMap.{entries, len, len-entries}
use Rattle.units.proofs.block_set.BlockSet.count.Goals as goal

counted_from : {X : Type 0} (n : ℕ) (xs : List X) → fold (λ a (x : X). a + cond true 1 0) n xs ≡ length xs + n
counted_from n [] = omega arith
counted_from n (x ∷ xs) = counted_from (n + 1) xs ∙ omega arith

all_counted : {X : Type 0} (xs : List X) → fold (λ a (x : X). a + cond true 1 0) 0 xs ≡ length xs
all_counted xs = counted_from 0 xs ∙ omega arith

pub returns : goal.returns
returns c =
    c.count_where.ensures (λ k. true) (λ m r h. search rules)
    ∙ all_counted (entries c.self.inside.kinds)
    ∙ sym (len-entries c.self.inside.kinds)
    ∙ ap len c.self.view_is
