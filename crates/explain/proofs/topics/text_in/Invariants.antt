use Rattle.std.proofs.Common.{◌≡◌}
use Rattle.std.specs.List.{AllWithin}
use Rattle.explain.proofs.topics.text_in.Given as goal

abbrev pub invariant-loop-name : goal.invariant-loop-name
invariant-loop-name l = AllWithin (λ t. t.0.now ≡ l.fn.word → ⊥) l.fn.table 0 l.name-index
