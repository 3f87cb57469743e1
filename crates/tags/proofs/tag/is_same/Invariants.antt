use Rattle.std.proofs.Common.{◌≡◌, ℕ, ◌<◌, get_or}
use Rattle.tags.proofs.tag.is_same.Given as goal

abbrev pub invariant-loop-i : goal.invariant-loop-i
invariant-loop-i l = record {
  same : l.differing ≡ 0 → (k : ℕ) → k < l.i → get_or l.these k 0 ≡ get_or l.those k 0;
  zero : l.these ≡ l.those → l.differing ≡ 0;
}
