use Rattle.std.proofs.Common.{◌≡◌, length, map, take}
use Rattle.weave.proofs.cores.lengths_of.Given as goal

abbrev pub invariant-loop-journal : goal.invariant-loop-journal
invariant-loop-journal l = l.lengths.items ≡ map (λ j. length j.now) (take l.journal-index l.journals)
