use Rattle.std.proofs.Common.{◌≡◌, ◌+◌, length}
use Rattle.std.specs.Iterator.Adapters.{zip_first, zip_second}
use Rattle.std.specs.Slice.Iter.{iter_rest}
use Rattle.serving.specs.Answers.{first_undone}
use Rattle.serving.proofs.answer.first_undone.Given as goal

abbrev pub invariant-loop-line : goal.invariant-loop-line
invariant-loop-line l = record {
  number : l.number + length (iter_rest (zip_first l.line-iterator)) ≡ length l.lines;
  undone : first_undone 1 l.lines l.answers ≡ first_undone (l.number + 1) (iter_rest (zip_first l.line-iterator)) (iter_rest (zip_second l.line-iterator));
}
