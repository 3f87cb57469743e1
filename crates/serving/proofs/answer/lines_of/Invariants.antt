use Rattle.std.proofs.Common.{◌≡◌, string_bytes, take}
use Rattle.serving.specs.Answers.{answer_lines}
use Rattle.serving.proofs.answer.lines_of.Given as goal

abbrev pub invariant-loop-answer : goal.invariant-loop-answer
invariant-loop-answer l = record {
  number : l.number ≡ l.answer-index;
  text : string_bytes l.text ≡ answer_lines 1 (take l.answer-index l.answers);
}
