use Rattle.std.proofs.Common.{◌<◌, length, arith}
use Rattle.std.proofs.lemmas.Option.{slice_get-get_or}
use Rattle.serving.proofs.Lines.{text_more}
use Rattle.serving.proofs.answer.lines_of.Goals as goal

pub loop-answer-preserved : goal.loop-answer-preserved
loop-answer-preserved c =
    let below : c.loop-answer.answer-index < length c.args.answers.now = omega (arith, c.loop-answer-test.true, c.loop-answer.auto.answer-index-end) in
    record {
      number = omega (arith, c.loop-answer.invariant.number);
      text = text_more _ _ _ _ _ _ (slice_get-get_or c.args.answers.now c.loop-answer.answer-index _ below) c.loop-answer.invariant.number c.loop-answer.invariant.text c.in_ok-push_answer.ensures;
    }
