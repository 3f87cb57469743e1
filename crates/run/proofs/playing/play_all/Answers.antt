use Rattle.std.proofs.Common.{◌∙◌, ◌<◌, length, refl, arith}
use Rattle.ended_nodes.proofs.Settling.{found_at}
use Rattle.serving.proofs.HeardLines.{heard_next}
use Rattle.serving.proofs.Ordering.{orders_next, played_none}
use Rattle.run.proofs.playing.play_all.Goals as goal

pub loop-line-init : goal.loop-line-init
loop-line-init g c = record {
  played = played_none c.args.scheme.now c.in_ok-answers.answers.items c.args.seats.now c.in_ok-answers.ensures.items c.requires.none;
  count = refl;
}

pub loop-line-preserved : goal.loop-line-preserved
loop-line-preserved g c =
    let below : c.loop-line.line-index < length c.args.lines.now = omega (arith, c.loop-line-test.true, c.loop-line.auto.line-index-end) in
    let played = c.loop-line.invariant.played in
    let at = found_at c.args.lines.now c.args.lines.now c.loop-line.line-index c.line-item.result refl c.line-item.is below in
    record {
      played = record {
        heard = heard_next c.args.scheme.now c.loop-line.seats c.play-answer.new.seats c.args.lines.now c.loop-line.line-index c.loop-line.answers.items _ c.line-item.result _ at c.play-answer.ensures.grow played.heard c.play-answer.ensures.heard c.in_ok-push.ensures;
        orders = orders_next c.args.scheme.now c.loop-line.seats c.play-answer.new.seats c.args.lines.now c.loop-line.line-index c.loop-line.answers.items _ c.line-item.result _ at played.heard.count played.orders c.play-answer.ensures.orders c.in_ok-push.ensures;
      };
      count = c.play-answer.ensures.count ∙ c.loop-line.invariant.count;
    }
