use Rattle.std.proofs.Common.{◌++◌, ◌∷◌, [], sym, ap, ◌∙◌, arith}
use Rattle.log_core.proofs.AgedTransfers.{aged_more, ids_more, parts_more}
use Rattle.log_core.proofs.cleaning.aged.Goals as goal

pub loop-waiting-preserved : goal.loop-waiting-preserved
loop-waiting-preserved c =
    let was = c.loop-waiting.invariant in
    let w = c.in-Some.waiting.now in (
      was.0 ++ w ∷ [],
      parts_more c.args.checked.now.keys was.0 c.loop-waiting.waiting-iterator c.next.new.self w was.1 c.in-Some.ensures.steps,
      aged_more c.args.moment.seconds was.0 w was.2 (omega arith),
      ids_more was.0 w ∙ ap (λ ids. ids ++ w.id ∷ []) was.3 ∙ sym c.in_ok-push.ensures.items,
      was.4,
    )
