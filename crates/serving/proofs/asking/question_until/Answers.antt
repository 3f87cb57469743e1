use Rattle.std.proofs.Common.{◌≡◌, arith, inl, inr, max}
use Rattle.serving.proofs.Hearing.{grows_on, same_seat}
use Rattle.serving.proofs.Noting.{awaited, first_wait, next_wait}
use Rattle.serving.proofs.Ordering.{adds_on}
use Rattle.serving.proofs.asking.question_until.Goals as goal

pub loop-asked-init : goal.loop-asked-init
loop-asked-init g c = record {
  heard = c.question-told.ensures.heard;
  grows = same_seat c.question-told.new.seat;
  adds = c.question-told.ensures.adds;
  waits = first_wait _ _ c.args.seat.now c.question-told.new.seat _ c.question-told.ensures.notes;
  most = omega arith;
}

pub loop-asked-preserved : goal.loop-asked-preserved
loop-asked-preserved g c = record {
  heard = c.question-told-in-loop-asked.ensures.heard;
  grows = grows_on c.question-told.new.seat c.loop-asked.seat c.question-told-in-loop-asked.new.seat c.loop-asked.invariant.grows c.question-told-in-loop-asked.ensures.grows;
  waits = next_wait _ _ _ c.args.seat.now c.loop-asked.seat c.question-told-in-loop-asked.new.seat _ _ c.loop-asked.invariant.waits c.loop-asked.invariant.heard (c.is_over.ensures.waits c.if-is_over.false) c.question-told-in-loop-asked.ensures.notes;
  adds = adds_on c.args.seat.now c.loop-asked.seat c.question-told-in-loop-asked.new.seat _ _ _ c.loop-asked.invariant.adds c.question-told-in-loop-asked.ensures.adds;
  most = omega (arith, c.loop-asked-test.true);
}

pub returns-after-loop-asked-clause-grows : goal.returns-after-loop-asked-clause-grows
returns-after-loop-asked-clause-grows g c = grows_on c.args.seat.now c.question-told.new.seat c.loop-asked.seat c.question-told.ensures.grows c.loop-asked.invariant.grows

pub returns-then-is_over-clause-grows : goal.returns-then-is_over-clause-grows
returns-then-is_over-clause-grows g c = grows_on c.args.seat.now c.question-told.new.seat c.loop-asked.seat c.question-told.ensures.grows c.loop-asked.invariant.grows

pub returns-after-loop-asked-clause-notes : goal.returns-after-loop-asked-clause-notes
returns-after-loop-asked-clause-notes g c =
    let all : c.loop-asked.asked ≡ max 1 c.args.awaited.turns = omega (arith, c.loop-asked-test.false, c.loop-asked.invariant.most) in
    awaited _ _ _ _ c.args.seat.now c.loop-asked.seat _ c.loop-asked.invariant.waits c.loop-asked.invariant.most (inr (inr all))

pub returns-then-is_over-clause-notes : goal.returns-then-is_over-clause-notes
returns-then-is_over-clause-notes g c =
    awaited _ _ _ _ c.args.seat.now c.loop-asked.seat _ c.loop-asked.invariant.waits c.loop-asked.invariant.most
    (elim (c.is_over.ensures.over c.if-is_over.true) [ inl has ↦ inl has | inr none ↦ inr (inl none) ])
