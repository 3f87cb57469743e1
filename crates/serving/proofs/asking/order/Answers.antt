use Rattle.serving.proofs.Hearing.{grows_asked, heard_order}
use Rattle.serving.proofs.Noting.{notes_asked}
use Rattle.serving.proofs.Ordering.{adds_order}
use Rattle.serving.proofs.asking.order.Goals as goal

pub returns-clause-grows : goal.returns-clause-grows
returns-clause-grows g c = grows_asked _ _ _ _ _ c.take-taken.ensures.seat c.confirmed.ensures

pub returns-clause-heard : goal.returns-clause-heard
returns-clause-heard g c = heard_order c.args.seat.now c.take-taken.new.seat c.confirmed.new.seat _ _ _ c.take-taken.ensures.asked c.take-taken.ensures.told c.take-taken.ensures.seat c.confirmed.ensures

pub returns-clause-adds : goal.returns-clause-adds
returns-clause-adds g c = adds_order c.args.seat.now c.take-taken.new.seat c.confirmed.new.seat _ _ _ c.take-taken.ensures.asked c.take-taken.ensures.told c.take-taken.ensures.seat c.confirmed.ensures

pub returns-clause-notes : goal.returns-clause-notes
returns-clause-notes g c = notes_asked c.args.seat.now c.take-taken.new.seat c.confirmed.new.seat _ _ _ c.take-taken.ensures.asked c.take-taken.ensures.seat c.confirmed.ensures
