use Rattle.serving.proofs.Hearing.{grows_asked, heard_question}
use Rattle.serving.proofs.Noting.{notes_asked}
use Rattle.serving.proofs.Ordering.{adds_question}
use Rattle.serving.proofs.asking.question.Goals as goal

pub returns-clause-grows : goal.returns-clause-grows
returns-clause-grows g c = grows_asked _ _ _ _ _ c.query-taken.ensures.seat c.confirmed.ensures

pub returns-clause-heard : goal.returns-clause-heard
returns-clause-heard g c = heard_question c.args.seat.now c.query-taken.new.seat c.confirmed.new.seat _ _ _ c.query-taken.ensures.asked c.query-taken.ensures.told c.query-taken.ensures.seat c.confirmed.ensures

pub returns-clause-adds : goal.returns-clause-adds
returns-clause-adds g c = adds_question c.args.seat.now c.query-taken.new.seat c.confirmed.new.seat _ _ _ c.query-taken.ensures.asked c.query-taken.ensures.seat c.confirmed.ensures

pub returns-clause-notes : goal.returns-clause-notes
returns-clause-notes g c = notes_asked c.args.seat.now c.query-taken.new.seat c.confirmed.new.seat _ _ _ c.query-taken.ensures.asked c.query-taken.ensures.seat c.confirmed.ensures
