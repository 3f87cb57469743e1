use Rattle.serving.proofs.Hearing.{same_seat}
use Rattle.serving.proofs.Noting.{notes_unasked}
use Rattle.serving.proofs.Ordering.{adds_unasked}
use Rattle.serving.proofs.asking.ask_copy.Goals as goal

pub returns-in-Err-clause-adds : goal.returns-in-Err-clause-adds
returns-in-Err-clause-adds g c = adds_unasked c.args.instruction.now c.args.seat.now

pub returns-in-Err-clause-notes : goal.returns-in-Err-clause-notes
returns-in-Err-clause-notes g c = notes_unasked c.args.instruction.now c.args.seat.now

pub returns-in-Err-clause-grows : goal.returns-in-Err-clause-grows
returns-in-Err-clause-grows g c = same_seat c.args.seat.now
