use Rattle.std.proofs.Common.{arith, refl}
use Rattle.std.proofs.lemmas.Grind.{common_steps}
use Rattle.settling.proofs.NotesOfSeats.{one_noted}
use Rattle.settling.proofs.judging.add_notes.Goals as goal

pub loop-note-preserved : goal.loop-note-preserved
loop-note-preserved c =
    rw c.in_ok-push.ensures.items
    (one_noted (λ note. note.now) c.loop-note.all.items c.args.all.now.items _ c.args.notes.now c.loop-note.note-index c.note-item.result c.loop-note-test.true c.note-item.is refl c.loop-note.invariant)

pub returns : goal.returns
returns c = grind (arith, common_steps)
