use Rattle.std.proofs.Common.{◌≡◌, ◌++◌, take, map}
use Rattle.settling.proofs.judging.add_notes.Given as goal

abbrev pub invariant-loop-note : goal.invariant-loop-note
invariant-loop-note l = map (λ note. note.now) l.all.items ≡ map (λ note. note.now) l.initial.all.items ++ take l.note-index l.notes
