use Rattle.std.proofs.Common.{arith, map, sym, subst}
use Rattle.std.proofs.lemmas.Grind.{common_steps, elements}
use Rattle.std.proofs.lemmas.List.Elements.{All-append}
use Rattle.node_state.specs.declared.notes.Note.{Note}
use Rattle.node_state.specs.Rooms.{IsNoRecord, TellNoRecord}
use Rattle.node_state.specs.Views.{SeatView}
use Rattle.settling.proofs.NotesOfSeats.{seat_noted}
use Rattle.settling.proofs.judging.notes_of.Goals as goal

pub loop-seat-preserved : goal.loop-seat-preserved
loop-seat-preserved c =
    let own = c.notes.ensures in
    record {
      notes = seat_noted (λ note. note.now) (λ (s : SeatView). s.notes) c.add_notes.new.all.items c.loop-seat.all.items c.args.seats.now c.loop-seat.seat-index c.seat-item.result c.notes.result.now
          c.loop-seat-test.true c.seat-item.is own.value c.in_ok-add_notes.ensures c.loop-seat.invariant.notes;
      no_record = subst TellNoRecord (sym c.in_ok-add_notes.ensures)
          (All-append (λ (note : Note). IsNoRecord (note.told)) (map (λ note. note.now) c.loop-seat.all.items) c.notes.result.now c.loop-seat.invariant.no_record (subst TellNoRecord (sym own.value) own.no_record));
    }

pub returns-in_err-add_notes-clause-notes : goal.returns-in_err-add_notes-clause-notes
returns-in_err-add_notes-clause-notes c = grind (arith, elements)

pub returns-in_err-add_notes-clause-no_record : goal.returns-in_err-add_notes-clause-no_record
returns-in_err-add_notes-clause-no_record c = grind (arith, common_steps)

pub returns-clause-notes : goal.returns-clause-notes
returns-clause-notes c = grind (arith, common_steps)
