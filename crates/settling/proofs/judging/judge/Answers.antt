use Rattle.std.proofs.Common.{map, sym, subst}
use Rattle.std.specs.Prelude.{IsPermutation}
use Rattle.std.specs.List.{All, flat_map}
use Rattle.node_state.specs.declared.notes.Note.{Note}
use Rattle.node_state.specs.Rooms.{IsNoRecord}
use Rattle.node_state.specs.Views.{SeatView}
use Rattle.settling.proofs.NotesOfSeats.{all_before, found_in_seats}
use Rattle.settling.proofs.judging.judge.Goals as goal

pub returns-clause-found : goal.returns-clause-found
returns-clause-found g c =
    let moved = subst (λ notes. IsPermutation (flat_map (λ (s : SeatView). s.notes) c.args.seats.now) (map (λ note. note.now) notes)) (sym c.as_slice.ensures.value) c.in_ok-notes.ensures.notes in
    found_in_seats (λ note. note.now) (g.C.NodeCore.scheme_of c.args.core.now) (g.C.NodeCore.node_of c.args.core.now) c.args.seats.now c.as_slice.result.now c.journal.result.now c.args.state.now.journal
    c.journal.ensures.value moved c.unborne_of.result c.unborne_of.ensures.found

pub unborne_of-requires-clause-no_record : goal.unborne_of-requires-clause-no_record
unborne_of-requires-clause-no_record g c =
    subst (All (λ note. IsNoRecord (note.now.told))) (sym c.as_slice.ensures.value) (all_before (λ note. note.now) (λ (note : Note). IsNoRecord (note.told)) c.in_ok-notes.notes.items c.in_ok-notes.ensures.no_record)
