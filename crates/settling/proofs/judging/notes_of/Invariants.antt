use Rattle.std.proofs.Common.{◌≡◌, take, map}
use Rattle.std.specs.List.{flat_map}
use Rattle.node_state.specs.Rooms.{TellNoRecord}
use Rattle.settling.proofs.judging.notes_of.Given as goal

abbrev pub invariant-loop-seat : goal.invariant-loop-seat
invariant-loop-seat l = record {
  notes : map (λ note. note.now) l.all.items ≡ flat_map (λ seat. seat.notes) (take l.seat-index l.seats);
  no_record : TellNoRecord (map (λ note. note.now) l.all.items);
}
