use Rattle.std.proofs.Common.{List, map, subst}
use Rattle.std.specs.Prelude.{IsPermutation}
use Rattle.std.proofs.lemmas.List.Sorted.{IsPermutation-map}
use Rattle.std.proofs.lemmas.Map.Views.{All-map-IsPermutation}
use Rattle.node_state.specs.declared.notes.Note.{Note}
use Rattle.node_state.specs.Rooms.{IsNoRecord}
use Rattle.settling.proofs.judging.notes_by_length.Goals as goal

pub returns-clause-notes : goal.returns-clause-notes
returns-clause-notes c =
    subst (λ (notes : List Note). IsPermutation notes (map (λ note. note.now) c.sort_unstable_by_key.new.self.items)) c.in_ok-all.ensures.notes
    (IsPermutation-map (λ note. note.now) c.in_ok-all.all.items c.sort_unstable_by_key.new.self.items c.sort_unstable_by_key.ensures.permutation)

pub returns-clause-no_record : goal.returns-clause-no_record
returns-clause-no_record c = All-map-IsPermutation (λ note. note.now) (λ (note : Note). IsNoRecord (note.told)) c.in_ok-all.all.items c.sort_unstable_by_key.new.self.items c.sort_unstable_by_key.ensures.permutation c.in_ok-all.ensures.no_record
