use Rattle.std.proofs.Common.{ap, inr}
use Rattle.node_state.specs.declared.notes.Note.{Note}
use Rattle.desk.proofs.locked.query_some.Goals as goal

pub returns-clause-told : goal.returns-clause-told
returns-clause-told g c = inr (c.args.state.now, ap (λ (note : Note). note.told) c.query.ensures, ap (λ (note : Note). note.length) c.query.ensures)
