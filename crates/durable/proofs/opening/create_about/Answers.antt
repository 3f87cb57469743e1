use Rattle.sqlite.specs.Held.{state}
use Rattle.store_tables.proofs.Steps.{was_clean}
use Rattle.durable.proofs.Opened.{about_ok}
use Rattle.durable.proofs.opening.create_about.Goals as goal

pub returns-clause-inside : goal.returns-clause-inside
returns-clause-inside g c clean =
    let old = state g.S.Store c.args.tx.now.conn.now in
    let new = state g.S.Store c.execute.new.self.conn.now in
    let inside = c.requires.inside (was_clean old new _ c.execute.ensures.survives clean) in
    about_ok old new c.in_ok-execute.field-0 inside (c.in_ok-execute.ensures.runs clean inside.inside)
