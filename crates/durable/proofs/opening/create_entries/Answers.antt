use Rattle.std.proofs.Common.{◌≡◌}
use Rattle.sqlite.specs.Held.{state}
use Rattle.sqlite.specs.State.{HasCleanDisk, State}
use Rattle.durable.specs.Opening.{IsEmpty}
use Rattle.store_tables.specs.Within.{IsWithin}
use Rattle.store_tables.specs.Tables.{AboutFirst, store_schema}
use Rattle.store_tables.proofs.Steps.{was_clean}
use Rattle.durable.proofs.Opened.{entries_ok}
use Rattle.durable.proofs.opening.create_entries.Goals as goal

abbrev new : (g : _) → goal.In_ok-execute g → State
new g c = state g.S.Store c.execute.new.self.conn.now

both : (g : _) (c : goal.In_ok-execute g) → HasCleanDisk (new g c) → IsWithin (new g c) IsEmpty × ((new g c).now.schema ≡ store_schema AboutFirst)
both g c clean =
    let old = state g.S.Store c.args.tx.now.conn.now in
    let inside = c.requires.inside (was_clean old (new g c) _ c.execute.ensures.survives clean) in
    entries_ok old (new g c) c.in_ok-execute.field-0 inside (c.in_ok-execute.ensures.runs clean inside.inside)

pub returns-clause-inside : goal.returns-clause-inside
returns-clause-inside g c clean = (both g c clean).0

pub returns-clause-tables : goal.returns-clause-tables
returns-clause-tables g c clean = (both g c clean).1
