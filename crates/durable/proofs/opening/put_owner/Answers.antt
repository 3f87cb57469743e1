use Rattle.std.proofs.Common.{◌≡◌, ap₂, pos, to_z, of_z, w64, [], ◌∷◌, rules}
use Rattle.sqlite.specs.declared.types.Value.TheVariants.{Int, Text}
use Rattle.sqlite.specs.Held.{state}
use Rattle.sqlite.specs.State.{HasCleanDisk, State}
use Rattle.wire.specs.Records.{number_of}
use Rattle.store_tables.specs.Formats.{newest}
use Rattle.durable.specs.Opening.{HasFresh}
use Rattle.store_tables.specs.Within.{IsWithin}
use Rattle.store_tables.proofs.Steps.{was_clean}
use Rattle.durable.proofs.Opened.{owner_ok}
use Rattle.durable.proofs.opening.put_owner.Goals as goal

abbrev old : (g : _) → goal.In_ok-execute g → State
old g c = state g.S.Store c.args.tx.now.conn.now

abbrev new : (g : _) → goal.In_ok-execute g → State
new g c = state g.S.Store c.execute.new.self.conn.now

both : (g : _) (c : goal.In_ok-execute g) → HasCleanDisk (new g c) → IsWithin (new g c) (HasFresh c.args.node.now) × ((new g c).now.schema ≡ (old g c).now.schema)
both g c clean =
    let inside = c.requires.inside (was_clean (old g c) (new g c) _ c.execute.ensures.survives clean) in
    let told : c.from.result ≡ pos (number_of newest) = search rules in
    owner_ok (old g c) (new g c) c.args.node.now _ c.in_ok-execute.field-0 (ap₂ (λ z t. Int (to_z w64 (of_z w64 z)) ∷ Text t ∷ []) told c.as_bytes.ensures.value) inside (c.in_ok-execute.ensures.runs clean inside.inside)

pub returns-clause-inside : goal.returns-clause-inside
returns-clause-inside g c clean = (both g c clean).0

pub returns-clause-tables : goal.returns-clause-tables
returns-clause-tables g c clean = (both g c clean).1
