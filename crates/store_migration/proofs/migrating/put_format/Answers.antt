use Rattle.std.proofs.Common.{◌≡◌, pos, [], ◌∷◌, ap, to_z, of_z, w64, rules}
use Rattle.sqlite.specs.State.{HasCleanDisk, State, KeepsCommit}
use Rattle.sqlite.specs.Held.{state}
use Rattle.sqlite.specs.declared.types.Value.TheVariants.{Int}
use Rattle.wire.specs.declared.record_format.RecordFormat.TheVariants.{One, Two}
use Rattle.wire.specs.Records.{number_of}
use Rattle.store_tables.specs.Held.{slots_in}
use Rattle.store_migration.proofs.MigratingSteps.{Rewrites, rewritten_inside, format_ok}
use Rattle.store_migration.proofs.migrating.put_format.Goals as goal

abbrev old : (g : _) → goal.In_ok-execute g → State
old g c = state g.S.Store c.args.tx.now.conn.now

abbrev new : (g : _) → goal.In_ok-execute g → State
new g c = state g.S.Store c.execute.new.self.conn.now

it : (g : _) (c : goal.In_ok-execute g) → HasCleanDisk (new g c) → Rewrites Two (slots_in (old g c).now.trees) (old g c) (new g c) × KeepsCommit (old g c) (new g c)
it g c =
    let told : c.from.result ≡ pos (number_of Two) = search rules in
    rewritten_inside One Two _ _ _ (old g c) (new g c) c.in_ok-execute.field-0 _ c.execute.ensures.survives c.requires.inside c.in_ok-execute.ensures.runs
    (format_ok One Two (old g c) (new g c) _ c.in_ok-execute.field-0 (ap (λ z. Int (to_z w64 (of_z w64 z)) ∷ []) told))

pub returns-clause-inside : goal.returns-clause-inside
returns-clause-inside g c clean = (it g c clean).0.0

pub returns-clause-put : goal.returns-clause-put
returns-clause-put g c clean = (it g c clean).0.1

pub returns-clause-schema : goal.returns-clause-schema
returns-clause-schema g c clean = (it g c clean).0.2

pub returns-clause-kept : goal.returns-clause-kept
returns-clause-kept g c clean = (it g c clean).1
