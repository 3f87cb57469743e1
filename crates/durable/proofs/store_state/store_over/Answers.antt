use Rattle.std.proofs.Common.{◌≡◌, sym, subst}
use Rattle.sqlite.specs.Files.{over_files, file_state}
use Rattle.durable.specs.Connected as connected
use Rattle.durable.specs.Opening.{MayComeOf}
use Rattle.store_migration.specs.Migrating.{IsOpenedAs}
use Rattle.durable.proofs.Sparing.{spared}
use Rattle.durable.proofs.store_state.store_over.Goals as goal

pub returns-in-Ok-clause-opened : goal.returns-in-Ok-clause-opened
returns-in-Ok-clause-opened g c = λ honest.
    subst (λ k. IsOpenedAs (file_state c.args.conn).committed.trees (connected.content over_files k)) (sym c.new.ensures.value)
    (c.in-Ok.ensures.opened (subst (λ k. connected.IsHonest over_files k) c.new.ensures.value honest))

pub returns-in-Err-clause-unharmed : goal.returns-in-Err-clause-unharmed
returns-in-Err-clause-unharmed g c = λ judged.
    let gone = c.files_of.ensures in
    spared g.D.Disk c.files_of.result _ (λ next. next ≡ (file_state c.args.conn).committed.trees) gone.holds (λ honest db left. (c.in-Err.ensures.settled (gone.honest honest)).unharmed judged db left)

pub returns-in-Err-clause-spared : goal.returns-in-Err-clause-spared
returns-in-Err-clause-spared g c =
    let gone = c.files_of.ensures in
    spared g.D.Disk c.files_of.result _ (MayComeOf c.args.name.now (file_state c.args.conn).committed) gone.holds (λ honest db left. (c.in-Err.ensures.settled (gone.honest honest)).crash db left)
