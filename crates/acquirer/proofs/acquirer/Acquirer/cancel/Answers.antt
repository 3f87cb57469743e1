use Rattle.std.proofs.Common.{ap}
use Rattle.std.specs.Option.{option_map}
use Rattle.status.specs.Id.{same_id}
use Rattle.status.specs.declared.status.Status.TheVariants as words
use Rattle.acquirer.specs.Transfers.{finished}
use Rattle.acquirer.proofs.Tables.{changed_at}
use Rattle.acquirer.proofs.acquirer.Acquirer.cancel.Goals as goal

pub returns-clause-transfers : goal.returns-clause-transfers
returns-clause-transfers c t =
    changed_at (option_map (finished words.Cancelled)) (same_id c.args.id t) c.finish.new.transfers c.self.inside.transfers c.args.self.now.transfers t (ap (λ a. a.transfers) c.self.view_is) (c.finish.ensures.transfers t)
