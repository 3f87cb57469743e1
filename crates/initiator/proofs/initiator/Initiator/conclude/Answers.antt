use Rattle.std.proofs.Common.{ap}
use Rattle.std.specs.Option.{option_map}
use Rattle.status.specs.Id.{same_id}
use Rattle.initiator.specs.Transfers.{concluded}
use Rattle.initiator.proofs.Tables.{changed_at}
use Rattle.initiator.proofs.initiator.Initiator.conclude.Goals as goal

pub returns-clause-transfers : goal.returns-clause-transfers
returns-clause-transfers c t =
    changed_at (option_map (concluded c.args.new)) (same_id c.args.id t) c.conclude.new.transfers c.self.inside.transfers c.args.self.now.transfers t (ap (λ i. i.transfers) c.self.view_is) (c.conclude.ensures t)
