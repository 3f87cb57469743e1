use Rattle.std.proofs.Common.{ap}
use Rattle.std.specs.FinMap.{from_entries}
use Rattle.status.specs.Id.{id_cmp}
use Rattle.initiator.specs.Transfers.{transfers_by_id}
use Rattle.initiator.proofs.initiator.Initiator.new.Goals as goal

pub returns : goal.returns
unfolding transfers_by_id
returns c = ap (λ es. record { code = c.args.code; last = 0; transfers = from_entries {R = id_cmp} es }) c.new.ensures.empty
