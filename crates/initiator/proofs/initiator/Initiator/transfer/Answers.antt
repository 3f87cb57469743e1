use Rattle.std.proofs.Common.{sym, ap, ◌∙◌}
use Rattle.initiator.proofs.Tables.{seen}
use Rattle.initiator.proofs.initiator.Initiator.transfer.Goals as goal

pub returns : goal.returns
returns c = c.copied.ensures ∙ c.get.ensures.value ∙ sym (seen c.self.inside.transfers c.args.self.now.transfers (ap (λ i. i.transfers) c.self.view_is) c.args.id)
