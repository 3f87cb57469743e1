use Rattle.std.proofs.Common.{sym, ap, ◌∙◌}
use Rattle.acquirer.proofs.Tables.{seen}
use Rattle.acquirer.proofs.acquirer.Acquirer.transfer.Goals as goal

pub returns : goal.returns
returns c = c.get.ensures.value ∙ sym (seen c.self.inside.transfers c.args.self.now.transfers (ap (λ a. a.transfers) c.self.view_is) c.args.id)
