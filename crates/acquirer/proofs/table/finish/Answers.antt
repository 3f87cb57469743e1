use Rattle.std.proofs.Common.{◌&&◌, not, sym, ap, ◌∙◌}
use Rattle.std.specs.BTreeMap as tree
use Rattle.status.proofs.Ids.{id_of_same}
use Rattle.status.specs.Id.{same_id, id_cmp}
use Rattle.acquirer.specs.Awaiting.{is_awaited_entry}
use Rattle.acquirer.specs.Transfers.{is_awaited_by}
use Rattle.acquirer.proofs.AwaitedTransfers.{awaited_finish}
use Rattle.acquirer.proofs.table.finish.Goals as goal

pub returns-clause-kept : goal.returns-clause-kept
returns-clause-kept c q =
    let was = tree.get id_cmp c.args.transfers.now in
    c.forget.ensures q ∙ ap (λ b. b && not (is_awaited_entry q c.awaited_in.result)) (c.requires.kept q) ∙ ap (λ b. is_awaited_by q.account (was q.id) && not b) (c.awaited_in.ensures q)
    ∙ awaited_finish q.account c.args.new (same_id c.args.id q.id) (was q.id) (was c.args.id) c.requires.over (λ e. ap was (sym (id_of_same c.args.id q.id e)))
    ∙ ap (is_awaited_by q.account) (sym (c.set_status.ensures q.id))
