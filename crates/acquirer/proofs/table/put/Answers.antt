use Rattle.std.proofs.Common.{◌||◌, ◌&&◌, not, sym, ap, ◌∙◌}
use Rattle.std.specs.BTreeMap as tree
use Rattle.std.specs.Map.{lookup}
use Rattle.std.specs.Ordering.{is_eq}
use Rattle.status.proofs.Ids.{id_of_same}
use Rattle.status.specs.Id.{same_id, id_cmp}
use Rattle.acquirer.specs.Awaiting.{is_awaited_entry}
use Rattle.acquirer.specs.Transfers.{is_awaited_by}
use Rattle.acquirer.proofs.AwaitedTransfers.{awaited_put, awaited_again}
use Rattle.acquirer.proofs.table.put.Goals as goal

pub returns-in-Err-clause-kept : goal.returns-in-Err-clause-kept
returns-in-Err-clause-kept c q =
    let was = tree.get id_cmp c.args.transfers.now in
    let entry = is_awaited_entry q c.awaited_of-entry.result in
    c.forget.ensures q ∙ ap (λ b. b && not entry) (c.in_ok-remember.ensures.ok q ∙ ap (λ b. b || entry) (c.requires.kept q)) ∙ ap (λ b. (is_awaited_by q.account (was q.id) || b) && not b) (c.awaited_of-entry.ensures q)
    ∙ awaited_again q.account (same_id c.args.id q.id) (was q.id) c.args.transfer (λ e. ap was (sym (id_of_same c.args.id q.id e)) ∙ c.requires.absent)
    ∙ ap (λ es. is_awaited_by q.account (lookup (λ k. is_eq (id_cmp q.id k)) es)) (sym c.in-Err.ensures.err)

pub returns-clause-kept : goal.returns-clause-kept
returns-clause-kept c q =
    let was = tree.get id_cmp c.args.transfers.now in
    let entry = is_awaited_entry q c.awaited_of-entry.result in
    c.in_ok-remember.ensures.ok q ∙ ap (λ b. b || entry) (c.requires.kept q) ∙ ap (λ b. is_awaited_by q.account (was q.id) || b) (c.awaited_of-entry.ensures q)
    ∙ awaited_put q.account (same_id c.args.id q.id) (was q.id) c.args.transfer (λ e. ap was (sym (id_of_same c.args.id q.id e)) ∙ c.requires.absent)
    ∙ ap (is_awaited_by q.account) (sym (c.in_default.ensures.ok q.id))
