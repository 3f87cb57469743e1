use Rattle.std.proofs.Common.{sym, subst, ◌∙◌}
use Rattle.std.specs.BTreeSet.{IsKeyRangeOf}
use Rattle.std.specs.declared.ops.Bound.TheVariants.{Included, Unbounded}
use Rattle.acquirer.specs.Awaiting.{awaited_cmp}
use Rattle.acquirer.proofs.EntriesInOrder.{none_of}
use Rattle.acquirer.proofs.awaited.first_awaited.Goals as goal

pub returns-else-found-account-clause-none : goal.returns-else-found-account-clause-none
returns-else-found-account-clause-none c q e =
    none_of c.args.awaited.now c.start_of-start.result c.in_ok-found.found.now c.next.new.self
    (subst (λ r. IsKeyRangeOf awaited_cmp (Included c.start_of-start.result) Unbounded c.args.awaited.now r) c.in_ok-found.ensures.steps (c.range.ensures.in_range tt))
    c.start_of-start.ensures.least (λ h. c.if-found-account.false (h ∙ c.start_of-start.ensures.account)) q (e ∙ sym c.start_of-start.ensures.account)
