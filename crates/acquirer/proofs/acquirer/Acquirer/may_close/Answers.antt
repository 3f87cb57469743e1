use Rattle.std.proofs.Common.{refl, sym, ap, ◌∙◌}
use Rattle.std.specs.FinMap.{get}
use Rattle.acquirer.specs.Transfers.{is_awaited_by}
use Rattle.acquirer.proofs.Tables.{seen}
use Rattle.acquirer.proofs.acquirer.Acquirer.may_close.Goals as goal

pub returns-in-None-clause-ok : goal.returns-in-None-clause-ok
returns-in-None-clause-ok c t =
    ap (is_awaited_by c.args.account) (seen c.self.inside.transfers c.args.self.now.transfers (ap (λ a. a.transfers) c.self.view_is) t)
    ∙ sym (c.self.invariant (record { account = c.args.account; id = t })) ∙ c.in-None.ensures.none (record { account = c.args.account; id = t }) refl

pub returns-in-Some-clause-err : goal.returns-in-Some-clause-err
returns-in-Some-clause-err c =
    let q = c.in-Some.field-0 in
    let at = seen c.self.inside.transfers c.args.self.now.transfers (ap (λ a. a.transfers) c.self.view_is) q.id in
    (refl, (q.id, ap (λ n. is_awaited_by n (get c.args.self.now.transfers q.id)) (sym c.in-Some.ensures.some.0) ∙ ap (is_awaited_by q.account) at ∙ sym (c.self.invariant q) ∙ c.in-Some.ensures.some.1))
