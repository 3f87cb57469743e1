use Rattle.std.proofs.Common.{ℕ, inr, sym, ap, ◌∙◌, subst}
use Rattle.std.proofs.lemmas.Result.{err_from_is_err_and}
use Rattle.units.specs.Canonical.{canonical}
use Rattle.status.specs.Content.{Content, raws}
use Rattle.accounts.specs.Refusals.{MayReserve}
use Rattle.checks.proofs.HeldUnits.{may_canonical}
use Rattle.checks.proofs.OrderRefusals.{in_holding, in_receiver, in_number, in_none}
use Rattle.checks.proofs.order.propose_check.Goals as goal

pub returns-in_err-check_holdings-clause-refused : goal.returns-in_err-check_holdings-clause-refused
returns-in_err-check_holdings-clause-refused c = λ known knows.
    let p = err_from_is_err_and c.from_residual-in_err-check_holdings.result c.from_residual-in_err-check_holdings.ensures.1 in
    let scheme = c.args.scheme.now in
    rw (p.1, p.2) (inr (in_holding scheme c.args.code known c.args.last c.args.order.now _ c.in_ok-blocks.ensures.ok (c.in_err-check_holdings.ensures.refused scheme c.args.code known knows)))

pub returns-in_err-check_receiver-clause-refused : goal.returns-in_err-check_receiver-clause-refused
returns-in_err-check_receiver-clause-refused c = λ known knows.
    let p = err_from_is_err_and c.from_residual-in_err-check_receiver.result c.from_residual-in_err-check_receiver.ensures.1 in
    let scheme = c.args.scheme.now in
    rw (p.1, p.2) (inr (in_receiver scheme c.args.code known c.args.last c.args.order.now _ c.in_ok-blocks.ensures.ok (c.in_ok-check_holdings.ensures.ok scheme c.args.code known knows) c.in_err-check_receiver.ensures.refused))

pub returns-in_default-clause-refused : goal.returns-in_default-clause-refused
returns-in_default-clause-refused c = λ known knows.
    let scheme = c.args.scheme.now in
    inr (in_number scheme c.args.code known c.args.last c.args.order.now c.in_ok-blocks.ensures.ok (c.in_ok-check_holdings.ensures.ok scheme c.args.code known knows) c.in_ok-check_receiver.ensures.ok (sym c.next_id.ensures ∙ c.in_default.is))

pub returns-clause-ok : goal.returns-clause-ok
returns-clause-ok c = λ known knows.
    let scheme = c.args.scheme.now in
    in_none scheme c.args.code known c.args.last c.args.order.now c.in-Some.id c.in_ok-blocks.ensures.ok (c.in_ok-check_holdings.ensures.ok scheme c.args.code known knows) c.in_ok-check_receiver.ensures.ok (sym c.next_id.ensures ∙ c.in-Some.is)

pub returns-clause-reservable : goal.returns-clause-reservable
returns-clause-reservable c = λ blocks e.
    let held = c.args.holdings.now in
    let order = c.args.order.now in
    let new_content = c.in_ok-content.ensures in
    let same = ap raws c.deref.ensures.value ∙ c.in_ok-blocks.ensures.blocks in
    subst (λ (n : ℕ). MayReserve held n blocks) (sym (ap (λ (k : Content). k.account) new_content))
    (may_canonical held order.account c.deref.result.now blocks (e ∙ ap (λ (k : Content). k.units) new_content ∙ ap canonical (sym same)) c.in_ok-check_holdings.ensures.may)
