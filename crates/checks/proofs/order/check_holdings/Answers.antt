use Rattle.std.proofs.Common.{◌≡◌, ℕ, List, Some, None, refl, subst}
use Rattle.std.proofs.lemmas.Bool.{OnTrue_at}
use Rattle.std.proofs.lemmas.Result.{on_ok_weaker, IfErr-weaker}
use Rattle.units.specs.Facts.{IsAccountNumber}
use Rattle.units.specs.declared.block.RawBlock.{RawBlock}
use Rattle.accounts.specs.Refusals.{MayReserve, IsReserveRefusal}
use Rattle.checks.proofs.AccountNumbers.{not_listed}
use Rattle.checks.proofs.HeldUnits.{may_refusals, reserve_refusals}
use Rattle.checks.specs.Following.{holding_refusals}
use Rattle.checks.specs.Refusing.{first_of}
use Rattle.checks.proofs.order.check_holdings.Goals as goal

pub returns-then-is_no_account-clause-refused : goal.returns-then-is_no_account-clause-refused
returns-then-is_no_account-clause-refused c = λ scheme code known knows.
    let account = c.args.order.now.account in
    rw (not_listed scheme code account (subst (λ (n : ℕ). IsAccountNumber n → ⊥) c.account.ensures.value (OnTrue_at c.if-is_no_account.true c.is_no_account.ensures.none))) refl

pub returns-clause-ok : goal.returns-clause-ok
returns-clause-ok c = λ scheme code known knows.
    let held = c.args.holdings.now in
    let blocks = c.args.blocks.now in
    on_ok_weaker c.check.result (λ may.
    subst (λ (rs : List RawBlock). first_of (holding_refusals scheme code known c.args.order.now.account rs) ≡ None) c.requires
    (may_refusals scheme code held known knows c.args.order.now.account blocks (subst (λ (n : ℕ). MayReserve held n blocks) c.account-2.ensures.value may)))
    c.check.ensures.ok

pub returns-clause-refused : goal.returns-clause-refused
returns-clause-refused c = λ scheme code known knows.
    let held = c.args.holdings.now in
    let blocks = c.args.blocks.now in
    IfErr-weaker c.check.result _ _ (λ r why.
    subst (λ (rs : List RawBlock). first_of (holding_refusals scheme code known c.args.order.now.account rs) ≡ Some r.code) c.requires
    (reserve_refusals scheme code held known knows c.args.order.now.account blocks r.code (subst (λ (n : ℕ). IsReserveRefusal held n blocks r.code) c.account-2.ensures.value why)))
    c.check.ensures.err
