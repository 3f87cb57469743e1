use Rattle.std.proofs.Common.{sym, ap, cond, subst, option_copied, ◌∙◌, ◌==◌}
use Rattle.std.proofs.lemmas.Bool.{cond-true}
use Rattle.std.proofs.lemmas.Result.{IfOk-weaker}
use Rattle.std.specs.FinMap as map
use Rattle.units.specs.Keys.{unit_cmp}
use Rattle.std.specs.List.{AllByRecursion, list_any}
use Rattle.std.specs.FinMap.{get-empty}
use Rattle.std.specs.Prelude.{None, Some}
use Rattle.units.specs.Apart.{AllApart}
use Rattle.accounts.specs.Refusals.{IsOpen}
use Rattle.accounts.specs.declared.unit_holding.AccountStatus.TheVariants.{Open}
use Rattle.scheme.specs.Order.{HasAccount, blocks_of, has_account}
use Rattle.scheme.proofs.Pairs.{each_weaker}
use Rattle.protocol.specs.Held.{allotted_unit_holding}
use Rattle.safety.proofs.OneRegistry.OpeningUnitHoldings.{member_accounts, member_apart, opening_of_member, opening_of_none}
use Rattle.registry_core.proofs.opening.opening_holdings.Goals as goal

pub returns-in_default-clause-unit_holdings : goal.returns-in_default-clause-unit_holdings
returns-in_default-clause-unit_holdings c =
    let none = sym c.member.ensures ∙ ap option_copied c.in_default.is in
    IfOk-weaker c.new.result _ _ (λ h e s. ap (λ m. map.get m s) e ∙ get-empty unit_cmp s ∙ sym (opening_of_none c.args.scheme.now c.args.code none s)) c.new.ensures.unit_holdings

pub credit_each-requires-clause-open_accounts : goal.credit_each-requires-clause-open_accounts
credit_each-requires-clause-open_accounts c =
    let m = c.in-Some.member.now in
    let held = c.in_ok-holdings.holdings in
    let there = sym c.member.ensures ∙ ap option_copied c.in-Some.is in
    subst (AllByRecursion (λ a. IsOpen held a.account)) (sym c.as_slice-2.ensures)
    (each_weaker (λ a. HasAccount m a.account) (λ a. IsOpen held a.account)
    (λ a h. c.in_ok-holdings.ensures.accounts a.account ∙ ap (λ ns. cond (list_any (λ n. n == a.account) ns) (Some Open) None) c.as_slice.ensures ∙ cond-true (has_account m a.account) (Some Open) None h) m.allotted
    (member_accounts c.args.scheme.now c.args.code m there))

pub credit_each-requires-clause-apart : goal.credit_each-requires-clause-apart
credit_each-requires-clause-apart c =
    let there = sym c.member.ensures ∙ ap option_copied c.in-Some.is in
    subst (λ parts. AllApart (blocks_of parts)) (sym c.as_slice-2.ensures) (member_apart c.args.scheme.now c.args.code c.in-Some.member.now there)

pub returns-clause-unit_holdings : goal.returns-clause-unit_holdings
returns-clause-unit_holdings c s =
    let there = sym c.member.ensures ∙ ap option_copied c.in-Some.is in
    c.in_ok-credit_each.ensures.unit_holdings s ∙ ap (λ parts. allotted_unit_holding parts s) c.as_slice-2.ensures ∙ sym (opening_of_member c.args.scheme.now c.args.code c.in-Some.member.now there s)
