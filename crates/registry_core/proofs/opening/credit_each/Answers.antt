use Rattle.std.proofs.Common.{arith, refl, sym, ap, subst, option_map, ◌∙◌}
use Rattle.std.proofs.lemmas.Grind.{common_steps}
use Rattle.std.specs.FinMap as map
use Rattle.units.specs.Keys.{unit_cmp}
use Rattle.std.specs.FinMap.{get-empty}
use Rattle.std.specs.Option.{option_or}
use Rattle.units.specs.Apart.{AllApart}
use Rattle.units.specs.Unit.{covers}
use Rattle.accounts.specs.Holdings.{free_unit_holding, kind_in}
use Rattle.safety.proofs.OneRegistry.OpeningUnitHoldings.{allotment_more}
use Rattle.registry_core.proofs.opening.credit_each.Goals as goal

pub loop-allotment-init : goal.loop-allotment-init
loop-allotment-init c = record { accounts = refl; unit_holdings = λ s. ap (λ m. map.get m s) c.requires.empty ∙ get-empty unit_cmp s }

pub credit-requires-clause-apart : goal.credit-requires-clause-apart
credit-requires-clause-apart c =
    let f = allotment_more c.args.allotted.now c.loop-allotment.allotment-index c.allotment-item.result c.requires.apart c.loop-allotment-test.true c.allotment-item.is in
    subst AllApart (sym c.as_slice.ensures) f.apart

pub credit-requires-clause-absent : goal.credit-requires-clause-absent
credit-requires-clause-absent c s y =
    let f = allotment_more c.args.allotted.now c.loop-allotment.allotment-index c.allotment-item.result c.requires.apart c.loop-allotment-test.true c.allotment-item.is in
    c.loop-allotment.invariant.unit_holdings s ∙ f.absent s (ap (λ bs. covers bs s) (sym c.as_slice.ensures) ∙ y)

pub loop-allotment-preserved : goal.loop-allotment-preserved
loop-allotment-preserved c =
    let a = c.allotment-item.result in
    let f = allotment_more c.args.allotted.now c.loop-allotment.allotment-index a c.requires.apart c.loop-allotment-test.true c.allotment-item.is in
    let put = c.in_ok-credit.ensures.ok in
    record {
      accounts = put.0 ∙ c.loop-allotment.invariant.accounts;
      unit_holdings = λ s.
          put.1 s ∙ ap (λ bs. option_or (option_map (free_unit_holding a.account) (kind_in bs s)) (map.get c.loop-allotment.holdings.unit_holdings s)) c.as_slice.ensures
          ∙ ap (option_or (option_map (free_unit_holding a.account) (kind_in a.units s))) (c.loop-allotment.invariant.unit_holdings s) ∙ sym (f.credited s);
    }

pub credit-requires-clause-open_account : goal.credit-requires-clause-open_account
credit-requires-clause-open_account c = grind (arith, common_steps)

pub returns-clause-unit_holdings : goal.returns-clause-unit_holdings
returns-clause-unit_holdings c = grind (arith, common_steps)
