use Rattle.std.proofs.Common.{rules, ◌≡◌, sym, ap, ◌∙◌}
use Rattle.std.specs.FinMap.{get}
use Rattle.std.specs.Option.{option_map}
use Rattle.std.proofs.lemmas.Bool.{OnTrue_from, OnTrue_at, OnFalse_from, OnFalse_at}
use Rattle.accounts.proofs.Holding.{is_unreserved}
use Rattle.accounts.proofs.holdings.Holdings.is_free.Goals as goal

pub returns-clause-all : goal.returns-clause-all
returns-clause-all c =
    let same : c.self.inside.unit_holdings ≡ c.args.self.now.unit_holdings = ap (λ h. h.unit_holdings) c.self.view_is in
    let found = c.has_all_of.ensures.all is_unreserved (λ m r h. search (rules, h)) in
    OnTrue_from c.has_all_of.result _ (λ e s h. ap (λ m. option_map is_unreserved (get m s)) (sym same) ∙ OnTrue_at e found s h)

pub returns-clause-lacking : goal.returns-clause-lacking
returns-clause-lacking c =
    let same : c.self.inside.unit_holdings ≡ c.args.self.now.unit_holdings = ap (λ h. h.unit_holdings) c.self.view_is in
    let found = c.has_all_of.ensures.some is_unreserved (λ m r h. search (rules, h)) in
    OnFalse_from c.has_all_of.result _ (λ e. let w = OnFalse_at e found in (w.0, w.1, λ h. w.2 (ap (λ m. option_map is_unreserved (get m w.0)) same ∙ h)))
