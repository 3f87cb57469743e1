use Rattle.std.proofs.Common.{rules, ◌≡◌, sym, ap, ◌∙◌}
use Rattle.std.specs.FinMap.{get}
use Rattle.std.specs.Option.{option_map}
use Rattle.std.proofs.lemmas.Bool.{OnTrue_from, OnTrue_at, OnFalse_from, OnFalse_at}
use Rattle.accounts.proofs.Holding.{is_held_as, held_as, not_held}
use Rattle.accounts.proofs.holdings.Holdings.holds.Goals as goal

pub returns-clause-all : goal.returns-clause-all
returns-clause-all c =
    let held = c.args.self.now in
    let k = c.args.block.now.raw.kind in
    let passes = is_held_as c.args.account k in
    let same : c.self.inside.unit_holdings ≡ held.unit_holdings = ap (λ h. h.unit_holdings) c.self.view_is in
    let found = c.has_all_of.ensures.all passes (λ m r h. search (rules, h)) in
    OnTrue_from c.has_all_of.result _ (λ e s h. held_as held c.args.account k s (ap (λ m. option_map passes (get m s)) (sym same) ∙ OnTrue_at e found s h))

pub returns-clause-lacking : goal.returns-clause-lacking
returns-clause-lacking c =
    let k = c.args.block.now.raw.kind in
    let found = c.has_all_of.ensures.some (is_held_as c.args.account k) (λ m r h. search (rules, h)) in
    OnFalse_from c.has_all_of.result _ (λ e. let w = OnFalse_at e found in (w.0, w.1, not_held c.args.self.now c.args.account k w.0 c.self.inside.unit_holdings (ap (λ h. h.unit_holdings) c.self.view_is) w.2))
