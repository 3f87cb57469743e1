use Rattle.std.proofs.Common.{rules, ◌≡◌, ◌&&◌, sym, ap, ◌∙◌}
use Rattle.std.specs.FinMap.{get}
use Rattle.std.specs.Option.{option_map}
use Rattle.std.proofs.lemmas.Bool.{OnTrue_from, OnTrue_at}
use Rattle.accounts.proofs.Holding.{both_pass, is_held_as, is_unreserved, held_as}
use Rattle.accounts.proofs.holdings.Holdings.holds_free.Goals as goal

pub returns : goal.returns
returns c =
    let held = c.args.self.now in
    let k = c.args.block.now.raw.kind in
    let passes = is_held_as c.args.account k in
    let same : c.self.inside.unit_holdings ≡ held.unit_holdings = ap (λ h. h.unit_holdings) c.self.view_is in
    let found = c.has_all_of.ensures.all (λ m. passes m && is_unreserved m) (λ m r h. search (rules, h)) in
    OnTrue_from c.has_all_of.result _ (λ e s h.
    let both = both_pass passes is_unreserved (get c.self.inside.unit_holdings s) (OnTrue_at e found s h) in (
      held_as held c.args.account k s (ap (λ m. option_map passes (get m s)) (sym same) ∙ both.0),
      ap (λ m. option_map is_unreserved (get m s)) (sym same) ∙ both.1,
    ))
