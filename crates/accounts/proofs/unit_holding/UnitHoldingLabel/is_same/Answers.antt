use Rattle.std.proofs.Common.{sym, ap, ◌∙◌}
use Rattle.accounts.proofs.Same.{same_unit_holding, unit_holding_of_same, same_unit_holding-refl}
use Rattle.accounts.proofs.unit_holding.UnitHoldingLabel.is_same.Goals as goal

pub returns : goal.returns
returns c =
    let one = c.args.self.now in
    let other = c.args.other.now in
    (λ h. unit_holding_of_same one other (sym c.eq.ensures ∙ h), λ e. c.eq.ensures ∙ ap (same_unit_holding one) (sym e) ∙ same_unit_holding-refl one)
