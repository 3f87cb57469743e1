use Rattle.std.proofs.Common.{sym, ap, ◌∙◌}
use Rattle.scheme.proofs.HoldersAlike.{same_holder, holder_of_same, same_holder-refl}
use Rattle.scheme.proofs.members.HolderLabel.is_same.Goals as goal

pub returns : goal.returns
returns c =
    let one = c.args.self.now in
    let other = c.args.other.now in
    (λ h. holder_of_same one other (sym c.eq.ensures ∙ h), λ e. c.eq.ensures ∙ ap (same_holder one) (sym e) ∙ same_holder-refl one)
