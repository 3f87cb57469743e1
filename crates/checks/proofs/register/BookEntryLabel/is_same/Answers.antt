use Rattle.std.proofs.Common.{sym, ap, ◌∙◌}
use Rattle.units.proofs.Same.{same_code-refl}
use Rattle.units.specs.Code.{same_code}
use Rattle.checks.proofs.LogCauses.{owner_of_same}
use Rattle.checks.specs.declared.register.BookEntry.{BookEntry}
use Rattle.checks.proofs.register.BookEntryLabel.is_same.Goals as goal

pub returns : goal.returns
returns c =
    let one = c.args.self.now in
    let other = c.args.other.now in
    (λ h. owner_of_same one other (sym c.eq.ensures ∙ h), λ e. c.eq.ensures ∙ ap (λ (o : BookEntry). same_code one.registry o.registry) (sym e) ∙ same_code-refl one.registry)
