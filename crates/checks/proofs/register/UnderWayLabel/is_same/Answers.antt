use Rattle.std.proofs.Common.{sym, ap, ◌∙◌}
use Rattle.status.proofs.Ids.{id_of_same, same_id-refl}
use Rattle.status.specs.Id.{same_id}
use Rattle.checks.proofs.register.UnderWayLabel.is_same.Goals as goal

pub returns : goal.returns
returns c =
    let one = c.args.self.now in
    let other = c.args.other.now in
    (λ h. ap (λ i. record { id = i }) (id_of_same one.id other.id (sym c.eq.ensures ∙ h)), λ e. c.eq.ensures ∙ ap (λ u. same_id one.id u.id) (sym e) ∙ same_id-refl one.id)
