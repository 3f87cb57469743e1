use Rattle.std.proofs.Common.{false, inl, inr, sym, ap, ◌≡◌, ◌∙◌}
use Rattle.std.specs.FinMap.{get}
use Rattle.std.specs.Option.{option_copied}
use Rattle.std.proofs.lemmas.Bool.{cases_Bool, false_from_ne_true}
use Rattle.protocol.specs.History.{has_serial}
use Rattle.status.specs.Id.{same_id}
use Rattle.status.proofs.UnitsOfContents.{covered}
use Rattle.checks.specs.declared.register.UnderWay.{UnderWay}
use Rattle.log_core.proofs.CheckedTransfers.{none_labelled}
use Rattle.log_core.proofs.register.end.Goals as goal

pub remove_in-requires-clause-only : goal.remove_in-requires-clause-only
remove_in-requires-clause-only c s u e =
    elim (cases_Bool (same_id u.id c.args.id)) [
      | inl y ↦
          inr (covered c.units.result.now c.in-Some.content.now.units s c.units.ensures.value
          ∙ ap (λ k. has_serial (option_copied k) s) (sym c.in-Some.is) ∙ c.requires s u e y)
      | inr n ↦ inl (sym n)
    ]

pub returns-in_default : goal.returns-in_default
returns-in_default c s =
    none_labelled (λ (u : UnderWay). same_id u.id c.args.id) (get c.args.under_way.now s)
    (λ u e. false_from_ne_true (same_id u.id c.args.id) (λ y.
    let none : false ≡ _ = ap (λ k. has_serial (option_copied k) s) (sym c.in_default.is) ∙ c.requires s u e y in cc (none)))
