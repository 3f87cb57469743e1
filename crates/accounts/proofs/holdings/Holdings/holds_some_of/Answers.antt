use Rattle.std.proofs.Common.{ap, sym, ◌∙◌}
use Rattle.std.specs.FinMap.{get}
use Rattle.std.proofs.lemmas.Bool.{OnTrue_from, OnFalse_at, not-true}
use Rattle.std.specs.Option.{is_some}
use Rattle.accounts.proofs.holdings.Holdings.holds_some_of.Goals as goal

pub returns-clause-some : goal.returns-clause-some
returns-clause-some c =
    OnTrue_from _ _ (λ e.
    let w = OnFalse_at (not-true c.has_none_of.result e) c.has_none_of.ensures.some in
    (w.0, w.1, ap (λ m. is_some (get m w.0)) (sym (ap (λ h. h.unit_holdings) c.self.view_is)) ∙ w.2))
