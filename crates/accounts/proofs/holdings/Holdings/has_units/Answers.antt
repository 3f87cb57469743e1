use Rattle.std.proofs.Common.{◌<◌, ltb, subst, arith}
use borrow.Author.Tests.{ltb-true}
use Rattle.std.proofs.lemmas.Bool.{OnTrue_from, OnFalse_from, ltb-false}
use Rattle.accounts.specs.Refusals.{HasUnits}
use Rattle.accounts.proofs.Holding.{units_counted, counted_units}
use Rattle.accounts.proofs.holdings.Holdings.has_units.Goals as goal

pub returns-clause-some : goal.returns-clause-some
returns-clause-some c =
    OnTrue_from (ltb 0 c.held_count.result) (HasUnits c.args.self.now c.args.account) (λ e.
    units_counted c.args.self.now c.args.account (subst (λ n. 0 < n) c.held_count.ensures (ltb-true 0 c.held_count.result e)))

pub returns-clause-none : goal.returns-clause-none
returns-clause-none c =
    OnFalse_from (ltb 0 c.held_count.result) (HasUnits c.args.self.now c.args.account → ⊥) (λ e h.
    let some = counted_units c.args.self.now c.args.account h in
    let none = ltb-false 0 c.held_count.result e in
    let same = c.held_count.ensures in
    absurd (omega (arith, some, same, none)))
