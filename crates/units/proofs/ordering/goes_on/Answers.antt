use Rattle.std.proofs.Common.{sym, ◌∙◌}
use Rattle.units.proofs.OrderingJoins.{next_means}
use Rattle.units.proofs.ordering.goes_on.Goals as goal

pub returns-then-is_next : goal.returns-then-is_next
returns-then-is_next g c =
    let next = next_means c.args.interval.now c.args.next.now (sym c.is_next.ensures ∙ c.if-is_next.true) in
    (λ same. record { origin = next.0; period = next.1; next = next.2; label = c.is_same.ensures.0 same }, λ on. c.is_same.ensures.1 on.label)
