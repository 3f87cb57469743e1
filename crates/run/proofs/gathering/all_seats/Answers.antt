use Rattle.std.proofs.Common.{◌++◌, ◌∷◌, [], List, ap, subst, ◌∙◌}
use Rattle.node_state.specs.Views.{SeatView}
use Rattle.sessions.specs.Orders.{HasOnly}
use Rattle.run.proofs.Collected.{HasSuch, has_seats}
use Rattle.run.proofs.gathering.all_seats.Goals as goal

pub returns : goal.returns
returns g c =
    let IsSuch = HasOnly g.T.Taking.takes in
    let threads = c.in-Some-Ok.seats in
    let seat = c.in-Some.seat in (
      seat,
      c.in-Some.is,
      (threads.items, c.push_reserved.ensures.items ∙ ap (λ (l : List SeatView). l ++ seat ∷ []) c.in_ok-reserve.ensures.items, has_seats IsSuch threads _ c.in-Some-Ok.field-0-is (subst (HasSuch IsSuch) c.in-Some-Ok.is c.requires)),
    )
