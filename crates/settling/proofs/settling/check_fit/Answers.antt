use Rattle.std.proofs.Common.{arith, ◌≡◌, sym, subst}
use Rattle.std.proofs.lemmas.Grind.{elements}
use Rattle.std.specs.List.{Any}
use Rattle.std.proofs.lemmas.Result.{err_from_is_err_and}
use Rattle.node_state.specs.declared.notes.Ticket.{Ticket}
use Rattle.settling.specs.Covering.{Fits}
use Rattle.settling.proofs.settling.check_fit.Goals as goal

pub returns-in_err-check_tickets : goal.returns-in_err-check_tickets
returns-in_err-check_tickets g c =
    let p = err_from_is_err_and c.from_residual.result c.from_residual.ensures.1 in
    let place = c.in_err-check_tickets.field-0.0 in
    let some = subst (Any (λ (t : Ticket). (t.place ≡ place) × (Fits c.args.state.now t → ⊥))) c.tickets.ensures c.in_err-check_tickets.ensures in
    rw (p.1, p.2) (c.loop-seat.seat-index, c.seat-item.result, c.loop-seat-test.true, sym c.seat-item.is, some)

pub loop-seat-preserved : goal.loop-seat-preserved
loop-seat-preserved g c = grind (arith, elements)
