use Rattle.std.proofs.Common.{◌+◌, ◌==◌, count_by, take, ◌∙◌}
use Rattle.std.proofs.lemmas.List.{take_all}
use Rattle.settling.specs.Covering.{times_named}
use Rattle.node_state.specs.Views.{SeatView}
use Rattle.node_state.specs.declared.notes.Ticket.{Ticket}
use Rattle.settling.proofs.CountedPlaces.{counts_same, one_summed}
use Rattle.settling.proofs.counting.count_seats.Goals as goal

pub loop-seat-preserved : goal.loop-seat-preserved
loop-seat-preserved c =
    let seats = c.args.seats.now in
    let i = c.loop-seat.seat-index in
    let s = c.seat-item.result in
    record {
      len = c.count_tickets.ensures.len ∙ c.loop-seat.invariant.len;
      counts = λ times counts.
          counts_same c.args.opening (λ p. (times p + times_named (take i seats) p) + count_by (λ (t : Ticket). t.place == p) c.tickets.result.now) (λ p. times p + times_named (take (i + 1) seats) p) c.count_tickets.new.counts
          (λ p. rw (c.tickets.ensures, c.seat-item.is) (one_summed (λ (s : SeatView). count_by (λ (t : Ticket). t.place == p) s.tickets) seats i (times p) s c.loop-seat-test.true))
          (c.count_tickets.ensures.counts (λ p. times p + times_named (take i seats) p) (c.loop-seat.invariant.counts times counts));
    }

pub returns-clause-counts : goal.returns-clause-counts
returns-clause-counts c times counts k below = rw (← take_all c.loop-seat.seat-index c.args.seats.now c.loop-seat-test.false) (c.loop-seat.invariant.counts times counts k below)
