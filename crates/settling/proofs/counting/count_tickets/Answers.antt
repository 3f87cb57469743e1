use Rattle.std.proofs.Common.{◌+◌, ◌==◌, cond, count_by, take, ◌∙◌}
use Rattle.std.proofs.lemmas.List.{take_all}
use Rattle.node_state.specs.declared.notes.Ticket.{Ticket}
use Rattle.settling.proofs.CountedPlaces.{counts_same, one_counted}
use Rattle.settling.proofs.counting.count_tickets.Goals as goal

pub loop-ticket-preserved : goal.loop-ticket-preserved
loop-ticket-preserved c =
    let tickets = c.args.tickets.now in
    let i = c.loop-ticket.ticket-index in
    let t = c.ticket-item.result in
    record {
      len = c.count_place.ensures.len ∙ c.loop-ticket.invariant.len;
      counts = λ times counts.
          counts_same c.args.opening (λ p. (times p + count_by (λ (x : Ticket). x.place == p) (take i tickets)) + cond (t.place == p) 1 0) (λ p. times p + count_by (λ (x : Ticket). x.place == p) (take (i + 1) tickets)) c.count_place.new.counts
          (λ p. rw (c.ticket-item.is) (one_counted (λ (x : Ticket). x.place == p) tickets i (times p) t c.loop-ticket-test.true))
          (c.count_place.ensures.counts (λ p. times p + count_by (λ (x : Ticket). x.place == p) (take i tickets)) (c.loop-ticket.invariant.counts times counts));
    }

pub returns-clause-counts : goal.returns-clause-counts
returns-clause-counts c times counts k below = rw (← take_all c.loop-ticket.ticket-index c.args.tickets.now c.loop-ticket-test.false) (c.loop-ticket.invariant.counts times counts k below)
