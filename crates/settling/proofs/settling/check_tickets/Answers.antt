use Rattle.std.proofs.Common.{arith, refl, sym, ◌∙◌}
use Rattle.std.proofs.lemmas.Grind.{elements}
use Rattle.std.proofs.lemmas.Bool.{true≢false}
use Rattle.settling.proofs.settling.check_tickets.Goals as goal

pub returns-then-not-fits : goal.returns-then-not-fits
returns-then-not-fits g c =
    (c.loop-ticket.ticket-index, c.ticket-item.result, c.loop-ticket-test.true, sym c.ticket-item.is, (refl, λ fit. true≢false (sym (c.fits.ensures.1 fit) ∙ c.if-not-fits.true)))

pub loop-ticket-preserved : goal.loop-ticket-preserved
loop-ticket-preserved g c = grind (arith, elements)
