use Rattle.std.proofs.Common.{arith}
use Rattle.std.proofs.lemmas.Grind.{elements}
use Rattle.settling.proofs.settling.fits.Goals as goal

pub returns-then-opening-ticket : goal.returns-then-opening-ticket
returns-then-opening-ticket g c = grind (arith, elements)

pub returns-in-None : goal.returns-in-None
returns-in-None g c = grind (arith, elements)
