use Rattle.std.proofs.Common.{◌∙◌, arith, sym}
use Rattle.units.proofs.OneText.{number_same}
use Rattle.node_setup.proofs.words.read_seconds.Goals as goal

pub returns-in-0-clause-none : goal.returns-in-0-clause-none
returns-in-0-clause-none c = λ seconds is.
    let read = c.in_ok-seconds.ensures.some in
    let same = number_same seconds c.in_ok-seconds.seconds is.0.1 read.1 (sym is.0.0 ∙ read.0) in
    absurd (omega (arith, same, c.in-0.is, is.1))
