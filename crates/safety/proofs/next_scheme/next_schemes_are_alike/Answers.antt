use Rattle.protocol.specs.Claims.{committed_of}
use Rattle.safety.proofs.NextSchemes.SchemesAlike.{alike}
use Rattle.safety.proofs.OwnersOfUnits.UnitsWithOneOwner.{causal_one_owner}
use Rattle.safety.proofs.WorldLemmas.ReachedWorlds.{reached, reached_committed}
use Rattle.safety.proofs.next_scheme.next_schemes_are_alike.Goals as goal

pub returns : goal.returns
returns c = λ scheme next other events added more one two.
    let f = committed_of (reached scheme events) in
    let old = causal_one_owner scheme f (reached_committed scheme events) in
    alike scheme next other f added more old one two
