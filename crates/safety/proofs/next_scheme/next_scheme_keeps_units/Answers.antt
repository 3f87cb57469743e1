use Rattle.std.proofs.Common.{[]}
use Rattle.protocol.specs.Claims.{committed_of, live_of}
use Rattle.protocol.specs.World.{opening}
use Rattle.safety.proofs.NextSchemes.UnitsKept.{keeps_units}
use Rattle.safety.proofs.OwnersOfUnits.UnitsWithOneOwner.{causal_one_owner}
use Rattle.safety.proofs.WorldLemmas.ReachedWorlds.{reached, reached_live, reached_committed}
use Rattle.safety.proofs.next_scheme.next_scheme_keeps_units.Goals as goal

pub returns : goal.returns
returns c = λ scheme next events added is_next.
    let f = committed_of (reached scheme events) in
    let old = causal_one_owner scheme f (reached_committed scheme events) in
    let opened = causal_one_owner next (live_of (opening next)) (reached_live next []) in
    keeps_units scheme next f added old opened is_next
