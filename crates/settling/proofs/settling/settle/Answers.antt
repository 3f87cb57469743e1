use Rattle.std.proofs.Common.{subst}
use Rattle.units.specs.declared.code.Node.{Node}
use Rattle.scheme.specs.declared.registries.Scheme.{Scheme}
use Rattle.protocol.proofs.Replaying.{replays_apart}
use Rattle.settling.specs.Settling.{IsFaultOf}
use Rattle.settling.specs.declared.life.Unsettled.{Unsettled}
use Rattle.settling.proofs.settling.settle.Goals as goal

pub returns-in-Err-clause-own : goal.returns-in-Err-clause-own
returns-in-Err-clause-own g c place is =
    let held = c.args.state.now in
    let seats = c.args.seats.now in
    let core = c.in_ok-core.core in
    let own = subst (λ (s : Scheme). IsFaultOf s (g.C.NodeCore.node_of core) held seats c.in-Err.fault) c.in_ok-core.ensures.scheme c.in-Err.ensures.settles in
    let fault = subst (λ (n : Node). IsFaultOf held.scheme n held seats c.in-Err.fault) c.in_ok-core.ensures.node own in
    let bad = subst (λ (e : Unsettled). IsFaultOf held.scheme held.node held seats e) is fault in
    replays_apart held.scheme held.node held.journal place c.journal-journal.ensures.replays bad.3
