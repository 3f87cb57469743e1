use Rattle.std.proofs.Common.{sym, subst}
use Rattle.desk.proofs.Keepings.{kept_loaded}
use Rattle.desk.specs.Keeping.{IsKept}
use Rattle.node_state.specs.Views.{StateView}
use Rattle.desk.proofs.stored.Stored.load.Goals as goal

pub invariant_of-result : goal.invariant_of-result
invariant_of-result g c =
    let s = g.S.NodeStore in
    let core = c.args.core in
    let new = c.load_from.new.store in
    let did = c.in-Ok.ensures in
    subst (λ (h : StateView). IsKept s (record { state = h; store = new })) (sym did.state)
    (kept_loaded s (g.C.NodeCore.scheme_of core) (g.C.NodeCore.node_of core) c.in-Ok.state.journal c.args.store new did.loaded did.whose did.own c.requires.whose c.requires.own)

pub returns-in-Ok-clause-keeps : goal.returns-in-Ok-clause-keeps
returns-in-Ok-clause-keeps g c =
    let s = g.S.NodeStore in
    let core = c.args.core in
    let new = c.load_from.new.store in
    let did = c.in-Ok.ensures in
    subst (λ (h : StateView). IsKept s (record { state = h; store = new })) (sym did.state)
    (kept_loaded s (g.C.NodeCore.scheme_of core) (g.C.NodeCore.node_of core) c.in-Ok.state.journal c.args.store new did.loaded did.whose did.own c.requires.whose c.requires.own)
