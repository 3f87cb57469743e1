use Rattle.std.proofs.Common.{sym, subst}
use Rattle.desk.proofs.Keepings.{kept_committed}
use Rattle.desk.specs.Keeping.{IsKept}
use Rattle.node_state.specs.Views.{StateView}
use Rattle.desk.proofs.stored.Stored.commit.Goals as goal

pub invariant_of-self : goal.invariant_of-self
invariant_of-self g c =
    let s = g.S.NodeStore in
    let did = c.commit.ensures in
    let old = c.self.inside.store in
    let new = c.commit.new.store in
    subst (λ (h : StateView). IsKept s (record { state = h; store = new })) (sym did.state)
    (kept_committed s c.self.inside.state old new c.args.max c.commit.result did.whose did.own (did.count, (λ none. let nothing = did.none none in (nothing.0, nothing.2)), did.some) c.self.invariant)

pub returns-clause-keeps : goal.returns-clause-keeps
returns-clause-keeps g c =
    let s = g.S.NodeStore in
    let did = c.commit.ensures in
    let old = c.self.inside.store in
    let new = c.commit.new.store in
    subst (λ (h : StateView). IsKept s (record { state = h; store = new })) (sym did.state)
    (kept_committed s c.self.inside.state old new c.args.max c.commit.result did.whose did.own (did.count, (λ none. let nothing = did.none none in (nothing.0, nothing.2)), did.some) c.self.invariant)
