use Rattle.std.proofs.Common.{false, subst}
use Rattle.sqlite.specs.Effect.{Database}
use Rattle.sqlite.specs.Held.{state}
use Rattle.durable.specs.Opening.{HasLeastOrGreatest}
use Rattle.durable.proofs.opening.examine.Goals as goal

pub returns-clause-found : goal.returns-clause-found
returns-clause-found g c clean =
    let old = state g.S.Store c.args.conn.now in
    let early = c.least_place.ensures.reads.clean clean in
    let same = (c.in_ok-owner.ensures.same early).0.committed_is in
    let opened = c.requires.opened (c.find_owner.ensures.reads.clean early) in
    c.verdict.ensures.verdict c.args.node.now old.committed opened.1 (c.in_ok-owner.ensures.owner early)
    (subst (λ (db : Database). HasLeastOrGreatest false db c.in_ok-least.least) same (c.in_ok-least.ensures.least clean))
