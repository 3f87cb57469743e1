use Rattle.std.proofs.Common.{arith, ◌-◌, ◌≤◌, subst}
use Rattle.std.proofs.lemmas.Grind.{common_steps}
use Rattle.world.specs.Cores.{journal_of, node_of}
use Rattle.world.proofs.CrashedStations.{crash_leaves}
use Rattle.world.proofs.station.Station.crash.Goals as goal

pub returns-clause-ok : goal.returns-clause-ok
returns-clause-ok c =
    let old = c.args.self.now in
    crash_leaves (node_of old.core) old.committed c.args.kept (journal_of old.core) old.runs c.cut_core.new.core c.if-not-self.false old.within
    (subst (λ n. c.args.kept ≤ n - old.committed) c.records.ensures c.if-kept-tail.false)
    (record { node = c.cut_core.ensures.node; front = c.in_ok-cut_core.ensures.front; short = c.in_ok-cut_core.ensures.short })

pub returns-then-not-self-clause-ok : goal.returns-then-not-self-clause-ok
returns-then-not-self-clause-ok c = grind (arith, common_steps)

pub invariant_of-self-2 : goal.invariant_of-self-2
invariant_of-self-2 c = grind (arith, common_steps)
