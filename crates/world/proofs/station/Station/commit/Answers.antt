use Rattle.std.proofs.Common.{arith, ◌≡◌, ◌≤◌, ◌-◌, ◌+◌, drop, take, sym, subst}
use Rattle.std.proofs.lemmas.Grind.{common_steps}
use Rattle.protocol.specs.World.{commit}
use Rattle.protocol.specs.declared.event.Outcome.TheVariants.{Done}
use Rattle.world.specs.Cores.{journal_of, node_of, scheme_of}
use Rattle.world.proofs.TailsOfJournals.{commit_more}
use Rattle.world.proofs.station.Station.commit.Goals as goal

pub returns-then-count-tail-clause-value : goal.returns-then-count-tail-clause-value
returns-then-count-tail-clause-value c =
    let core = c.args.self.now.core in
    subst (λ b. record { station = record { node = node_of core; committed = take (c.args.self.now.committed + c.args.count) (journal_of core); tail = drop (c.args.self.now.committed + c.args.count) (journal_of core); runs = b }; outcome = Done }
    ≡ commit c.args.count (record { node = node_of core; committed = take c.args.self.now.committed (journal_of core); tail = drop c.args.self.now.committed (journal_of core); runs = b })) (sym c.if-self.true)
    (commit_more (scheme_of core) (node_of core) (journal_of core) c.args.self.now.committed c.args.count c.args.self.now.within (subst (λ k. c.args.count ≤ k - c.args.self.now.committed) c.records.ensures c.if-count-tail.true))

pub returns-then-count-tail-clause-core : goal.returns-then-count-tail-clause-core
returns-then-count-tail-clause-core c = grind (arith, common_steps)

pub returns-else-self-clause-value : goal.returns-else-self-clause-value
returns-else-self-clause-value c = grind (arith, common_steps)
