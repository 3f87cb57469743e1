use Rattle.std.proofs.Common.{arith, ℕ, ◌<◌, ◌≤◌, ap, subst, ◌∙◌}
use Rattle.world.specs.Cores.{journal_of, node_of}
use Rattle.world.proofs.CrashedStations.{IsLeft, left_short}
use Rattle.world.proofs.station.cut_core.Goals as goal

at_most : (r n : ℕ) → r < n → r ≤ n
at_most r n h = omega arith

-- the core that was made has the first records of the journal
left : (c : goal.After-drop) → IsLeft (node_of c.args.core.now) (journal_of c.args.core.now) c.args.records c.replace.new.dest
left c =
    left_short (node_of c.args.core.now) (journal_of c.args.core.now) c.args.records c.replace.new.dest
    (ap node_of c.replace.ensures.after ∙ c.in_ok-restarted.ensures.node)
    (ap journal_of c.replace.ensures.after ∙ c.in_ok-restarted.ensures.journal)
    (subst (λ n. c.args.records ≤ n) c.records.ensures (at_most _ _ c.if-records.false))

pub returns-clause-front : goal.returns-clause-front
returns-clause-front c = (left c).front

pub returns-clause-short : goal.returns-clause-short
returns-clause-short c = (left c).short
