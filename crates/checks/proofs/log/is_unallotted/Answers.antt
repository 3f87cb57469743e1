use Rattle.std.proofs.Common.{rules, true}
use Rattle.checks.proofs.LabelledUnits.{some_missing}
use Rattle.checks.proofs.log.is_unallotted.Goals as goal

pub returns : goal.returns
returns c = some_missing c.args.allotments.now c.args.block.now.raw c.has_all_of.result (c.has_all_of.ensures.all (λ m. true) (λ m r h. search (rules, h))) (c.has_all_of.ensures.some (λ m. true) (λ m r h. search (rules, h)))
