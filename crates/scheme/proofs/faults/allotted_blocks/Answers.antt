use Rattle.std.proofs.Common.{◌++◌, ap, sym, ◌∙◌}
use Rattle.scheme.specs.Order.{blocks_of}
use Rattle.scheme.proofs.Blocks.{all_more}
use Rattle.scheme.proofs.faults.allotted_blocks.Goals as goal

pub loop-member-preserved : goal.loop-member-preserved
loop-member-preserved c =
    c.in_ok-push_units.ensures ∙ ap (λ us. c.loop-member.all.items ++ blocks_of us) c.as_slice.ensures ∙ ap (λ bs. bs ++ blocks_of c.member-item.result.allotted) c.loop-member.invariant
    ∙ sym (all_more c.args.members.now c.loop-member.member-index c.member-item.result c.loop-member-test.true c.member-item.is)
