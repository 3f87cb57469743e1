use Rattle.std.proofs.Common.{refl}
use Rattle.status.proofs.Contents.{sound}
use Rattle.status.proofs.content.Content.new.Goals as goal

pub invariant_of-result : goal.invariant_of-result
invariant_of-result c =
    sound c.args.account c.args.to_account c.args.acquirer c.as_slice-count.result.now c.args.units c.as_slice-count.ensures (c.if-is_account.ensures.0 refl) (c.if-is_account-2.ensures.0 refl)
    c.if-count-ge1.true c.if-count-le-MOST_BLOCKS.true

pub returns-then-count-le-MOST_BLOCKS-clause-valid : goal.returns-then-count-le-MOST_BLOCKS-clause-valid
returns-then-count-le-MOST_BLOCKS-clause-valid c =
    sound c.args.account c.args.to_account c.args.acquirer c.as_slice-count.result.now c.args.units c.as_slice-count.ensures (c.if-is_account.ensures.0 refl) (c.if-is_account-2.ensures.0 refl)
    c.if-count-ge1.true c.if-count-le-MOST_BLOCKS.true
