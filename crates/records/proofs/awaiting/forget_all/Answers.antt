use Rattle.std.proofs.Common.{false, cond, ap, ◌∙◌, is_eq, arith}
use Rattle.std.specs.BTreeSet.{contains}
use Rattle.records.specs.Awaiting.{unacknowledged_cmp}
use Rattle.records.specs.declared.unacknowledged.Unacknowledged.{Unacknowledged}
use Rattle.records.proofs.AwaitingMessages.{forget_more}
use Rattle.records.proofs.awaiting.forget_all.Goals as goal

pub loop-i-preserved : goal.loop-i-preserved
loop-i-preserved c = λ q.
    forget_more c.args.start c.loop-i.i c.args.messages.now c.index-messages-i.result q (contains unacknowledged_cmp c.args.unacknowledged.now q) (contains unacknowledged_cmp c.loop-i.unacknowledged q) (contains unacknowledged_cmp c.remove.new.self q)
    (omega arith) c.index-messages-i.is (c.loop-i.invariant q)
    (c.remove.ensures.updates.0 q
    ∙ ap (λ (p : Unacknowledged). cond (is_eq (unacknowledged_cmp p q)) false (contains unacknowledged_cmp c.loop-i.unacknowledged q)) c.unacknowledged_of.ensures)
