use Rattle.std.proofs.Common.{◌≡◌, ◌&&◌, Bool, true, not, cond, take, ap, sym, ◌∙◌, is_eq, arith}
use Rattle.std.specs.List.{list_any}
use Rattle.std.specs.BTreeSet.{contains}
use Rattle.records.specs.Awaiting.{among, unacknowledged_cmp}
use Rattle.records.specs.declared.unacknowledged.Unacknowledged.{Unacknowledged}
use Rattle.records.proofs.AwaitingMessages.{await_more, undone, on_ok, on_err}
use Rattle.records.proofs.awaiting.await_all.Goals as goal

pub returns-then-is_err-clause-err : goal.returns-then-is_err-clause-err
returns-then-is_err-clause-err c = λ q.
    let a = among c.args.start (take c.loop-i.i c.args.messages.now) q in
    let same : contains unacknowledged_cmp c.insert.new.self q ≡ contains unacknowledged_cmp c.loop-i.unacknowledged q =
    ap (list_any (λ (p : Unacknowledged). is_eq (unacknowledged_cmp q p))) (on_err c.insert.result (sym c.is_err.ensures.value ∙ c.if-is_err.true) c.insert.ensures.err) in
    c.forget_all.ensures q ∙ ap (λ (b : Bool). b && not a) (same ∙ c.loop-i.invariant q)
    ∙ undone c.args.start (take c.loop-i.i c.args.messages.now) q (contains unacknowledged_cmp c.args.unacknowledged.now q) (c.requires.above q)

pub loop-i-preserved : goal.loop-i-preserved
loop-i-preserved c = λ q.
    await_more c.args.start c.loop-i.i c.args.messages.now c.index-messages-i.result q (contains unacknowledged_cmp c.args.unacknowledged.now q) (contains unacknowledged_cmp c.loop-i.unacknowledged q) (contains unacknowledged_cmp c.insert.new.self q)
    (omega arith) c.index-messages-i.is (c.loop-i.invariant q)
    ((on_ok c.insert.result (sym c.is_err.ensures.value ∙ c.if-is_err.false) c.insert.ensures.updates).0 q
    ∙ ap (λ (p : Unacknowledged). cond (is_eq (unacknowledged_cmp p q)) true (contains unacknowledged_cmp c.loop-i.unacknowledged q)) c.unacknowledged_of.ensures)
