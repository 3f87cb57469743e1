use Rattle.std.proofs.Common.{sym, subst}
use Rattle.std.specs.List.{AllByRecursion}
use Rattle.scheme.specs.Order.{HasAccount}
use Rattle.scheme.specs.Reading.{IsKnown}
use Rattle.scheme.proofs.Pairs.{each_weaker}
use Rattle.scheme.proofs.Told.{no, not_so, so, each_here, each_step, known_as}
use Rattle.scheme.proofs.faults.have_known_accounts.Goals as goal

pub returns-then-not-are_known : goal.returns-then-not-are_known
returns-then-not-are_known c = no (λ all.
    let m = c.member-item.result in
    let zs = c.as_slice-in-loop-member.result.now in
    let here = each_here (λ n. AllByRecursion (λ a. HasAccount n a.account) n.allotted) c.args.members.now c.loop-member.member-index m c.loop-member-test.true c.member-item.is all in
    let same = known_as m.accounts c.as_slice.result.now c.in_ok-accounts.accounts.items zs c.as_slice.ensures c.in_ok-accounts.ensures.moved c.as_slice-in-loop-member.ensures.value in
    not_so c.are_known.result c.are_known.ensures c.if-not-are_known.true
    (subst (AllByRecursion (λ a. IsKnown zs a.account)) (sym c.as_slice-in-loop-member-2.ensures)
    (each_weaker (λ a. HasAccount m a.account) (λ a. IsKnown zs a.account) (λ a h. subst (λ t. t) (sym (same a.account)) h) m.allotted here)))

pub loop-member-preserved : goal.loop-member-preserved
loop-member-preserved c =
    let m = c.member-item.result in
    let zs = c.as_slice-in-loop-member.result.now in
    let same = known_as m.accounts c.as_slice.result.now c.in_ok-accounts.accounts.items zs c.as_slice.ensures c.in_ok-accounts.ensures.moved c.as_slice-in-loop-member.ensures.value in
    each_step (λ n. AllByRecursion (λ a. HasAccount n a.account) n.allotted) c.args.members.now c.loop-member.member-index m c.loop-member-test.true c.member-item.is c.loop-member.invariant
    (each_weaker (λ a. IsKnown zs a.account) (λ a. HasAccount m a.account) (λ a h. subst (λ t. t) (same a.account) h) m.allotted
    (subst (AllByRecursion (λ a. IsKnown zs a.account)) c.as_slice-in-loop-member-2.ensures (so c.are_known.result c.are_known.ensures c.if-not-are_known.false)))
