use Rattle.scheme.specs.Grammar.{HasNoTwins}
use Rattle.scheme.proofs.Told.{no, not_so, so, each_here, each_step, twins_as, twins_too}
use Rattle.scheme.proofs.faults.have_different_accounts.Goals as goal

pub returns-then-not-are_different : goal.returns-then-not-are_different
returns-then-not-are_different c = no (λ all.
    let m = c.member-item.result in
    let here = each_here (λ n. HasNoTwins n.accounts) c.args.members.now c.loop-member.member-index m c.loop-member-test.true c.member-item.is all in
    not_so c.are_different.result c.are_different.ensures c.if-not-are_different.true
    (twins_too m.accounts c.as_slice.result.now c.in_ok-accounts.accounts.items c.as_slice-in-loop-member.result.now c.as_slice.ensures c.in_ok-accounts.ensures.moved
    c.as_slice-in-loop-member.ensures.value here))

pub loop-member-preserved : goal.loop-member-preserved
loop-member-preserved c =
    let m = c.member-item.result in
    each_step (λ n. HasNoTwins n.accounts) c.args.members.now c.loop-member.member-index m c.loop-member-test.true c.member-item.is c.loop-member.invariant
    (twins_as m.accounts c.as_slice.result.now c.in_ok-accounts.accounts.items c.as_slice-in-loop-member.result.now c.as_slice.ensures c.in_ok-accounts.ensures.moved
    c.as_slice-in-loop-member.ensures.value (so c.are_different.result c.are_different.ensures c.if-not-are_different.false))
