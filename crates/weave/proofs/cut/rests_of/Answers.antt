use Rattle.std.proofs.Common.{sym, subst, IfNone, IfSome, ◌≤◌, ◌+◌, length, take}
use Rattle.weave.specs.Following.{committed_at}
use Rattle.weave.specs.Left.{IsRest}
use Rattle.weave.specs.Steps.{whole_at}
use Rattle.weave.proofs.Rests.{AreRests, with_rest, without_rest}
use Rattle.weave.proofs.cut.rests_of.Goals.{in-Some+in_ok-push, in_default}
use Rattle.weave.proofs.cut.rests_of.Goals as goal

pub loop-node-preserved : goal.loop-node-preserved
loop-node-preserved c =
    let w = c.args.world.now in
    let ns = c.args.among.now in
    let k = c.loop-node.node-index in
    let n = c.node-item.result in
    let rests = c.loop-node.rests.items in
    elim c.match-branch-2.branch [
      | in-Some+in_ok-push v ↦
          let one = subst (λ o. IfSome o (IsRest w n)) v.in-Some.is c.in_ok-rest.ensures.some in
          let more = with_rest w ns k n rests v.in-Some.rest c.loop-node-test.true c.node-item.is one c.loop-node.invariant in
          subst (λ z. AreRests w (take (k + 1) ns) z.items) (sym v.rests-is) (subst (AreRests w (take (k + 1) ns)) (sym v.in_ok-push.ensures.items) more)
      | in_default v ↦
          let none = subst (λ o. IfNone o (length (whole_at w n) ≤ length (committed_at w n))) v.in_default.is c.in_ok-rest.ensures.none in
          let more = without_rest w ns k n rests c.loop-node-test.true c.node-item.is none c.loop-node.invariant in
          subst (λ z. AreRests w (take (k + 1) ns) z.items) (sym v.rests-is) more
    ]
