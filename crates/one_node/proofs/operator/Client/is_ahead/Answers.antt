use Rattle.std.proofs.Common.{◌≡◌, ◌<◌, ◌≤◌, ◌+◌, IfSome, sym, subst, arith}
use Rattle.std.proofs.lemmas.Bool.{ltb-true, ltb-false}
use Rattle.protocol.specs.Moment.{Moment}
use Rattle.one_node.specs.Turns.{most_ahead}
use Rattle.one_node.proofs.operator.Client.is_ahead.Goals as goal

pub returns-clause-ahead : goal.returns-clause-ahead
returns-clause-ahead g c = λ over.
    let more = ltb-true _ _ over in
    (c.in-Some.moment, c.now-now.result, sym c.in-Some.ensures, c.now-now.ensures, omega (arith, more, c.saturating_sub.ensures))

pub returns-clause-timely : goal.returns-clause-timely
returns-clause-timely g c = λ within.
    let most = ltb-false _ _ within in
    subst (λ o. IfSome o (λ moment. (now : Moment) × g.N.Clock.tells c.args.self.now.network.now now × (moment.seconds ≤ now.seconds + most_ahead))) c.in-Some.ensures
    (c.now-now.result, c.now-now.ensures, omega (arith, most, c.saturating_sub.ensures))
