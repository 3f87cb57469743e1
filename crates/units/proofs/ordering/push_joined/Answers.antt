use Rattle.std.proofs.Common.{◌≡◌, ◌-◌, suc, inl, length, take, arith}
use Rattle.std.specs.Vec.{vec_len}
use Rattle.units.specs.Following.{joined}
use Rattle.units.proofs.OrderingJoins.{last_split, last_set}
use Rattle.units.proofs.ordering.push_joined.Goals as goal

pub returns-in-Some : goal.returns-in-Some
returns-in-Some g c =
    let is = c.args.intervals.now.items in
    let k = vec_len c.args.intervals.now - 1 in
    let a = c.in-Some.last.now in
    let some : length is ≡ suc k = omega (arith, c.in-Some.ensures) in
    inl (take k is, a, last_split is k a some c.in-Some.ensures.value, c.goes_on.ensures.0 c.if-goes_on.true, last_set is k (joined a c.args.next) some)
