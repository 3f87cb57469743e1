use Rattle.std.proofs.Common.{◌<◌, arith}
use Rattle.settling.proofs.CountedPlaces.{named_there, up_to_next}
use Rattle.settling.proofs.counting.check_missing.Goals as goal

pub loop-k-preserved : goal.loop-k-preserved
loop-k-preserved c times counts place low high =
    let here = named_there c.args.opening c.loop-k.k times c.args.counts.now counts c.loop-k-test.true (omega (arith, c.if-counts-k-eq0.false)) in
    up_to_next (λ p. 0 < times p) c.args.opening c.loop-k.k (c.loop-k.invariant times counts) here place low high

pub returns : goal.returns
returns c times counts place low high = c.loop-k.invariant times counts place low (omega (arith, high, c.loop-k-test.false))
