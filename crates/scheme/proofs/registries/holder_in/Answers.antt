use Rattle.scheme.proofs.Holders.{found_here, none_here}
use Rattle.scheme.proofs.registries.holder_in.Goals as goal

pub returns-in-Some : goal.returns-in-Some
returns-in-Some c =
    found_here c.args.code c.args.unit.now c.args.allotted.now c.loop-allotment.allotment-index c.allotment-item.result c.loop-allotment-test.true c.allotment-item.is c.in-Some.block.now
    c.loop-allotment.invariant c.in-Some.ensures

pub loop-allotment-preserved : goal.loop-allotment-preserved
loop-allotment-preserved c =
    none_here c.args.code c.args.unit.now c.args.allotted.now c.loop-allotment.allotment-index c.allotment-item.result c.loop-allotment-test.true c.allotment-item.is c.loop-allotment.invariant
    c.in_default.ensures
