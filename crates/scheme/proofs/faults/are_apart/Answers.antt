use Rattle.std.proofs.Common.{sym, ◌∙◌, arith}
use Rattle.scheme.proofs.Told.{yes, no, all_apart, not_apart, apart_step}
use Rattle.scheme.proofs.faults.are_apart.Goals as goal

pub returns-then-has : goal.returns-then-has
returns-then-has c =
    no (not_apart c.args.blocks.now c.sort.new.blocks c.loop-i.i c.index-blocks-i.result c.index-blocks-i-in-loop-i.result c.first_unit.result c.sort.ensures.moved (omega arith) c.loop-i-test.true
    c.index-blocks-i.is c.index-blocks-i-in-loop-i.is c.first_unit.ensures (sym c.has.ensures ∙ c.if-has.true))

pub loop-i-preserved : goal.loop-i-preserved
loop-i-preserved c =
    apart_step c.args.blocks.now c.sort.new.blocks c.loop-i.i c.index-blocks-i.result c.index-blocks-i-in-loop-i.result c.first_unit.result c.sort.ensures.moved (omega arith) c.loop-i-test.true
    c.index-blocks-i.is c.index-blocks-i-in-loop-i.is c.first_unit.ensures c.sort.ensures.sorted (sym c.has.ensures ∙ c.if-has.false) c.loop-i.invariant

pub returns : goal.returns
returns c = yes (all_apart c.args.blocks.now c.sort.new.blocks c.loop-i.i c.sort.ensures.moved c.loop-i-test.false c.loop-i.invariant)
