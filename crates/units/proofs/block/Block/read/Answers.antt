use Rattle.units.proofs.block.Block.read.Goals as goal

pub returns-clause-range : goal.returns-clause-range
returns-clause-range c = λ e. (c.in-Some.raw, c.in-Some.ensures.some, c.new.ensures.range e)
