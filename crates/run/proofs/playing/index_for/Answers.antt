use Rattle.std.proofs.Common.{◌∙◌, sym}
use Rattle.run.proofs.Indices.{nowhere, placed, untaken}
use Rattle.run.proofs.playing.index_for.Goals as goal

pub returns-then-takes-clause-some : goal.returns-then-takes-clause-some
returns-then-takes-clause-some c =
    placed c.args.scheme.now c.args.line.now.node c.args.line.now.instruction c.index_of.result c.index_of.ensures (sym (c.takes.ensures c.args.scheme.now) ∙ c.if-takes.true)

pub returns-then-takes-clause-none : goal.returns-then-takes-clause-none
returns-then-takes-clause-none c = nowhere c.args.scheme.now c.args.line.now.node c.args.line.now.instruction c.index_of.result c.index_of.ensures

pub returns-else-takes-clause-none : goal.returns-else-takes-clause-none
returns-else-takes-clause-none c = untaken c.args.scheme.now c.args.line.now.node c.args.line.now.instruction (sym (c.takes.ensures c.args.scheme.now) ∙ c.if-takes.false)
