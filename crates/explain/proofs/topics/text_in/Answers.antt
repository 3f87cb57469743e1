use Rattle.std.proofs.Common.{rules, sym, ◌∙◌}
use Rattle.std.specs.Cmp.Lexicographic.{other_text, same_text}
use Rattle.explain.proofs.Tables.{has_at, has_none, none_more}
use Rattle.explain.proofs.topics.text_in.Goals as goal

pub returns-then-eq-clause-some : goal.returns-then-eq-clause-some
returns-then-eq-clause-some c =
    has_at c.args.table.now c.loop-name.name-index _ c.args.word.now c.loop-name-test.true (same_text _ c.args.word.now (sym c.if-eq.true ∙ c.eq.ensures))

pub loop-name-preserved : goal.loop-name-preserved
loop-name-preserved c =
    none_more c.args.table.now c.loop-name.name-index _ c.args.word.now c.loop-name-test.true c.loop-name.invariant
    (other_text _ c.args.word.now (sym c.if-eq.false ∙ c.eq.ensures))

pub returns-clause-none : goal.returns-clause-none
returns-clause-none c = has_none c.args.table.now c.args.word.now (search rules)
