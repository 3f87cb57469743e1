use Rattle.std.proofs.Common.{arith}
use Rattle.std.proofs.lemmas.Grind.{common_steps, elements}
use Rattle.store_tables.proofs.reading.bodies.Goals as goal

pub returns-in_err-body-clause-ok : goal.returns-in_err-body-clause-ok
returns-in_err-body-clause-ok c = grind (arith, elements)

pub returns-in_err-body-clause-named : goal.returns-in_err-body-clause-named
returns-in_err-body-clause-named c = grind (arith, elements)

pub returns-in_err-push-in-Some-clause-ok : goal.returns-in_err-push-in-Some-clause-ok
returns-in_err-push-in-Some-clause-ok c = grind arith

pub returns-in_err-push-in-Some-clause-named : goal.returns-in_err-push-in-Some-clause-named
returns-in_err-push-in-Some-clause-named c = grind arith

pub returns-in-None-clause-ok : goal.returns-in-None-clause-ok
returns-in-None-clause-ok c = grind (arith, common_steps)

pub loop-at-preserved : goal.loop-at-preserved
loop-at-preserved c = grind (arith, common_steps)

pub returns-clause-ok : goal.returns-clause-ok
returns-clause-ok c = grind (arith, common_steps)
