use Rattle.serving.proofs.HeardLines.{heard_line}
use Rattle.serving.proofs.asking.ask.Goals as goal

pub returns-in-Order-clause-heard : goal.returns-in-Order-clause-heard
returns-in-Order-clause-heard g c = heard_line _ _ c.order.new.seat _ c.in-Order.is c.order.ensures.heard

pub returns-in-Status-clause-heard : goal.returns-in-Status-clause-heard
returns-in-Status-clause-heard g c = heard_line _ _ c.question.new.seat _ c.in-Status.is c.question.ensures.heard

pub returns-in-Until-clause-heard : goal.returns-in-Until-clause-heard
returns-in-Until-clause-heard g c = heard_line _ _ c.question_until.new.seat _ c.in-Until.is c.question_until.ensures.heard
