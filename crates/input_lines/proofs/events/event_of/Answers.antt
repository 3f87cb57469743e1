use Rattle.std.proofs.Common.{rules}
use Rattle.input_lines.proofs.OneEvent.{no_event, one_result}
use Rattle.input_lines.proofs.events.event_of.Goals as goal

pub returns-clause-order : goal.returns-clause-order
returns-clause-order c = λ was. no_event _ _ (search rules) (search rules) (c.event_with.ensures.order was)

pub returns-clause-one : goal.returns-clause-one
returns-clause-one c = one_result _ _ (search rules) (search rules) c.event_with.result c.event_with.ensures.ok
