use Rattle.std.proofs.Common.{sym}
use Rattle.weave.proofs.Lists.{none_lent}
use Rattle.weave.proofs.NextEvents.{none_next, some_next, waits_none}
use Rattle.weave.proofs.giving.next_event.Goals as goal

pub returns-in_default-clause-none : goal.returns-in_default-clause-none
returns-in_default-clause-none c = waits_none c.args.world.now c.args.node (none_lent c.next_input.result _ c.next_input.ensures.value c.in_default.is)

pub returns-clause-some : goal.returns-clause-some
returns-clause-some c = some_next c.args.world.now c.args.node c.in-Some.input.now (sym c.in-Some.ensures.value) c.in-Some.ensures.recorded c.event_for.result c.event_for.ensures.some

pub returns-clause-none : goal.returns-clause-none
returns-clause-none c = none_next c.args.world.now c.args.node c.in-Some.input.now (sym c.in-Some.ensures.value) c.event_for.result c.event_for.ensures.none
