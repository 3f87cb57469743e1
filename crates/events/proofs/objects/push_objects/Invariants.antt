use Rattle.std.proofs.Common.{◌≡◌, ◌++◌, take}
use Rattle.events.specs.Objects.{event_objects}
use Rattle.events.proofs.objects.push_objects.Given as goal

abbrev pub invariant-loop-event : goal.invariant-loop-event
invariant-loop-event l = l.text.items ≡ l.fn.text.items ++ event_objects (take l.event-index l.events)
