-- How many rounds a transfer needs at most, by the statuses that it has at its initiator, at the log and at its acquirer.
use Rattle.std.specs.Prelude.{◌≡◌, ℕ, List, Option, Some, None}
use Rattle.units.specs.declared.code.Node.TheVariants.{Itl}
use Rattle.status.specs.Content.{Content}
use Rattle.status.specs.declared.id.TransactionId.{TransactionId}
use Rattle.status.specs.declared.status.Status.{Status}
use Rattle.status.specs.declared.status.Status.TheVariants.{Proposed, Checked, Accepted, Rejected, Cancelled, Completed}
use Rattle.protocol.specs.declared.event.WorldEvent.{WorldEvent}
use Rattle.protocol.specs.Claims.{at_registry, committed_of, live_of}
use Rattle.protocol.specs.History.{Transition, newest, stands, transitions_of}
use Rattle.safety.specs.Rounds.{HasEnded, HasRounds}
use Rattle.protocol.specs.World.{World, run}

abbrev pub rounds_left : Option Status → Option Status → Option Status → ℕ
rounds_left (Some Proposed) None acquirer = 6
rounds_left (Some Proposed) (Some Checked) None = 5
rounds_left (Some Proposed) (Some Checked) (Some Rejected) = 2
rounds_left (Some Proposed) (Some Checked) (Some other) = 4
rounds_left (Some Proposed) (Some Accepted) acquirer = 3
rounds_left (Some Proposed) (Some ended) acquirer = 1
rounds_left (Some Completed) (Some Accepted) acquirer = 2
rounds_left (Some Completed) (Some Completed) (Some Completed) = 0
rounds_left (Some Completed) (Some Completed) acquirer = 1
rounds_left (Some Cancelled) log None = 1
rounds_left (Some Cancelled) log (Some Accepted) = 1
rounds_left _ _ _ = 0

-- after as many rounds a transfer has ended for good
abbrev pub EndsInTime : World → Type 0
EndsInTime w =
    (t : TransactionId) (x : Transition) (k : Content) → newest (at_registry (committed_of w) t.code) t ≡ Some x → x.content ≡ Some k
    → (events : List WorldEvent)
    → HasRounds (rounds_left (Some x.new) (stands (transitions_of (committed_of w Itl)) t) (stands (at_registry (committed_of w) k.acquirer) t)) w events
    → HasEnded (committed_of (run w events)) t × HasEnded (live_of (run w events)) t
