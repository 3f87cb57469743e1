-- The names of the statuses.
use Rattle.std.specs.Prelude.{ℕ, List, codes, Bool, ◌==◌}
use Rattle.status.specs.declared.status.Status.{Status}
use Rattle.status.specs.declared.status.Status.TheVariants.{Proposed, Checked, Accepted, Rejected, Terminated, Cancelled, Completed}

abbrev pub status_text : Status → List ℕ
status_text Proposed = codes "Proposed"
status_text Checked = codes "Checked"
status_text Accepted = codes "Accepted"
status_text Rejected = codes "Rejected"
status_text Terminated = codes "Terminated"
status_text Cancelled = codes "Cancelled"
status_text Completed = codes "Completed"

abbrev pub status_index : Status → ℕ
status_index Proposed = 0
status_index Checked = 1
status_index Accepted = 2
status_index Rejected = 3
status_index Terminated = 4
status_index Cancelled = 5
status_index Completed = 6

abbrev pub same_status : Status → Status → Bool
same_status a b = status_index a == status_index b
