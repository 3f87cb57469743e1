-- The content of a notification: a status, and the codes of findings.
use Rattle.std.specs.Prelude.{ℕ, List, []}
use Rattle.status.specs.declared.status.Status.{Status}
use Rattle.status.specs.declared.status.Status.TheVariants as status
use Rattle.wire.specs.Codes.{AreLogCodes, AreAcquirerCodes}
use Rattle.wire.specs.declared.notified.NotifiedStatus.{NotifiedStatus}
use Rattle.wire.specs.declared.notified.NotifiedStatus.TheVariants.{Accepted, Rejected, Terminated, Cancelled, Completed}
use Rattle.wire.specs.declared.message.ProposalStatus.{ProposalStatus}
use Rattle.wire.specs.declared.message.ProposalStatus.TheVariants.{Proposed, Checked}

abbrev pub notified_status : NotifiedStatus → Status
notified_status Accepted = status.Accepted
notified_status (Rejected codes) = status.Rejected
notified_status (Terminated codes) = status.Terminated
notified_status Cancelled = status.Cancelled
notified_status Completed = status.Completed

abbrev pub notified_codes : NotifiedStatus → List ℕ
notified_codes (Rejected codes) = codes
notified_codes (Terminated codes) = codes
notified_codes _ = []

-- the codes belong to the status
abbrev pub IsNotified : NotifiedStatus → Type 0
IsNotified (Rejected codes) = AreAcquirerCodes codes
IsNotified (Terminated codes) = AreLogCodes codes
IsNotified _ = Unit {0}

abbrev pub proposal_status : ProposalStatus → Status
proposal_status Proposed = status.Proposed
proposal_status Checked = status.Checked
