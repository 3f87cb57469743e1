-- The texts of messages and of records.
use Rattle.std.proofs.Common.{◌≡◌, false, [], ◌∷◌, codes, refl, lit≤, lit<}
use Rattle.std.specs.Fmt.{digits}
use Rattle.serde_json.proofs.OnLiterals.{serde_json_on_literals}
use Rattle.units.specs.declared.block.Kind.TheVariants.{Lcer}
use Rattle.units.specs.declared.block.Period.TheVariants.{Second}
use Rattle.units.specs.declared.block.RawBlock.{RawBlock}
use Rattle.units.specs.declared.code.Code.{Code}
use Rattle.units.specs.declared.code.Node.TheVariants.{Itl}
use Rattle.status.specs.Id.{number_from}
use Rattle.status.specs.declared.id.TransactionId.{TransactionId}
use Rattle.status.specs.declared.status.Status.TheVariants as status
use Rattle.wire.specs.Messages.{message_text}
use Rattle.wire.specs.NotifiedStatuses.{notified_codes, notified_status, proposal_status}
use Rattle.wire.specs.Records.{record_text}
use Rattle.wire.specs.declared.input.Input.TheVariants.{Ack, CleanUp, CloseAccount, Eligible, OpenAccount, Request}
use Rattle.wire.specs.declared.message.ProposalStatus.TheVariants as proposal
use Rattle.wire.specs.declared.notified.NotifiedStatus.TheVariants as notified
use Rattle.protocol.proofs.WorkedScheme.{nz, jp, nz_node, jp_node, block, nz1, a_day_after, number, notification}
use Rattle.test_definitions.proofs.ShortNames.{terms, to_jp, proposes, asks, comes, orders}

-- ---- messages

pub a_proposal : message_text (proposes nz_node Itl nz1 proposal.Proposed (to_jp (block 1 100 ∷ [])))
    ≡ codes "{\"account\":1,\"call\":\"AcceptProposal\",\"from\":\"NZ\",\"status\":\"Proposed\",\"to\":\"ITL\",\"to_account\":7,\"to_registry\":\"JP\",\"transaction\":\"NZ1\",\"units\":[\"NZ:1:1-100:AAU\"]}"
unfolding digits serde_json_on_literals
a_proposal = refl

pub an_acceptance : message_text (notification jp_node Itl nz1 notified.Accepted) ≡ codes "{\"call\":\"AcceptNotification\",\"codes\":[],\"from\":\"JP\",\"status\":\"Accepted\",\"to\":\"ITL\",\"transaction\":\"NZ1\"}"
unfolding digits serde_json_on_literals
an_acceptance = refl

pub a_rejection : message_text (notification jp_node Itl nz1 (notified.Rejected (301 ∷ 303 ∷ []))) ≡ codes "{\"call\":\"AcceptNotification\",\"codes\":[301,303],\"from\":\"JP\",\"status\":\"Rejected\",\"to\":\"ITL\",\"transaction\":\"NZ1\"}"
unfolding digits serde_json_on_literals
a_rejection = refl

pub a_termination : message_text (notification Itl nz_node nz1 (notified.Terminated (207 ∷ []))) ≡ codes "{\"call\":\"AcceptNotification\",\"codes\":[207],\"from\":\"ITL\",\"status\":\"Terminated\",\"to\":\"NZ\",\"transaction\":\"NZ1\"}"
unfolding digits serde_json_on_literals
a_termination = refl

pub a_request : message_text (asks nz_node Itl nz1) ≡ codes "{\"call\":\"RequestCancellation\",\"from\":\"NZ\",\"to\":\"ITL\",\"transaction\":\"NZ1\"}"
unfolding digits serde_json_on_literals
a_request = refl

-- C is 67 and H is 72
abbrev ch : Code
ch = record { first = 67; second = 72; letters = ((lit≤ tt, lit≤ tt), (lit≤ tt, lit≤ tt)) }

abbrev all_but_four : RawBlock
all_but_four = record { origin = ch; period = Second; kind = Lcer; first = 5; last = 999_999_999_999_999 }

abbrev last_of_nz : TransactionId
last_of_nz = record { code = nz; number = 999_999; in_range = number_from 999_999 refl }

pub a_checked_proposal : message_text (proposes Itl jp_node last_of_nz proposal.Checked (terms 999_999_999 jp 7 (block 1 100 ∷ all_but_four ∷ [])))
    ≡ codes "{\"account\":999999999,\"call\":\"AcceptProposal\",\"from\":\"ITL\",\"status\":\"Checked\",\"to\":\"JP\",\"to_account\":7,\"to_registry\":\"JP\",\"transaction\":\"NZ999999\",\"units\":[\"NZ:1:1-100:AAU\",\"CH:2:5-999999999999999:lCER\"]}"
unfolding digits serde_json_on_literals
a_checked_proposal = refl

-- ---- their statuses and codes

pub statuses_of_proposals : (proposal_status proposal.Proposed ≡ status.Proposed) × (proposal_status proposal.Checked ≡ status.Checked)
statuses_of_proposals = (refl, refl)

pub statuses_of_notifications : (notified_status notified.Accepted ≡ status.Accepted) × (notified_status (notified.Rejected (301 ∷ 303 ∷ [])) ≡ status.Rejected) × (notified_status (notified.Terminated (207 ∷ [])) ≡ status.Terminated)
statuses_of_notifications = (refl, refl, refl)

pub codes_of_notifications : (notified_codes notified.Accepted ≡ []) × (notified_codes (notified.Rejected (301 ∷ 303 ∷ [])) ≡ 301 ∷ 303 ∷ []) × (notified_codes (notified.Terminated (207 ∷ [])) ≡ 207 ∷ [])
codes_of_notifications = (refl, refl, refl)

-- ---- records

pub record_of_an_order : record_text (orders 1 jp 7 (block 1 100 ∷ [])) ≡ codes "{\"account\":1,\"input\":\"propose\",\"to_account\":7,\"to_registry\":\"JP\",\"units\":[\"NZ:1:1-100:AAU\"],\"v\":2}"
unfolding digits serde_json_on_literals
record_of_an_order = refl

pub records_of_accounts : (record_text (CloseAccount (number 8 (lit< tt))) ≡ codes "{\"account\":8,\"input\":\"close\",\"v\":2}") × (record_text (OpenAccount (number 8 (lit< tt))) ≡ codes "{\"account\":8,\"input\":\"open\",\"v\":2}")
unfolding digits serde_json_on_literals
records_of_accounts = (refl, refl)

pub record_of_an_acknowledgement : record_text (Ack (number 0 (lit< tt))) ≡ codes "{\"input\":\"ack\",\"key\":0,\"v\":2}"
unfolding digits serde_json_on_literals
record_of_an_acknowledgement = refl

pub record_of_a_clean_up : record_text (CleanUp a_day_after) ≡ codes "{\"input\":\"clean_up\",\"moment\":1335916800,\"v\":2}"
unfolding digits serde_json_on_literals
record_of_a_clean_up = refl

pub record_of_eligibility : record_text (Eligible nz false) ≡ codes "{\"input\":\"eligible\",\"may\":false,\"registry\":\"NZ\",\"v\":2}"
unfolding digits serde_json_on_literals
record_of_eligibility = refl

pub record_of_a_request : record_text (Request nz1) ≡ codes "{\"input\":\"request\",\"transaction\":\"NZ1\",\"v\":2}"
unfolding digits serde_json_on_literals
record_of_a_request = refl

pub record_of_a_message : record_text (comes (notification Itl nz_node nz1 notified.Accepted))
    ≡ codes "{\"input\":\"received\",\"message\":{\"call\":\"AcceptNotification\",\"codes\":[],\"from\":\"ITL\",\"status\":\"Accepted\",\"to\":\"NZ\",\"transaction\":\"NZ1\"},\"moment\":1335830400,\"v\":2}"
unfolding digits serde_json_on_literals
record_of_a_message = refl
