-- The lines of a report: one for each event's outcome, and those of a table, as words or as JSON objects.
use Rattle.std.specs.Prelude.{ℕ, min, List, ◌++◌, Option, Some, None, decimal, codes, sum_by}
use Rattle.std.specs.List.{flat_map}
use Rattle.units.specs.Code.{code_text}
use Rattle.units.specs.Block.{raw_text}
use Rattle.units.specs.declared.code.Code.{Code}
use Rattle.units.specs.declared.block.RawBlock.{RawBlock}
use Rattle.status.specs.Id.{id_text}
use Rattle.status.specs.Status.{status_text}
use Rattle.status.specs.declared.id.TransactionId.{TransactionId}
use Rattle.status.specs.declared.status.Status.{Status}
use Rattle.wire.specs.NotifiedStatuses.{notified_status}
use Rattle.wire.specs.declared.message.Body.{Body}
use Rattle.wire.specs.declared.message.Body.TheVariants as body
use Rattle.wire.specs.declared.message.Message.{Message}
use Rattle.registry_core.specs.HeldBlock.{HeldBlock}
use Rattle.protocol.specs.Table.{ProposedTransfer}
use Rattle.protocol.specs.declared.event.Outcome.{Outcome}
use Rattle.protocol.specs.declared.event.Outcome.TheVariants.{Recorded, Repeat, Late, Refused, Done, NotPossible}
use Rattle.report.specs.NumberOfUnits.{due_units, held_units}
use Rattle.report.specs.declared.form.Form.{Form}
use Rattle.report.specs.declared.form.Form.TheVariants.{Lines, Json}
use Rattle.report.specs.declared.transactions.TransactionRow.{TransactionRow}

-- ---- outcomes

abbrev pub outcome_text : Outcome → List ℕ
outcome_text (Recorded place) = codes "recorded " ++ decimal place
outcome_text Repeat = codes "repeat"
outcome_text Late = codes "late"
outcome_text (Refused code) = codes "refused " ++ decimal code
outcome_text Done = codes "done"
outcome_text NotPossible = codes "not possible"

-- the line of the event with that number
abbrev pub outcome_line : ℕ → Outcome → List ℕ
outcome_line event outcome = decimal event ++ codes " " ++ outcome_text outcome ++ codes "\n"

-- ---- messages

abbrev pub message_word : Body → List ℕ
message_word (body.Proposal p) = codes "proposal"
message_word (body.Notification n) = status_text (notified_status n)
message_word body.Request = codes "request"

-- a message's kind and transaction
abbrev pub message_text : Message → List ℕ
message_text m = message_word m.body ++ codes " " ++ id_text m.id

-- ---- transactions

-- a status, or none where the node has no record of the transaction
abbrev pub status_or_none : Option Status → List ℕ
status_or_none (Some status) = status_text status
status_or_none None = codes "none"

-- the same as a JSON value
abbrev pub status_or_null : Option Status → List ℕ
status_or_null (Some status) = codes "\"" ++ status_text status ++ codes "\""
status_or_null None = codes "null"

abbrev pub transaction_line : Form → TransactionRow → List ℕ
transaction_line Lines s =
    codes "transaction " ++ id_text s.id
    ++ codes " " ++ code_text s.id.code ++ codes " " ++ status_or_none s.at_initiator
    ++ codes " ITL " ++ status_or_none s.at_log
    ++ codes " " ++ code_text s.acquirer ++ codes " " ++ status_or_none s.at_acquirer ++ codes "\n"
transaction_line Json s =
    codes "{\"acquirer\":\"" ++ code_text s.acquirer ++ codes "\",\"acquirer_status\":" ++ status_or_null s.at_acquirer
    ++ codes ",\"initiator\":\"" ++ code_text s.id.code ++ codes "\",\"initiator_status\":" ++ status_or_null s.at_initiator
    ++ codes ",\"line\":\"transaction\",\"log_status\":" ++ status_or_null s.at_log
    ++ codes ",\"transaction\":\"" ++ id_text s.id ++ codes "\"}\n"

-- ---- numbers of units

-- the greatest number of units that is shown: 2^64 - 1 stands for any greater one too
abbrev pub greatest_shown : ℕ
greatest_shown = 18_446_744_073_709_551_615

abbrev pub shown : ℕ → ℕ
shown units = min units greatest_shown

-- the units that no transfer reserves
abbrev pub unless_reserved : Option TransactionId → ℕ → ℕ
unless_reserved (Some id) units = 0
unless_reserved None units = units

abbrev pub free_units : HeldBlock → ℕ
free_units l = unless_reserved l.reserving (held_units l)

-- the numbers that are shown of a registry's lines, and of the transfers that owe their units
abbrev pub held_shown : List HeldBlock → ℕ
held_shown lines = shown (sum_by held_units lines)

abbrev pub free_shown : List HeldBlock → ℕ
free_shown lines = shown (sum_by free_units lines)

abbrev pub owed_shown : List ProposedTransfer → ℕ
owed_shown proposals = shown (sum_by due_units proposals)

-- ---- the lines about a registry: its numbers of units, and each line of its holdings

abbrev pub registry_line : Form → Code → ℕ → ℕ → List ℕ
registry_line Lines code held free =
    codes "registry " ++ code_text code ++ codes " held " ++ decimal held ++ codes " spendable " ++ decimal free ++ codes "\n"
registry_line Json code held free =
    codes "{\"held\":" ++ decimal held ++ codes ",\"line\":\"registry\",\"registry\":\"" ++ code_text code ++ codes "\",\"spendable\":" ++ decimal free ++ codes "}\n"

-- the transaction that reserves the units, or free
abbrev pub reserving_text : Option TransactionId → List ℕ
reserving_text (Some id) = id_text id
reserving_text None = codes "free"

-- the same as a JSON value
abbrev pub reserving_or_null : Option TransactionId → List ℕ
reserving_or_null (Some id) = codes "\"" ++ id_text id ++ codes "\""
reserving_or_null None = codes "null"

abbrev pub holding_line : Form → Code → HeldBlock → List ℕ
holding_line Lines code l =
    codes "holds " ++ code_text code ++ codes " " ++ decimal l.account ++ codes " " ++ raw_text l.block.raw ++ codes " " ++ reserving_text l.reserving ++ codes "\n"
holding_line Json code l =
    codes "{\"account\":" ++ decimal l.account ++ codes ",\"line\":\"holds\",\"registry\":\"" ++ code_text code ++ codes "\",\"transaction\":" ++ reserving_or_null l.reserving ++ codes ",\"units\":\""
    ++ raw_text l.block.raw ++ codes "\"}\n"

abbrev pub registry_lines : Form → Code → List HeldBlock → List ℕ
registry_lines form code lines = registry_line form code (held_shown lines) (free_shown lines) ++ flat_map (holding_line form code) lines

-- ---- the lines about owed units: their number, and each block of each transfer; then the end of the report

abbrev pub due_line : Form → TransactionId → RawBlock → List ℕ
due_line Lines id block = codes "due " ++ id_text id ++ codes " " ++ raw_text block ++ codes "\n"
due_line Json id block = codes "{\"line\":\"due\",\"transaction\":\"" ++ id_text id ++ codes "\",\"units\":\"" ++ raw_text block ++ codes "\"}\n"

abbrev pub due_lines : Form → ProposedTransfer → List ℕ
due_lines form p = flat_map (due_line form p.id) p.content.units

abbrev pub owed_line : Form → List ProposedTransfer → List ℕ
owed_line Lines proposals = codes "owed " ++ decimal (owed_shown proposals) ++ codes "\n"
owed_line Json proposals = codes "{\"line\":\"owed\",\"owed\":" ++ decimal (owed_shown proposals) ++ codes "}\n"

abbrev pub end_line : Form → List ℕ
end_line Lines = codes "end\n"
end_line Json = codes "{\"line\":\"end\"}\n"

abbrev pub owed_lines : Form → List ProposedTransfer → List ℕ
owed_lines form proposals = owed_line form proposals ++ flat_map (due_lines form) proposals ++ end_line form
