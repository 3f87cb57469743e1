-- Verdicts, how the tables decide them, and the decisions that every node makes in the same way.
use Rattle.std.specs.Prelude.{ℕ, not, cond, nat_le, Bool, false, List, [], ◌∷◌, length, Option, Some, None, option_and_then}
use Rattle.std.specs.Option.{option_map_or}
use Rattle.units.specs.RefusalCodes.{no_row, journal_full}
use Rattle.status.specs.Content.{Content, same_content}
use Rattle.status.specs.declared.id.TransactionId.{TransactionId}
use Rattle.status.specs.declared.rows.RecordedStatus.{RecordedStatus}
use Rattle.status.specs.declared.rows.RecordedStatus.TheVariants.{Unknown, Bare, Stands}
use Rattle.status.specs.declared.rows.Row.{Row}
use Rattle.status.specs.declared.rows.Row.TheVariants.{Move, Repeat, Late, Refused}
use Rattle.status.specs.declared.rows.RowInput.{RowInput}
use Rattle.status.specs.declared.rows.RowInput.TheVariants.{ProposalWithoutFinding, ProposalWithFindings, EqualProposal}
use Rattle.status.specs.declared.status.Status.{Status}
use Rattle.wire.specs.declared.message.Message.{Message}
use Rattle.scheme.specs.declared.registries.Scheme.{Scheme}
use Rattle.protocol.specs.History.{Transition, Entry, sends, is_acknowledged}
use Rattle.protocol.specs.Checks.{Causes}

-- recorded with these transitions, or acted on before, or too late to act on, or refused with that code
pub data Verdict : Type 0 where
  IsRecorded : List Transition → Verdict
  IsRepeat : Verdict
  IsLate : Verdict
  IsRefused : ℕ → Verdict

-- the first refusal whose cause holds, else the verdict that follows
abbrev pub refuse : Causes → Verdict → Verdict
refuse [] answer = answer
refuse (c ∷ cs) answer = cond c.0 (IsRefused c.1) (refuse cs answer)

-- recorded, where the journal has room
abbrev pub recorded_if_room : Scheme → List Entry → List Transition → Verdict
recorded_if_room scheme es xs = cond (nat_le scheme.records (length es)) (IsRefused journal_full) (IsRecorded xs)

-- ---- by the tables

-- the recorded status of a transaction, by the newest transition that names it
abbrev pub known : Option Transition → RecordedStatus
known None = Unknown
known (Some x) = option_map_or (λ k. Stands x.new) x.content Bare

abbrev pub content_in : Option Transition → Option Content
content_in last = option_and_then (λ x. x.content) last

-- the column of a proposal: an equal proposal where a content is recorded, otherwise by the findings
abbrev pub column_of_proposal : Option Content → List ℕ → RowInput
column_of_proposal (Some k) found = EqualProposal
column_of_proposal None [] = ProposalWithoutFinding
column_of_proposal None (c ∷ cs) = ProposalWithFindings

abbrev pub moved : TransactionId → Option Content → ℕ → List Message → Status → Transition
moved t k moment messages new = record { id = t; new = new; content = k; moment = moment; messages = messages }

-- the transition of a row that moves
abbrev pub moved_by : (Status → Transition) → Row → List Transition
moved_by to (Move new) = to new ∷ []
moved_by to _ = []

-- the verdict of a row: where it moves, the transition is recorded
abbrev pub by_row : Scheme → List Entry → (Status → Transition) → Row → Verdict
by_row scheme es to (Move new) = recorded_if_room scheme es (to new ∷ [])
by_row scheme es to Repeat = IsRepeat
by_row scheme es to Late = IsLate
by_row scheme es to Refused = IsRefused no_row

-- known with another content
abbrev pub has_other : Option Transition → Content → Bool
has_other last k = option_map_or (λ content. not (same_content content k)) (content_in last) false

-- ---- acknowledgements

abbrev pub ack_refusals : List Entry → ℕ → Causes
ack_refusals es key = (nat_le (length (sends es)) key, no_row) ∷ []

abbrev pub acknowledge : Scheme → List Entry → ℕ → Verdict
acknowledge scheme es key = refuse (ack_refusals es key) (cond (is_acknowledged es key) IsRepeat (recorded_if_room scheme es []))
