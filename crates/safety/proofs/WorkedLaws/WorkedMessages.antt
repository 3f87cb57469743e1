-- Short names of messages and of histories, forged ones among them, for worked runs.
use Rattle.std.proofs.Common.{ℕ, List, [], ◌∷◌, Option, Some, None, cond, refl, lit<}
use Rattle.units.specs.Code.{same_node}
use Rattle.units.specs.declared.block.RawBlock.{RawBlock}
use Rattle.units.specs.declared.code.Code.{Code}
use Rattle.units.specs.declared.code.Node.{Node}
use Rattle.units.specs.declared.code.Node.TheVariants.{Itl}
use Rattle.status.specs.Content.{Content}
use Rattle.status.specs.Id.{number_from}
use Rattle.status.specs.declared.id.TransactionId.{TransactionId}
use Rattle.status.specs.declared.status.Status.TheVariants.{Completed}
use Rattle.wire.specs.declared.input.Input.TheVariants.{OpenAccount}
use Rattle.wire.specs.declared.message.Body.TheVariants.{Proposal}
use Rattle.wire.specs.declared.message.Message.{Message}
use Rattle.wire.specs.declared.message.ProposalStatus.{ProposalStatus}
use Rattle.protocol.specs.History.{Entry, Transition}
use Rattle.protocol.proofs.WorkedScheme.{block, jp, jp_node, number, nz, nz_node}

abbrev pub jp1 : TransactionId
jp1 = record { code = jp; number = 1; in_range = number_from 1 refl }

-- from account 1 of NZ to account 7 of JP
abbrev pub to_jp : List RawBlock → Content
to_jp units = record { account = 1; acquirer = jp; to_account = 7; units = units }

abbrev pub to_nz : List RawBlock → Content
to_nz units = record { account = 7; acquirer = nz; to_account = 1; units = units }

abbrev pub first_unit : List RawBlock
first_unit = block 1 1 ∷ []

abbrev pub proposes : Node → Node → TransactionId → ProposalStatus → Content → Message
proposes from to t status k = record { from = from; to = to; id = t; body = Proposal (record { status = status; content = k }) }

abbrev pub completes : TransactionId → Option Content → Transition
completes t k = record { id = t; new = Completed; content = k; moment = 0; messages = [] }

-- a history of one record, and one without records
abbrev pub one_entry : List Transition → List Entry
one_entry xs = record { input = OpenAccount (number 1 (lit< tt)); transitions = xs } ∷ []

-- the log, NZ and JP made these transitions
abbrev pub all_made : (at_log at_nz at_jp : List Transition) → Node → List Entry
all_made at_log at_nz at_jp n = cond (same_node n Itl) (one_entry at_log) (cond (same_node n nz_node) (one_entry at_nz) (cond (same_node n jp_node) (one_entry at_jp) []))
