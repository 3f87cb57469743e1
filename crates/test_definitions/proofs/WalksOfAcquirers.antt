-- The results of the registry JP for inputs that come one after another, from the empty journal on, as an acquirer.
use Rattle.std.proofs.Common.{◌≡◌, ℕ, List, [], ◌∷◌, ◌++◌, refl, lit<}
use Rattle.units.specs.declared.block.Kind.TheVariants.{Cer, Rmu}
use Rattle.units.specs.declared.block.RawBlock.{RawBlock}
use Rattle.units.specs.declared.code.Code.{Code}
use Rattle.units.specs.declared.code.Node.TheVariants.{Itl}
use Rattle.status.specs.Id.{number_from}
use Rattle.status.specs.declared.id.TransactionId.{TransactionId}
use Rattle.wire.specs.declared.input.Input.{Input}
use Rattle.wire.specs.declared.input.Input.TheVariants.{CloseAccount}
use Rattle.wire.specs.declared.message.Message.{Message}
use Rattle.wire.specs.declared.message.ProposalStatus.{ProposalStatus}
use Rattle.wire.specs.declared.message.ProposalStatus.TheVariants as proposal
use Rattle.wire.specs.declared.notified.NotifiedStatus.{NotifiedStatus}
use Rattle.wire.specs.declared.notified.NotifiedStatus.TheVariants as notified
use Rattle.protocol.specs.Verdict.{verdict}
use Rattle.protocol.proofs.WorkedScheme.{nz, jp, nz_node, jp_node, block, block_of, nz1, nz2, number, notification}
use Rattle.test_definitions.proofs.ShortNames.{jp1, nz3, nz9, terms, proposes, comes, recorded, again, late, refused}
use Rattle.test_definitions.proofs.ThreeRegistries.{jp_block}
use Rattle.test_definitions.proofs.WalksOfNodes.{walk, sent}

abbrev close_7 : Input
close_7 = CloseAccount (number 7 (lit< tt))

abbrev close_8 : Input
close_8 = CloseAccount (number 8 (lit< tt))

-- the log's message about that transaction, with these units for that account
abbrev passed_on : TransactionId → ℕ → List RawBlock → Input
passed_on t to_account units = comes (proposes Itl jp_node t proposal.Checked (terms 1 jp to_account units))

abbrev told : TransactionId → NotifiedStatus → Input
told t status = comes (notification Itl jp_node t status)

abbrev ten : List RawBlock
ten = block 1 10 ∷ []

abbrev proposed : Input
proposed = passed_on nz1 7 ten

-- ---- a transfer into account 7, and proposals with findings after it

abbrev transfer_in : List Input
transfer_in = close_8 ∷ proposed ∷ proposed ∷ close_7 ∷ told nz1 notified.Completed ∷ told nz1 notified.Completed ∷ close_7 ∷ []

pub a_transfer_into_an_account : walk jp_node transfer_in ≡ recorded 0 ∷ recorded 1 ∷ again ∷ refused 113 ∷ recorded 2 ∷ again ∷ refused 112 ∷ []
unfolding verdict
a_transfer_into_an_account = refl

abbrev nz4 : TransactionId
nz4 = record { code = nz; number = 4; in_range = number_from 4 refl }

abbrev nz5 : TransactionId
nz5 = record { code = nz; number = 5; in_range = number_from 5 refl }

abbrev nz6 : TransactionId
nz6 = record { code = nz; number = 6; in_range = number_from 6 refl }

abbrev with_findings : List Input
with_findings =
    passed_on nz2 9 (block 11 11 ∷ [])
    ∷ passed_on nz3 8 (block 11 11 ∷ [])
    ∷ passed_on nz4 7 (block 10 11 ∷ [])
    ∷ passed_on nz5 7 (block_of Rmu 11 11 ∷ [])
    ∷ passed_on nz6 7 (block 20 30 ∷ block_of Cer 30 40 ∷ [])
    ∷ []

abbrev completed_in : List Input
completed_in = close_8 ∷ proposed ∷ told nz1 notified.Completed ∷ []

pub proposals_with_findings : walk jp_node (completed_in ++ with_findings) ≡ recorded 0 ∷ recorded 1 ∷ recorded 2 ∷ recorded 3 ∷ recorded 4 ∷ recorded 5 ∷ recorded 6 ∷ refused 44 ∷ []
unfolding verdict
proposals_with_findings = refl

abbrev rejects : TransactionId → ℕ → Message
rejects t code = notification jp_node Itl t (notified.Rejected (code ∷ []))

pub an_acquirer_finds_each_cause : sent jp_node (completed_in ++ with_findings) ≡ notification jp_node Itl nz1 notified.Accepted ∷ rejects nz2 301 ∷ rejects nz3 302 ∷ rejects nz4 303 ∷ rejects nz5 304 ∷ []
unfolding verdict
an_acquirer_finds_each_cause = refl

-- ---- messages refused by their first cause

abbrev another : TransactionId → ProposalStatus → Code → List RawBlock → Input
another t status to units = comes (proposes Itl jp_node t status (terms 1 to 7 units))

pub messages_are_refused_by_their_first_cause : walk jp_node (proposed
    ∷ comes (notification nz_node nz_node nz9 notified.Completed)
    ∷ comes (notification nz_node jp_node nz9 notified.Completed)
    ∷ told nz9 notified.Completed
    ∷ another nz1 proposal.Checked nz (block 1 9 ∷ [])
    ∷ another jp1 proposal.Checked jp (jp_block 1 1 ∷ [])
    ∷ another nz1 proposal.Proposed jp (block 1 9 ∷ [])
    ∷ another nz1 proposal.Proposed jp ten
    ∷ told nz1 notified.Accepted ∷ [])
    ≡ recorded 0 ∷ refused 42 ∷ refused 43 ∷ refused 47 ∷ refused 44 ∷ refused 44 ∷ refused 45 ∷ refused 46 ∷ refused 46 ∷ []
unfolding verdict
messages_are_refused_by_their_first_cause = refl

-- ---- a transfer that is cancelled before its proposal comes, and one afterwards

pub cancelled_transfers : walk jp_node (told nz1 notified.Cancelled ∷ told nz1 notified.Cancelled ∷ proposed ∷ told nz1 notified.Completed ∷ passed_on nz2 7 ten ∷ told nz2 notified.Cancelled ∷ close_7 ∷ [])
    ≡ recorded 0 ∷ again ∷ late ∷ refused 46 ∷ recorded 1 ∷ recorded 2 ∷ recorded 3 ∷ []
unfolding verdict
cancelled_transfers = refl
