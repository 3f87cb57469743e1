-- The verdicts of the log and of a registry on single messages.
use Rattle.std.proofs.Common.{◌≡◌, ℕ, List, [], ◌∷◌, ◌++◌, Some, None, refl, lit≤}
use Rattle.units.specs.Facts.{IsLetter}
use Rattle.units.specs.declared.block.Kind.TheVariants.{Aau, Cer}
use Rattle.units.specs.declared.block.Period.TheVariants.{First}
use Rattle.units.specs.declared.code.Code.{Code}
use Rattle.units.specs.declared.code.Node.{Node}
use Rattle.units.specs.declared.code.Node.TheVariants.{Itl, Registry}
use Rattle.status.specs.Content.{Content}
use Rattle.status.specs.Id.{number_from}
use Rattle.status.specs.declared.id.TransactionId.{TransactionId}
use Rattle.status.specs.declared.status.Status.TheVariants.{Checked, Terminated, Cancelled}
use Rattle.wire.specs.declared.input.Input.{Input}
use Rattle.wire.specs.declared.input.Input.TheVariants.{Propose, Received}
use Rattle.wire.specs.declared.message.Body.TheVariants.{Proposal}
use Rattle.wire.specs.declared.message.Message.{Message}
use Rattle.wire.specs.declared.message.ProposalStatus.{ProposalStatus}
use Rattle.wire.specs.declared.message.ProposalStatus.TheVariants as proposal
use Rattle.wire.specs.declared.notified.NotifiedStatus.TheVariants as notified
use Rattle.protocol.specs.AtLog.{ledger}
use Rattle.protocol.specs.Checks.{log_findings}
use Rattle.protocol.specs.Deciding.{Verdict, IsRecorded, IsRepeat, IsLate, IsRefused}
use Rattle.protocol.specs.History.{Transition, transitions_of, book_owner}
use Rattle.protocol.specs.Verdict.{verdict, history}
use Rattle.protocol.proofs.WorkedScheme.{nz, jp, nz_node, jp_node, block, block_of, all_units, unit, nz1, scheme_s, first_of_may, notification}

-- A is 65 and U is 85
pub au_letters : IsLetter 65 × IsLetter 85
au_letters = ((lit≤ tt, lit≤ tt), (lit≤ tt, lit≤ tt))

abbrev pub au : Code
au = record { first = 65; second = 85; letters = au_letters }

abbrev jp1 : TransactionId
jp1 = record { code = jp; number = 1; in_range = number_from 1 refl }

abbrev nz9 : TransactionId
nz9 = record { code = nz; number = 9; in_range = number_from 9 refl }

abbrev content : Code → Content
content to = record { account = 1; acquirer = to; to_account = 7; units = all_units }

abbrev fewer : Content
fewer = record { account = 1; acquirer = jp; to_account = 7; units = block 1 99 ∷ [] }

abbrev comes : Message → Input
comes m = Received m first_of_may

abbrev proposal_of : Node → Node → TransactionId → ProposalStatus → Content → Message
proposal_of from to t status k = record { from = from; to = to; id = t; body = Proposal (record { status = status; content = k }) }

abbrev from_nz : Content → Message
from_nz k = proposal_of nz_node Itl nz1 proposal.Proposed k

abbrev log_says : List Input → Message → Verdict
log_says journal m = verdict scheme_s Itl (history scheme_s Itl journal) (comes m)

-- ---- the log

pub log_refuses : (log_says [] (notification jp_node Itl nz1 notified.Accepted) ≡ IsRefused 47)
    × (log_says [] (proposal_of jp_node Itl nz1 proposal.Proposed (content jp)) ≡ IsRefused 44)
    × (log_says [] (notification nz_node jp_node nz1 notified.Accepted) ≡ IsRefused 42)
    × (log_says [] (notification (Registry au) Itl nz1 notified.Accepted) ≡ IsRefused 43)
unfolding verdict
log_refuses = (refl, refl, refl, refl)

abbrev first_checked : Transition
first_checked = record {
  id = nz1;
  new = Checked;
  content = Some (content jp);
  moment = 1_335_830_400;
  messages = proposal_of Itl jp_node nz1 proposal.Checked (content jp) ∷ [];
}

pub log_takes : (log_says [] (from_nz (content jp)) ≡ IsRecorded (first_checked ∷ []))
    × (log_says (comes (from_nz (content jp)) ∷ []) (from_nz (content jp)) ≡ IsRepeat)
    × (log_says (comes (from_nz (content jp)) ∷ []) (from_nz fewer) ≡ IsRefused 45)
    × (log_says (comes (from_nz (content jp)) ∷ []) (notification jp_node Itl nz1 (notified.Terminated (207 ∷ []))) ≡ IsRefused 46)
unfolding verdict
log_takes = (refl, refl, refl, refl)

pub owner_is_nz : book_owner scheme_s (transitions_of (history scheme_s Itl (comes (from_nz (content jp)) ∷ []))) (unit 1) ≡ Some nz
unfolding verdict
owner_is_nz = refl

-- JP proposes to itself units that another one has in part and nobody in part, by another kind
abbrev odd : Content
odd = record { account = 7; acquirer = jp; to_account = 7; units = block_of Cer 100 101 ∷ [] }

abbrev found : List ℕ
found = 201 ∷ 203 ∷ 204 ∷ 206 ∷ []

abbrev first_terminated : Transition
first_terminated = record {
  id = jp1;
  new = Terminated;
  content = Some odd;
  moment = 1_335_830_400;
  messages = notification Itl jp_node jp1 (notified.Terminated found) ∷ [];
}

pub log_finds : (log_says [] (proposal_of jp_node Itl jp1 proposal.Proposed odd) ≡ IsRecorded (first_terminated ∷ []))
    × (log_findings scheme_s (ledger scheme_s []) jp odd ≡ found)
unfolding verdict
log_finds = (refl, refl)

-- ---- a registry

abbrev order : ℕ → ℕ → Input
order first last = Propose (record { account = 1; acquirer = jp; to_account = 7; units = block first last ∷ [] })

abbrev two_orders : List Input
two_orders = order 1 10 ∷ order 11 20 ∷ []

abbrev nz_says : List Input → Message → Verdict
nz_says journal m = verdict scheme_s nz_node (history scheme_s nz_node journal) (comes m)

abbrev foreign : Content
foreign = record { account = 7; acquirer = nz; to_account = 1; units = record { origin = jp; period = First; kind = Aau; first = 1; last = 1 } ∷ [] }

abbrev is_cancelled : Message
is_cancelled = notification Itl nz_node jp1 notified.Cancelled

abbrev without_content : Transition
without_content = record { id = jp1; new = Cancelled; content = None; moment = 1_335_830_400; messages = [] }

pub nz_answers : (nz_says two_orders is_cancelled ≡ IsRecorded (without_content ∷ []))
    × (nz_says (two_orders ++ comes is_cancelled ∷ []) is_cancelled ≡ IsRepeat)
    × (nz_says (two_orders ++ comes is_cancelled ∷ []) (proposal_of Itl nz_node jp1 proposal.Checked foreign) ≡ IsLate)
    × (nz_says two_orders (notification Itl nz_node nz9 notified.Completed) ≡ IsRefused 47)
unfolding verdict
nz_answers = (refl, refl, refl, refl)
