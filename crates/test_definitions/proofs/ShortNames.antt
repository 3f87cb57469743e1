-- Short names for messages and inputs, for a node's answers to inputs after a journal, and for worlds with given
-- journals.
use Rattle.std.proofs.Common.{ℕ, true, List, [], ◌∷◌, map, Option, cond, refl, lit≤, lit<}
use Rattle.std.specs.Prelude.{Result, Ok, Err}
use Rattle.units.specs.Code.{same_node}
use Rattle.units.specs.Facts.{IsLetter}
use Rattle.units.specs.declared.block.RawBlock.{RawBlock}
use Rattle.units.specs.declared.code.Code.{Code}
use Rattle.units.specs.declared.code.Node.{Node}
use Rattle.units.specs.declared.code.Node.TheVariants.{Itl}
use Rattle.units.specs.declared.refusal.Refusal.{Refusal}
use Rattle.status.specs.Content.{Content}
use Rattle.status.specs.Id.{number_from}
use Rattle.status.specs.declared.id.TransactionId.{TransactionId}
use Rattle.status.specs.declared.moment.Moment.{Moment}
use Rattle.status.specs.declared.status.Status.{Status}
use Rattle.status.specs.declared.status.Status.TheVariants.{Completed}
use Rattle.wire.specs.declared.input.Input.{Input}
use Rattle.wire.specs.declared.input.Input.TheVariants as input
use Rattle.wire.specs.declared.message.Body.TheVariants as body
use Rattle.wire.specs.declared.message.Message.{Message}
use Rattle.wire.specs.declared.message.ProposalStatus.{ProposalStatus}
use Rattle.wire.specs.declared.message.ProposalStatus.TheVariants as proposal
use Rattle.wire.specs.declared.notified.NotifiedStatus.TheVariants as notified
use Rattle.scheme.specs.declared.registries.Scheme.{Scheme}
use Rattle.protocol.specs.declared.node_core.Stepped.{Stepped}
use Rattle.protocol.specs.declared.node_core.Stepped.TheVariants.{Recorded, Repeat, Late}
use Rattle.protocol.specs.Cores.{answer}
use Rattle.protocol.specs.Claims.{committed_of}
use Rattle.protocol.specs.History.{Entry, Transition}
use Rattle.protocol.specs.Verdict.{verdict, history, transitions_made}
use Rattle.protocol.specs.World.{World, Station}
use Rattle.protocol.proofs.WorkedScheme.{jp, nz_node, jp_node, scheme_s, scheme_of, first_of_may, at, number, notification, nz, block}

-- ---- a registry that the scheme of NZ and JP doesn't have; transactions, schemes and moments

-- A is 65 and U is 85
pub au_letters : IsLetter 65 × IsLetter 85
au_letters = ((lit≤ tt, lit≤ tt), (lit≤ tt, lit≤ tt))

abbrev pub au : Code
au = record { first = 65; second = 85; letters = au_letters }

abbrev pub jp1 : TransactionId
jp1 = record { code = jp; number = 1; in_range = number_from 1 refl }

abbrev pub nz3 : TransactionId
nz3 = record { code = nz; number = 3; in_range = number_from 3 refl }

abbrev pub nz9 : TransactionId
nz9 = record { code = nz; number = 9; in_range = number_from 9 refl }

-- the scheme of NZ and JP with room for two records
abbrev pub scheme_of_two : Scheme
scheme_of_two = scheme_of 2 (lit≤ tt, lit≤ tt)

-- 2012-05-01T00:00:01Z
abbrev pub a_second_later : Moment
a_second_later = at 1_335_830_401 (lit≤ tt)

-- 1970-01-01T00:00:00Z
abbrev pub the_first_moment : Moment
the_first_moment = at 0 (lit≤ tt)

-- ---- messages

abbrev pub terms : ℕ → Code → ℕ → List RawBlock → Content
terms account to to_account units = record { account = account; acquirer = to; to_account = to_account; units = units }

-- from an account 1 to JP's account 7
abbrev pub to_jp : List RawBlock → Content
to_jp units = terms 1 jp 7 units

abbrev pub proposes : Node → Node → TransactionId → ProposalStatus → Content → Message
proposes from to t status k = record { from = from; to = to; id = t; body = body.Proposal (record { status = status; content = k }) }

abbrev pub asks : Node → Node → TransactionId → Message
asks from to t = record { from = from; to = to; id = t; body = body.Request }

-- ---- inputs

abbrev pub comes : Message → Input
comes m = input.Received m first_of_may

abbrev pub orders : ℕ → Code → ℕ → List RawBlock → Input
orders account to to_account units = input.Propose (record { account = account; acquirer = to; to_account = to_account; units = units })

-- ---- the node's answer to each of these inputs after the journal

abbrev pub Answer : Type 0
Answer = Result Stepped Refusal

abbrev pub recorded : ℕ → Answer
recorded place = Ok (Recorded place)

abbrev pub again : Answer
again = Ok Repeat

abbrev pub late : Answer
late = Ok Late

abbrev pub refused : ℕ → Answer
refused code = Err (record { code = code })

abbrev pub answers : Scheme → Node → (journal inputs : List Input) → List Answer
answers scheme n journal inputs = map (answer scheme n journal) inputs

-- ---- its records of transactions, and the messages that go out

pub record Moved : Type 0 where
  pub id : TransactionId
  pub new : Status
  pub content : Option Content
  pub messages : List Message

abbrev pub moves : Scheme → Node → List Input → Input → List Moved
moves scheme n journal i = map (λ x. record { id = x.id; new = x.new; content = x.content; messages = x.messages }) (transitions_made (verdict scheme n (history scheme n journal) i))

-- ---- worlds with these journals, forged ones among them

abbrev pub has : Node → List Input → Station
has n journal = record { node = n; committed = journal; tail = []; runs = true }

abbrev pub world_with : Scheme → List Station → World
world_with scheme stations = record { scheme = scheme; stations = stations; bag = [] }

-- NZ and JP have these, and the log has nothing
abbrev pub both_have : (at_nz at_jp : List Input) → Node → List Entry
both_have at_nz at_jp = committed_of (world_with scheme_s (has Itl [] ∷ has jp_node at_jp ∷ has nz_node at_nz ∷ []))

-- JP gets the notification that a transfer of these units is completed
abbrev pub told_jp : TransactionId → Content → List Input
told_jp t k = comes (proposes Itl jp_node t proposal.Checked k) ∷ comes (notification Itl jp_node t notified.Completed) ∷ []

abbrev pub first_unit : Content
first_unit = to_jp (block 1 1 ∷ [])

-- ---- transitions, and histories of one record

abbrev pub completes : TransactionId → Option Content → Transition
completes t k = record { id = t; new = Completed; content = k; moment = 0; messages = [] }

abbrev pub one_entry : List Transition → List Entry
one_entry xs = record { input = input.OpenAccount (number 1 (lit< tt)); transitions = xs } ∷ []

-- the registries made these transitions, and the log none
abbrev pub both_made : (at_nz at_jp : List Transition) → Node → List Entry
both_made at_nz at_jp n = cond (same_node n nz_node) (one_entry at_nz) (cond (same_node n jp_node) (one_entry at_jp) [])
