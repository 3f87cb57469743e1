-- The transitions of a journal's inputs, and the facts that are read off them. A journal is the list of the inputs that
-- a node recorded, the oldest first. A history is the list of these inputs with their transitions, the newest first.
use Rattle.std.specs.Prelude.{ℕ, ◌+◌, ◌==◌, ◌&&◌, ◌||◌, not, cond, Bool, true, false, List, [], ◌∷◌, ◌++◌, find, flat_map, unwrap_or, Option, Some, None, option_map, option_and_then, is_some}
use Rattle.std.specs.List.{list_any, count_by}
use Rattle.std.specs.Option.{option_map_or}
use Rattle.units.specs.Code.{same_code}
use Rattle.units.specs.Unit.{has_unit}
use Rattle.units.specs.declared.block.Kind.{Kind}
use Rattle.units.specs.declared.block.Unit.{Unit as Serial}
use Rattle.units.specs.declared.code.Code.{Code}
use Rattle.status.specs.Content.{Content}
use Rattle.status.specs.Id.{same_id}
use Rattle.status.specs.Status.{same_status}
use Rattle.status.specs.declared.id.TransactionId.{TransactionId}
use Rattle.status.specs.declared.status.Status.{Status}
use Rattle.status.specs.declared.status.Status.TheVariants.{Proposed, Checked, Accepted, Completed}
use Rattle.wire.specs.declared.input.Input.{Input}
use Rattle.wire.specs.declared.input.Input.TheVariants.{Propose, Request, OpenAccount, CloseAccount, Ack, Eligible}
use Rattle.wire.specs.declared.message.Message.{Message}
use Rattle.scheme.specs.declared.members.Holder.{Holder}
use Rattle.scheme.specs.declared.registries.Scheme.{Scheme}
use Rattle.units.specs.Unit.{have_unit}
use Rattle.protocol.specs.Registries.{member, allotted}

-- the effect of a record on a transaction: its status from then on, its content where that is known here, the moment
-- (in seconds), and the messages that are sent
pub record Transition : Type 0 where
  pub id : TransactionId
  pub new : Status
  pub content : Option Content
  pub moment : ℕ
  pub messages : List Message

pub record Entry : Type 0 where
  pub input : Input
  pub transitions : List Transition

-- the transitions in turn, the newest entry's first
abbrev pub transitions_of : List Entry → List Transition
transitions_of es = flat_map (λ e. e.transitions) es

-- ---- where a transaction stands

-- the newest transition that names t
abbrev pub newest : List Transition → TransactionId → Option Transition
newest xs t = find (λ x. same_id x.id t) xs

-- the new status of the last transition that names t
abbrev pub stands : List Transition → TransactionId → Option Status
stands xs t = option_map (λ x. x.new) (newest xs t)

abbrev pub is_status : Option Status → Status → Bool
is_status stood s = option_map_or (λ x. same_status x s) stood false

abbrev pub stands_at : List Transition → TransactionId → Status → Bool
stands_at xs t s = is_status (stands xs t) s

abbrev pub is_known : List Transition → TransactionId → Bool
is_known xs t = is_some (newest xs t)

-- ---- the messages of a node

-- the messages of the transitions, in order; key k is entry k
abbrev pub messages_of : List Transition → List Message
messages_of xs = flat_map (λ x. x.messages) xs

abbrev pub sends : List Entry → List Message
sends [] = []
sends (e ∷ es) = sends es ++ messages_of e.transitions

-- the input acknowledges the message with that key
abbrev pub acknowledges : ℕ → Input → Bool
acknowledges key (Ack n) = n.value == key
acknowledges key _ = false

abbrev pub is_acknowledged : List Entry → ℕ → Bool
is_acknowledged es key = list_any (λ e. acknowledges key e.input) es

-- ---- the orders at a registry

abbrev pub is_proposal_order : Input → Bool
is_proposal_order (Propose o) = true
is_proposal_order _ = false

-- how many orders to transfer units are recorded
abbrev pub proposals : List Entry → ℕ
proposals es = count_by (λ e. is_proposal_order e.input) es

abbrev pub is_request_of : TransactionId → Input → Bool
is_request_of t (Request u) = same_id u t
is_request_of t _ = false

-- an order to ask for the transaction's cancellation is recorded
abbrev pub is_requested : List Entry → TransactionId → Bool
is_requested es t = list_any (λ e. is_request_of t e.input) es

-- ---- the units that a registry holds

-- the transfer has the unit
abbrev pub has_serial : Option Content → Serial → Bool
has_serial k s = option_map_or (λ content. have_unit content.units s) k false

abbrev pub carries : Transition → Serial → Bool
carries x s = has_serial x.content s

-- the transition completes a transfer of the unit out of this registry, its initiator; or into it, its acquirer
abbrev pub gives : Code → Serial → Transition → Bool
gives c s x = same_status x.new Completed && (same_code x.id.code c && carries x s)

abbrev pub credits : Code → Serial → Transition → Bool
credits c s x = same_status x.new Completed && (not (same_code x.id.code c) && carries x s)

abbrev pub is_with : Code → Option Holder → Bool
is_with c holder = option_map_or (λ h. same_code h.registry c) holder false

-- 1 where the unit is allotted to this registry
abbrev pub at_start : Scheme → Code → Serial → ℕ
at_start scheme c s = cond (is_with c (allotted scheme s)) 1 0

-- the unit is held: with its allotment and its credits, less the times that it was given, it is there once
abbrev pub holds : Scheme → Code → List Transition → Serial → Bool
holds scheme c xs s = (at_start scheme c s + count_by (credits c s) xs) == (count_by (gives c s) xs + 1)

-- a transfer out of this registry that stands Proposed, with the unit
abbrev pub reserves : Code → List Transition → Serial → Transition → Bool
reserves c xs s x = same_code x.id.code c && (stands_at xs x.id Proposed && carries x s)

-- a transfer reserves the unit
abbrev pub reserved : Code → List Transition → Serial → Bool
reserved c xs s = list_any (reserves c xs s) xs

-- the transaction that reserves the unit
abbrev pub reserver : Code → List Transition → Serial → Option TransactionId
reserver c xs s = option_map (λ x. x.id) (find (reserves c xs s) xs)

abbrev pub spendable : Scheme → Code → List Transition → Serial → Bool
spendable scheme c xs s = holds scheme c xs s && not (reserved c xs s)

-- the account and the kind of a unit that is held here: as credited last, else as allotted
pub record Position : Type 0 where
  pub account : ℕ
  pub kind : Kind

abbrev pub credited_position : Serial → Content → Option Position
credited_position s k = option_map (λ b. record { account = k.to_account; kind = b.kind }) (find (λ b. has_unit b s) k.units)

abbrev pub position_in : Serial → Option Content → Option Position
position_in s k = option_and_then (credited_position s) k

abbrev pub position : Scheme → Code → List Transition → Serial → Option Position
position scheme c [] s = option_map (λ h. record { account = h.account; kind = h.kind }) (allotted scheme s)
position scheme c (x ∷ xs) s = cond (credits c s x) (position_in s x.content) (position scheme c xs s)

-- ---- the log's book

-- the acquirer of the transfer with the unit that completed last, else the allotted registry
abbrev pub book_owner : Scheme → List Transition → Serial → Option Code
book_owner scheme [] s = option_map (λ h. h.registry) (allotted scheme s)
book_owner scheme (x ∷ xs) s = cond (same_status x.new Completed && carries x s) (option_map (λ k. k.acquirer) x.content) (book_owner scheme xs s)

-- a transfer with the unit stands Checked or Accepted
abbrev pub busy : List Transition → Serial → Bool
busy xs s = list_any (λ x. (stands_at xs x.id Checked || stands_at xs x.id Accepted) && carries x s) xs

-- ---- the orders on accounts and eligibility

-- whether the order closes the account, or opens it
abbrev pub closes : ℕ → Input → Option Bool
closes account (CloseAccount n) = cond (n.value == account) (Some true) None
closes account (OpenAccount n) = cond (n.value == account) (Some false) None
closes account _ = None

-- the last order for the account is a close
abbrev pub is_closed : List Entry → ℕ → Bool
is_closed [] account = false
is_closed (e ∷ es) account = unwrap_or (closes account e.input) (is_closed es account)

abbrev pub allows : Code → Input → Option Bool
allows c (Eligible d may) = cond (same_code d c) (Some may) None
allows c _ = None

-- eligible as the last order for it says, else as the scheme says
abbrev pub is_eligible : Scheme → List Entry → Code → Bool
is_eligible scheme [] c = option_map_or (λ m. m.eligible) (member scheme c) false
is_eligible scheme (e ∷ es) c = unwrap_or (allows c e.input) (is_eligible scheme es c)
