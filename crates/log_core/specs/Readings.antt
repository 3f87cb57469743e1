-- The contents that the log's tables have to have, by its history: where transactions stand, who owns a unit, which
-- transfer has it, and which registries may take part.
use Rattle.std.specs.Prelude.{ℕ, ◌==◌, ◌&&◌, ◌||◌, Bool, false, List, [], ◌∷◌, find, Option, None, option_map}
use Rattle.std.specs.Option.{option_map_or, option_or}
use Rattle.units.specs.declared.block.Unit.{Unit as Serial}
use Rattle.units.specs.declared.code.Code.{Code}
use Rattle.status.specs.Content.{Content}
use Rattle.status.specs.Status.{same_status}
use Rattle.status.specs.declared.id.TransactionId.{TransactionId}
use Rattle.status.specs.declared.status.Status.{Status}
use Rattle.status.specs.declared.status.Status.TheVariants.{Checked, Accepted}
use Rattle.scheme.specs.declared.members.Holder.{Holder}
use Rattle.scheme.specs.declared.registries.Scheme.{Scheme}
use Rattle.checks.specs.declared.register.BookEntry.{BookEntry}
use Rattle.checks.specs.declared.register.UnderWay.{UnderWay}
use Rattle.protocol.specs.History.{Transition, Entry, newest, stands_at, carries, book_owner, allows}
use Rattle.log_core.specs.declared.transfer.LoggedTransfer.{LoggedTransfer}

-- ---- a unit

-- who owns the unit
abbrev pub owner : Scheme → List Transition → Serial → Option BookEntry
owner scheme xs s = option_map (λ c. record { registry = c }) (book_owner scheme xs s)

-- ---- what the code follows; no public contract cites what stands below

-- its status, its content where that is known, and since when it has that status, in seconds
pub record TransferState : Type 0 where
  pub status : Status
  pub content : Option Content
  pub since : ℕ

abbrev pub of_transition : Transition → TransferState
of_transition x = record { status = x.new; content = x.content; since = x.moment }

abbrev pub of_transfer : LoggedTransfer → TransferState
of_transfer x = record { status = x.status; content = x.content; since = x.since.seconds }

-- it stands Checked since that second
abbrev pub is_checked_since : List Transition → ℕ → TransactionId → Bool
is_checked_since xs since t = option_map_or (λ x. same_status x.new Checked && (x.moment == since)) (newest xs t) false

-- the transition's transfer has the unit, and stands Checked or Accepted
abbrev pub is_under_way_with : List Transition → Serial → Transition → Bool
is_under_way_with xs s x = (stands_at xs x.id Checked || stands_at xs x.id Accepted) && carries x s

-- the transfer that the unit is in
abbrev pub under_way : List Transition → Serial → Option UnderWay
under_way xs s = option_map (λ x. record { id = x.id }) (find (is_under_way_with xs s) xs)

-- the registry that holds it at the start
abbrev pub owner_of : Holder → BookEntry
owner_of h = record { registry = h.registry }

-- the last order on whether it may take part in transfers
abbrev pub last_order : List Entry → Code → Option Bool
last_order [] c = None
last_order (e ∷ es) c = option_or (allows c e.input) (last_order es c)
