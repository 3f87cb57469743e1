-- Numbered checks and findings. Each takes the facts that it needs about holdings, accounts and owners: it applies to a
-- history as well as to the tables that a node keeps in memory.
use Rattle.std.specs.Prelude.{ℕ, ◌==◌, ◌&&◌, ◌&&◌, ◌||◌, not, nat_lt, Bool, false, List, [], ◌∷◌, length, map, filter, Option, is_some, is_none}
use Rattle.std.specs.List.{list_any}
use Rattle.std.specs.Option.{option_map_or}
use Rattle.units.specs.Code.{same_code}
use Rattle.units.specs.Limits.{last_unit, last_account, most_blocks}
use Rattle.units.specs.RefusalCodes.{wrong_block_count, block_out_of_range, blocks_overlap, account_not_open, unit_not_held, unit_reserved, no_such_acquirer, account_out_of_range}
use Rattle.units.specs.RefusalCodes.{wrong_acquirer, unit_repeated, unit_not_allotted, other_owner, other_transfer, other_kind, initiator_not_eligible, acquirer_not_eligible}
use Rattle.units.specs.RefusalCodes.{receiver_unknown, receiver_closed, unit_already_held, kind_not_taken}
use Rattle.units.specs.Unit.{same_kind}
use Rattle.units.specs.declared.block.Kind.{Kind}
use Rattle.units.specs.declared.block.RawBlock.{RawBlock}
use Rattle.units.specs.declared.block.Unit.{Unit as Serial}
use Rattle.units.specs.declared.code.Code.{Code}
use Rattle.status.specs.Content.{Content}
use Rattle.status.specs.Order.{Order}
use Rattle.scheme.specs.declared.members.Holder.{Holder}
use Rattle.scheme.specs.declared.registries.Scheme.{Scheme}
use Rattle.protocol.specs.Pieces.{Piece, pieces, repeats}
use Rattle.protocol.specs.Registries.{allotted, has_member, has_account, takes_kind}

-- causes with their codes, in their order
abbrev pub Causes : Type 0
Causes = List (Bool × ℕ)

-- the codes whose causes hold
abbrev pub codes_of : Causes → List ℕ
codes_of causes = map (λ c. c.1) (filter (λ c. c.0) causes)

-- ---- at a registry

-- the facts about a registry's accounts and units
pub record Holding : Type 0 where
  -- the last order for the account is a close
  pub is_closed : ℕ → Bool
  -- the unit is held in that account with that kind
  pub has : ℕ → Piece → Bool
  pub is_held : Serial → Bool
  pub is_reserved : Serial → Bool

-- a first number above the last, or one out of range
abbrev pub is_out_of_range : RawBlock → Bool
is_out_of_range b = nat_lt b.last b.first || ((b.first == 0) || nat_lt last_unit b.last)

-- why an order to transfer units is refused, while a number is left for it
abbrev pub propose_refusals : Scheme → Code → Holding → Order → Causes
propose_refusals scheme c known o =
    ((length o.units == 0) || nat_lt most_blocks (length o.units), wrong_block_count)
    ∷ (list_any is_out_of_range o.units, block_out_of_range)
    ∷ (repeats (pieces o.units), blocks_overlap)
    ∷ (not (has_account scheme c o.account) || known.is_closed o.account, account_not_open)
    ∷ (list_any (λ p. not (known.has o.account p)) (pieces o.units), unit_not_held)
    ∷ (list_any (λ p. known.is_reserved p.unit) (pieces o.units), unit_reserved)
    ∷ (not (has_member scheme o.acquirer) || same_code o.acquirer c, no_such_acquirer)
    ∷ ((o.to_account == 0) || nat_lt last_account o.to_account, account_out_of_range)
    ∷ []

-- the findings of the acquirer
abbrev pub acquirer_causes : Scheme → Code → Holding → Content → Causes
acquirer_causes scheme c known k =
    (not (has_account scheme c k.to_account), receiver_unknown)
    ∷ (has_account scheme c k.to_account && known.is_closed k.to_account, receiver_closed)
    ∷ (list_any (λ p. known.is_held p.unit) (pieces k.units), unit_already_held)
    ∷ (list_any (λ p. not (takes_kind scheme c p.kind)) (pieces k.units), kind_not_taken)
    ∷ []

abbrev pub acquirer_findings : Scheme → Code → Holding → Content → List ℕ
acquirer_findings scheme c known k = codes_of (acquirer_causes scheme c known k)

-- ---- at the log

-- the facts about units and registries at the log
pub record Ledger : Type 0 where
  pub owner : Serial → Option Code
  -- a transfer with the unit stands Checked or Accepted
  pub is_busy : Serial → Bool
  pub is_eligible : Code → Bool

abbrev pub is_owner : Option Code → Code → Bool
is_owner owner c = option_map_or (λ d. same_code d c) owner false

-- allotted, and with another kind
abbrev pub has_other_kind : Option Holder → Kind → Bool
has_other_kind holder kind = option_map_or (λ h. not (same_kind h.kind kind)) holder false

-- allotted, and owned by another one
abbrev pub is_of_another : Option Holder → Option Code → Code → Bool
is_of_another holder owner c = is_some holder && not (is_owner owner c)

-- the findings of the log in a proposal of that initiator
abbrev pub log_causes : Scheme → Ledger → Code → Content → Causes
log_causes scheme known initiator k =
    (not (has_member scheme k.acquirer) || same_code k.acquirer initiator, wrong_acquirer)
    ∷ (repeats (pieces k.units), unit_repeated)
    ∷ (list_any (λ p. is_none (allotted scheme p.unit)) (pieces k.units), unit_not_allotted)
    ∷ (list_any (λ p. is_of_another (allotted scheme p.unit) (known.owner p.unit) initiator) (pieces k.units), other_owner)
    ∷ (list_any (λ p. known.is_busy p.unit) (pieces k.units), other_transfer)
    ∷ (list_any (λ p. has_other_kind (allotted scheme p.unit) p.kind) (pieces k.units), other_kind)
    ∷ (not (known.is_eligible initiator), initiator_not_eligible)
    ∷ (has_member scheme k.acquirer && not (known.is_eligible k.acquirer), acquirer_not_eligible)
    ∷ []

abbrev pub log_findings : Scheme → Ledger → Code → Content → List ℕ
log_findings scheme known initiator k = codes_of (log_causes scheme known initiator k)
