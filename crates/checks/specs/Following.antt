-- The causes of an order's refusal, and of findings, in parts and in their order, as the code checks them. No public
-- contract cites it.
use Rattle.std.specs.Prelude.{ℕ, ◌==◌, ◌||◌, not, nat_lt, Bool, false, List, [], ◌∷◌, length, Option, is_some, is_none}
use Rattle.std.specs.FinMap as map
use Rattle.std.specs.List.{list_any}
use Rattle.std.specs.Option.{option_map_or}
use Rattle.units.specs.Code.{same_code}
use Rattle.units.specs.Limits.{last_account, most_blocks}
use Rattle.units.specs.RefusalCodes.{wrong_block_count, block_out_of_range, blocks_overlap, account_not_open, unit_not_held, unit_reserved, no_such_acquirer, account_out_of_range}
use Rattle.units.specs.RefusalCodes.{unit_repeated, unit_not_allotted, other_owner, other_transfer, other_kind}
use Rattle.units.specs.declared.block.RawBlock.{RawBlock}
use Rattle.units.specs.declared.code.Code.{Code}
use Rattle.status.specs.Order.{Order}
use Rattle.scheme.specs.declared.registries.Scheme.{Scheme}
use Rattle.protocol.specs.Checks.{Causes, Holding, is_out_of_range, has_other_kind}
use Rattle.protocol.specs.Pieces.{pieces, repeats}
use Rattle.protocol.specs.Registries.{has_member, has_account}
use Rattle.checks.specs.declared.register.BookEntry.{BookEntry}
use Rattle.checks.specs.declared.register.Register.{Register}

-- by its blocks alone
abbrev pub block_refusals : List RawBlock → Causes
block_refusals blocks =
    ((length blocks == 0) || nat_lt most_blocks (length blocks), wrong_block_count)
    ∷ (list_any is_out_of_range blocks, block_out_of_range)
    ∷ (repeats (pieces blocks), blocks_overlap)
    ∷ []

-- by the registry's holdings
abbrev pub holding_refusals : Scheme → Code → Holding → ℕ → List RawBlock → Causes
holding_refusals scheme c known account blocks =
    (not (has_account scheme c account) || known.is_closed account, account_not_open)
    ∷ (list_any (λ p. not (known.has account p)) (pieces blocks), unit_not_held)
    ∷ (list_any (λ p. known.is_reserved p.unit) (pieces blocks), unit_reserved)
    ∷ []

-- by where the units are to go
abbrev pub receiver_refusals : Scheme → Code → Order → Causes
receiver_refusals scheme c o =
    (not (has_member scheme o.acquirer) || same_code o.acquirer c, no_such_acquirer)
    ∷ ((o.to_account == 0) || nat_lt last_account o.to_account, account_out_of_range)
    ∷ []

-- ---- at the log

-- owned by another registry
abbrev pub is_of_other : Code → Option BookEntry → Bool
is_of_other c owner = option_map_or (λ o. not (same_code o.registry c)) owner false

-- the findings in the units
abbrev pub unit_causes : Register → Code → List RawBlock → Causes
unit_causes register initiator units =
    (repeats (pieces units), unit_repeated)
    ∷ (list_any (λ p. is_none (map.get register.allotments p.unit)) (pieces units), unit_not_allotted)
    ∷ (list_any (λ p. is_of_other initiator (map.get register.book p.unit)) (pieces units), other_owner)
    ∷ (list_any (λ p. is_some (map.get register.under_way p.unit)) (pieces units), other_transfer)
    ∷ (list_any (λ p. has_other_kind (map.get register.allotments p.unit) p.kind) (pieces units), other_kind)
    ∷ []
