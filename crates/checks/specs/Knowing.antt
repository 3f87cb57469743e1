-- The conditions under which a registry's holdings, and the log's register, give the facts that their checks need.
use Rattle.std.specs.Prelude.{◌≡◌, ℕ, ◌==◌, ◌&&◌, cond, Bool, false, Some, None, is_some, option_map, unwrap_or}
use Rattle.std.specs.BTreeMap as tree
use Rattle.std.specs.FinMap as map
use Rattle.std.specs.Option.{option_map_or}
use Rattle.units.specs.Keys.{code_cmp}
use Rattle.units.specs.Unit.{same_kind}
use Rattle.units.specs.declared.block.Unit.{Unit as Serial}
use Rattle.units.specs.declared.code.Code.{Code}
use Rattle.accounts.specs.Holdings.{HoldingsView}
use Rattle.accounts.specs.declared.unit_holding.AccountStatus.TheVariants.{Open, Closed}
use Rattle.scheme.specs.declared.registries.Scheme.{Scheme}
use Rattle.protocol.specs.Checks.{Holding, Ledger}
use Rattle.protocol.specs.Pieces.{Piece}
use Rattle.protocol.specs.Registries.{allotted, has_account, member}
use Rattle.checks.specs.declared.register.Register.{Register}

-- the accounts are the registry's, each closed or open, and each unit's holding says how it is held
pub record Knows (scheme : Scheme) (c : Code) (held : HoldingsView) (known : Holding) : Type 0 where
  pub accounts : (n : ℕ) → map.get held.accounts n ≡ cond (has_account scheme c n) (Some (cond (known.is_closed n) Closed Open)) None
  pub has : (n : ℕ) (p : Piece) → known.has n p ≡ option_map_or (λ unit_holding. (unit_holding.account == n) && same_kind unit_holding.kind p.kind) (map.get held.unit_holdings p.unit) false
  pub is_held : (s : Serial) → known.is_held s ≡ is_some (map.get held.unit_holdings s)
  pub is_reserved : (s : Serial) → known.is_reserved s ≡ option_map_or (λ unit_holding. is_some unit_holding.reserving) (map.get held.unit_holdings s) false

-- ---- at the log

-- the registry may take part in transfers at the start
abbrev pub starts_eligible : Scheme → Code → Bool
starts_eligible scheme c = option_map_or (λ m. m.eligible) (member scheme c) false

-- the allotments are the scheme's, the book has the owner of each allotted unit and of no other, a unit is under way in
-- a transfer, and a registry is eligible by the last order for it, or else as at the start
pub record Registers (scheme : Scheme) (register : Register) (known : Ledger) : Type 0 where
  pub allotments : (s : Serial) → map.get register.allotments s ≡ allotted scheme s
  pub owner : (s : Serial) → known.owner s ≡ option_map (λ o. o.registry) (map.get register.book s)
  pub owned : (s : Serial) → is_some (known.owner s) ≡ is_some (allotted scheme s)
  pub is_busy : (s : Serial) → known.is_busy s ≡ is_some (map.get register.under_way s)
  pub is_eligible : (c : Code) → known.is_eligible c ≡ unwrap_or (tree.get code_cmp register.orders c) (starts_eligible scheme c)
