-- Blocks whose units may be reserved, and their unit holdings before and after.
use Rattle.std.proofs.Common.{◌≡◌, ℕ, List, Bool, cond, Option, Some, None, is_some, refl, sym, ap, ◌∙◌}
use Rattle.std.specs.FinMap.{get}
use Rattle.std.specs.Option.{option_map}
use Rattle.units.specs.declared.block.Block.{Block}
use Rattle.units.specs.declared.block.Kind.{Kind}
use Rattle.units.specs.declared.block.Unit.{Unit as Serial}
use Rattle.status.specs.declared.id.TransactionId.{TransactionId}
use Rattle.accounts.specs.Holdings.{HoldingsView, kind_in, reserved}
use Rattle.accounts.specs.Refusals.{IsUnitOf, MayReserve}
use Rattle.accounts.specs.Tables.{unit_holding_in}
use Rattle.accounts.specs.declared.unit_holding.UnitHolding.{UnitHolding}
use Rattle.accounts.proofs.Blocks.{covers_from}
use Rattle.accounts.proofs.Parts.{kind_found}
use Rattle.accounts.proofs.OneUnit.{put}

-- the units of blocks that may be reserved are free, also where other blocks have them
pub free_unit_holdings : (held : HoldingsView) (account : ℕ) (blocks parts : List Block) → MayReserve held account blocks → ((p : Block) (s : Serial) → IsUnitOf parts p s → (b : Block) × IsUnitOf blocks b s × (b.raw.kind ≡ p.raw.kind))
    → (s : Serial) (k : Kind) → kind_in parts s ≡ Some k → get held.unit_holdings s ≡ Some (unit_holding_in account None k)
free_unit_holdings held account blocks parts may kinds s k e =
    let part = kind_found parts s k e in
    let block = kinds part.0 s part.1 in
    let h = may.held_so block.0 s block.1 in
    let free = may.free s h.unit_holding (covers_from blocks block.0 s block.1.among block.1.has) h.is in
    let kind : h.unit_holding.kind ≡ k = h.kind_is ∙ block.2 ∙ part.2 in
    let same : h.unit_holding ≡ unit_holding_in account None k = λ i. record { account = h.account_is i; kind = kind i; reserving = free i } in
    h.is ∙ ap Some same

-- a free unit holding as it is reserved
pub reserved_unit_holding : (account : ℕ) (id : TransactionId) (t : Bool) (k : Option Kind) (o : Option UnitHolding) → is_some k ≡ t → ((kind : Kind) → k ≡ Some kind → o ≡ Some (unit_holding_in account None kind)) → put account (Some id) k o ≡ cond t (option_map (reserved id) o) o
reserved_unit_holding account id t None o e free = ap (λ b. cond b (option_map (reserved id) o) o) e
reserved_unit_holding account id t (Some kind) o e free = sym (ap (option_map (reserved id)) (free kind refl)) ∙ ap (λ b. cond b (option_map (reserved id) o) o) e
