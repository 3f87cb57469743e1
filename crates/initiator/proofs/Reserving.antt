-- Blocks that may be reserved aren't refused.
use Rattle.std.proofs.Common.{◌≡◌, IsSome, subst, inl, inr}
use Rattle.accounts.specs.Holdings.{HoldingsView}
use Rattle.accounts.specs.Refusals.{IsReserveRefusal, MayReserve}
use Rattle.units.specs.declared.block.Block.{Block}
use Rattle.std.specs.Prelude.{ℕ, List, ◌⊎◌}
use Rattle.units.specs.RefusalCodes.{out_of_memory}

pub not_refused : (held : HoldingsView) (account : ℕ) (blocks : List Block) (code : ℕ) → MayReserve held account blocks → IsReserveRefusal held account blocks code → ⊥
not_refused held account blocks code may (inl r) = r.1 may.open_account
not_refused held account blocks code may (inr (inl r)) = r.2.lacks (may.held_so r.2.block r.2.unit r.2.of)
not_refused held account blocks code may (inr (inr r)) = let h = subst IsSome (may.free r.3.unit r.3.unit_holding r.3.of r.3.is) r.3.reserved in cc (h)

-- only memory is lacking
pub only_memory : (held : HoldingsView) (account : ℕ) (blocks : List Block) (code : ℕ) → MayReserve held account blocks
    → ((code ≡ out_of_memory) × MayReserve held account blocks) ⊎ IsReserveRefusal held account blocks code → code ≡ out_of_memory
only_memory held account blocks code may (inl r) = r.0
only_memory held account blocks code may (inr r) = absurd (not_refused held account blocks code may r)
