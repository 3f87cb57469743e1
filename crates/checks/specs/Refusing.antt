-- The first cause of a refusal, and why an order to transfer units is refused.
use Rattle.std.specs.Prelude.{ℕ, ◌+◌, cond, [], ◌∷◌, ◌++◌, Option, Some, None, is_none}
use Rattle.units.specs.RefusalCodes.{transactions_used_up}
use Rattle.units.specs.declared.code.Code.{Code}
use Rattle.status.specs.Id.{id_at}
use Rattle.status.specs.Order.{Order}
use Rattle.scheme.specs.declared.registries.Scheme.{Scheme}
use Rattle.protocol.specs.Checks.{Causes, Holding, propose_refusals}

-- the code of the first cause that holds
abbrev pub first_of : Causes → Option ℕ
first_of [] = None
first_of (c ∷ cs) = cond c.0 (Some c.1) (first_of cs)

-- the causes of an order's refusal, after the given number of transaction numbers; the last one is that no number is
-- left
abbrev pub order_refusals : Scheme → Code → Holding → ℕ → Order → Causes
order_refusals scheme c known last o = propose_refusals scheme c known o ++ (is_none (id_at c (last + 1)), transactions_used_up) ∷ []
