-- The decision that a role has to make for an input, by the causes of refusals and the row of its table; and the result
-- for an input that changes nothing.
use Rattle.std.specs.Prelude.{cond, [], ◌∷◌, Result, Ok, Err}
use Rattle.units.specs.RefusalCodes.{no_row}
use Rattle.units.specs.declared.refusal.Refusal.{Refusal}
use Rattle.status.specs.declared.rows.Row.{Row}
use Rattle.status.specs.declared.rows.Row.TheVariants.{Move, Repeat, Late, Refused}
use Rattle.protocol.specs.declared.decision.Decision.{Decision}
use Rattle.protocol.specs.declared.decision.Decision.TheVariants.{Moves, Stays}
use Rattle.protocol.specs.declared.decision.Stale.{Stale}
use Rattle.protocol.specs.declared.decision.Stale.TheVariants as stale
use Rattle.protocol.specs.declared.node_core.Stepped.{Stepped}
use Rattle.protocol.specs.declared.node_core.Stepped.TheVariants as stepped
use Rattle.protocol.specs.Checks.{Causes}

-- by the row
abbrev pub decided : Row → Result Decision Refusal
decided (Move new) = Ok (Moves new)
decided Repeat = Ok (Stays stale.Repeat)
decided Late = Ok (Stays stale.Late)
decided Refused = Err (record { code = no_row })

-- refused with the code of the first cause that holds, otherwise the given result
abbrev pub unless : {X : Type 0} → Causes → Result X Refusal → Result X Refusal
unless [] answer = answer
unless (c ∷ cs) answer = cond c.0 (Err (record { code = c.1 })) (unless cs answer)

-- a step that records nothing
abbrev pub step_of : Stale → Stepped
step_of stale.Repeat = stepped.Repeat
step_of stale.Late = stepped.Late
