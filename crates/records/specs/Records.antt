-- A journal, with the effect of each of its records on its node's messages.
use Rattle.std.specs.Prelude.{◌≡◌, ◌⊎◌, ℕ, nat_le, true, false, List, [], ◌∷◌, ◌++◌, length, Result, Ok, Err}
use Rattle.units.specs.RefusalCodes.{journal_full, out_of_memory}
use Rattle.units.specs.declared.refusal.Refusal.{Refusal}
use Rattle.wire.specs.declared.input.Input.{Input}
use Rattle.records.specs.Sending.{Sent}

-- the inputs that were recorded, and the effect of each record, the oldest first
pub record RecordsView : Type 0 where
  pub inputs : List Input
  pub sent : List Sent

-- one record more
abbrev pub with_record : RecordsView → Input → Sent → RecordsView
with_record records input did = record { inputs = records.inputs ++ input ∷ []; sent = records.sent ++ did ∷ [] }

-- there is one record more, at the place that is returned; or there is no room for it, and nothing has changed
abbrev pub Admits : ℕ → RecordsView → RecordsView → Input → Sent → Result ℕ Refusal → Type 0
Admits most old new input did (Ok place) = (nat_le most (length old.inputs) ≡ false) × (place ≡ length old.inputs) × (new ≡ with_record old input did)
Admits most old new input did (Err refusal) = (new ≡ old) × ((refusal.code ≡ out_of_memory) ⊎ ((refusal.code ≡ journal_full) × (nat_le most (length old.inputs) ≡ true)))
