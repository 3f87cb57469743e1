-- What each call of a state does.
use Rattle.std.specs.Prelude.{◌≡◌, ◌+◌, ℕ, true, false, List, [], take, if◌then◌else◌, Result, Ok, Err}
use Rattle.units.specs.declared.refusal.Refusal.{Refusal}
use Rattle.wire.specs.declared.input.Input.{Input}
use Rattle.protocol.specs.Cores.{IsExpectedOrNoMemory, after, answer}
use Rattle.protocol.specs.declared.node_core.Stepped.{Stepped}
use Rattle.stores.specs.declared.fault.StoreFault.{StoreFault}
use Rattle.node_state.specs.declared.notes.Told.{Told}
use Rattle.node_state.specs.Expected.{stopped, told_of}
use Rattle.node_state.specs.Views.{StateView, tail}

-- the state takes an input: it is refused if the state has stopped; otherwise the journal becomes the one that the
-- core's result gives
abbrev pub Takes : StateView → Input → Result Stepped Refusal → StateView → Type 0
Takes old input result new =
    (old.runs ≡ false → (result ≡ Err stopped) × (new ≡ old))
    × (old.runs ≡ true → IsExpectedOrNoMemory result (answer old.scheme old.node old.journal input) × (new ≡ record old { journal = after old.journal input result }))

-- the same, with the core's result as it is noted
abbrev pub Tells : StateView → Input → Told → StateView → Type 0
Tells old input told new = (result : Result Stepped Refusal) × (told ≡ told_of result) × Takes old input result new

-- the records that a commit of at most that many appends: none if the state has stopped
abbrev pub batch_of : StateView → ℕ → List Input
batch_of held max = if held.runs then take max (tail held) else []

-- the result of a store's call, without the count
abbrev pub done : Result ℕ StoreFault → Result Unit StoreFault
done (Ok count) = Ok tt
done (Err fault) = Err fault

-- the state after a commit: that many more records are committed, or it has stopped
abbrev pub committed_by : StateView → Result ℕ StoreFault → StateView
committed_by held (Ok count) = record held { committed = held.committed + count }
committed_by held (Err fault) = record held { runs = false }
