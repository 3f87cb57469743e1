-- A store in memory.
use Rattle.std.specs.Prelude.{◌≡◌, ◌≢◌, ◌+◌, ◌-◌, ◌%◌, ◌^◌, ◌==◌, ◌++◌, ℕ, Bool, true, false, List, [], ◌∷◌, Option, Some, None}
use Rattle.units.specs.declared.code.Node.{Node}
use Rattle.wire.specs.declared.input.Input.{Input}
use Rattle.stores.specs.declared.memory_store.Kept.{Kept}
use Rattle.stores.specs.declared.memory_store.Kept.TheVariants as kept
use Rattle.stores.specs.declared.memory_store.Fuse.{Fuse}

pub record MemoryStoreView : Type 0 where
  -- the node whose records they are
  pub node : Node
  pub inputs : List Input
  -- a fault stopped it, and it must be reopened first
  pub must_reopen : Bool
  pub fuse : Option Fuse
  pub faults : ℕ

-- the fuse burns at an append of this batch
abbrev pub burns : Option Fuse → List Input → Bool
burns None batch = false
burns (Some fuse) [] = false
burns (Some fuse) (input ∷ rest) = fuse.passes == 0

-- the fuse after an append of the batch that passed
abbrev pub after_pass : Option Fuse → List Input → Option Fuse
after_pass None batch = None
after_pass (Some fuse) [] = Some fuse
after_pass (Some fuse) (input ∷ rest) = Some (record { passes = fuse.passes - 1; keeps = fuse.keeps })

-- the records that are kept of the batch at which the fuse burns
abbrev pub part_of : Kept → List Input → List Input
part_of kept.All batch = batch
part_of kept.None batch = []

-- the store after an append that passed: the batch stands after the earlier records
abbrev pub passed : List Input → MemoryStoreView → MemoryStoreView
passed batch m = record { node = m.node; inputs = m.inputs ++ batch; must_reopen = m.must_reopen; fuse = after_pass m.fuse batch; faults = m.faults }

-- the store after the append at which the fuse burned
abbrev pub burned : Kept → List Input → MemoryStoreView → MemoryStoreView
burned keeps batch m = record { node = m.node; inputs = m.inputs ++ part_of keeps batch; must_reopen = true; fuse = None; faults = (m.faults + 1) % 2 ^ 64 }

-- the store as it was, except that it must be reopened
abbrev pub stopped : MemoryStoreView → MemoryStoreView
stopped m = record { node = m.node; inputs = m.inputs; must_reopen = true; fuse = m.fuse; faults = m.faults }

-- the store as it was, except that it need not be reopened
abbrev pub reopened : MemoryStoreView → MemoryStoreView
reopened m = record { node = m.node; inputs = m.inputs; must_reopen = false; fuse = m.fuse; faults = m.faults }

-- the fuse was to burn at the batch, and it has burned
abbrev pub HasBurned : List Input → MemoryStoreView → MemoryStoreView → Type 0
HasBurned batch old new = (keeps : Kept) × (old.fuse ≡ Some (record { passes = 0; keeps = keeps })) × (batch ≢ []) × (new ≡ burned keeps batch old)
