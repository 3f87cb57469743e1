-- The stores of all nodes, after they were read.
use Rattle.std.specs.Prelude.{◌≡◌, ◌≢◌, ◌<◌, ℕ, false, List, Ok, Err, Some, length, slice_get}
use Rattle.units.specs.declared.code.Node.{Node}
use Rattle.protocol.specs.Input.{Input}
use Rattle.protocol.specs.Scheme.{Scheme}
use Rattle.protocol.specs.Cores.{Replays}
use Rattle.stores.specs.declared.fault.StoreFault.{StoreFault}
use Rattle.stores.specs.declared.node_store.NodeStore.{Ghosts}
use Rattle.stores.specs.declared.fault.StoreFault.TheVariants as store_fault
use Rattle.node_state.specs.Loading.{IsLoaded}
use Rattle.command_faults.specs.declared.fault.OpFault.{OpFault}
use Rattle.command_faults.specs.declared.fault.OpFault.TheVariants.{Store, NoMemory}

-- nothing was written to the store
pub record IsUnwritten {S : Type 0} (g : Ghosts S) (old new : S) : Type 0 where
  pub honest : g.is_honest new → g.is_honest old
  pub same : g.is_honest new → g.must_reopen new ≡ false → g.content new ≡ g.content old
  pub whose : g.whose new ≡ g.whose old
  pub own : g.is_honest new → g.must_reopen new ≡ false → g.is_own old → g.is_own new

abbrev pub AreUnwritten : {S : Type 0} → Ghosts S → List S → List S → Type 0
AreUnwritten {S} g olds news = (k : ℕ) (old new : S) → slice_get olds k ≡ Some old → slice_get news k ≡ Some new → IsUnwritten g old new

-- a store's ghost fields: whether it is honest; the text at each place while it runs; the contents that a crash or a
-- reopening may find; whether a fault stopped it and it must be reopened first
module _ {S : Type 0} (g : Ghosts S) where
  -- the node's store was read, its records are that journal, and the node records each after those before it
  abbrev pub IsLoadedAs : Scheme → Node → S → S → List Input → Type 0
  IsLoadedAs scheme n old new journal = Replays scheme n journal × IsLoaded g scheme n old new (Ok journal)

  -- the stores of the first nodes were read, and their records are these journals
  abbrev pub AreLoadedTo : ℕ → Scheme → List Node → List S → List S → List (List Input) → Type 0
  AreLoadedTo at scheme ns olds news journals =
      (k : ℕ) (n : Node) (old new : S) (journal : List Input) → k < at → slice_get ns k ≡ Some n → slice_get olds k ≡ Some old → slice_get news k ≡ Some new → slice_get journals k ≡ Some journal
      → IsLoadedAs scheme n old new journal

  -- and there are no other stores
  pub record AreLoaded (scheme : Scheme) (ns : List Node) (olds news : List S) (journals : List (List Input)) : Type 0 where
    pub each : AreLoadedTo (length olds) scheme ns olds news journals
    pub count : length journals ≡ length olds

  -- why the node's store was not read
  abbrev pub FailsToLoadAt : Scheme → Node → S → S → OpFault → Type 0
  FailsToLoadAt scheme n old new (Store told fault) = (told ≡ n) × (fault ≢ store_fault.NoMemory) × IsLoaded g scheme n old new (Err fault)
  FailsToLoadAt scheme n old new NoMemory = Unit {0}
  FailsToLoadAt scheme n old new _ = ⊥

  -- the first store that was not read, and those before it
  pub record FailsAt (scheme : Scheme) (ns : List Node) (olds news : List S) (told : Node) (fault : StoreFault) : Type 0 where
    pub at : ℕ
    pub old : S
    pub new : S
    pub journals : List (List Input)
    pub is : slice_get ns at ≡ Some told
    pub was : slice_get olds at ≡ Some old
    pub left : slice_get news at ≡ Some new
    pub before : AreLoadedTo at scheme ns olds news journals
    pub count : length journals ≡ at
    pub cause : FailsToLoadAt scheme told old new (Store told fault)

  abbrev pub FailsToLoad : Scheme → List Node → List S → List S → OpFault → Type 0
  FailsToLoad scheme ns olds news (Store told fault) = FailsAt scheme ns olds news told fault
  FailsToLoad scheme ns olds news NoMemory = Unit {0}
  FailsToLoad scheme ns olds news _ = ⊥
