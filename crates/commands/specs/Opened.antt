-- The files, folders and stores that a command's words name, opened and read.
use Rattle.std.specs.Prelude.{◌≡◌, ◌⊎◌, ℕ, false, List, [], ◌∷◌, Option, Some, slice_get, take}
use Rattle.units.specs.declared.code.Node.{Node}
use Rattle.protocol.specs.Input.{Input}
use Rattle.protocol.specs.Scheme.{Scheme}
use Rattle.protocol.specs.Registries.{nodes}
use Rattle.stores.specs.declared.node_store.NodeStore.{Ghosts as StoreGhosts}
use Rattle.command_faults.specs.SchemeFile.{FailsToRead, ReadsScheme}
use Rattle.command_faults.specs.declared.fault.OpFault.{OpFault}
use Rattle.command_faults.specs.declared.fault.OpFault.TheVariants.{Read, NoMemory}
use Rattle.loading.specs.Stores.{AreLoaded, FailsToLoad}
use Rattle.input_lines.specs.Scripts.{FailsToReadScript, ReadsScript}
use Rattle.input_lines.specs.declared.script_line.ScriptLine.{ScriptLine}
use Rattle.commands.specs.Unopened.{IsUnopened, of_unopened}
use Rattle.commands.specs.declared.archive.Archive.{Ghosts}
use Rattle.commands.specs.declared.archive.Unopened.{Unopened}

-- ---- files and folders

-- an archive, and the bytes that a file has left to be read
module _ {A F S : Type 0} (g : Ghosts A F S) (archive : A) (remaining : F → Option (List ℕ)) where
  -- the file at the path was opened and read, with this result
  pub record IsRead (Comes : (before after : Option (List ℕ)) → Type 0) (path : List ℕ) : Type 0 where
    pub file : F
    pub left : F
    pub opened : g.opens archive path file
    pub comes : Comes (remaining file) (remaining left)

  -- the file can't be opened, or it was opened and read, and failed with this fault
  abbrev pub IsNotRead : (OpFault → (before after : Option (List ℕ)) → Type 0) → List ℕ → OpFault → Type 0
  IsNotRead Fails path fault = ((fault ≡ Read) × g.lacks archive path) ⊎ IsRead (Fails fault) path

  abbrev pub HasScheme : List ℕ → Scheme → Type 0
  HasScheme path scheme = IsRead (λ v w. ReadsScheme v w scheme) path

  abbrev pub LacksScheme : List ℕ → OpFault → Type 0
  LacksScheme path fault = IsNotRead FailsToRead path fault

  abbrev pub HasScript : List ℕ → List ScriptLine → Type 0
  HasScript path lines = IsRead (λ v w. ReadsScript v w lines) path

  abbrev pub LacksScript : List ℕ → OpFault → Type 0
  LacksScript path fault = IsNotRead FailsToReadScript path fault

-- there is no folder at the path
abbrev pub LacksFolder : {A F S : Type 0} (g : Ghosts A F S) → A → List ℕ → OpFault → Type 0
LacksFolder g archive path fault = (fault ≡ Read) × g.lacks archive path

-- ---- stores

-- the node's store in the folder isn't there, or can't be opened
pub record IsShut {A F S : Type 0} (g : Ghosts A F S) (archive : A) (folder : List ℕ) (n : Node) (fault : OpFault) : Type 0 where
  pub cause : Unopened
  pub fails : IsUnopened (g.misses archive) (g.fails archive) folder n cause
  pub is : fault ≡ of_unopened n cause

-- an archive, and what is known of its stores
module _ {A F S : Type 0} (g : Ghosts A F S) (archive : A) (of : StoreGhosts S) where
  -- the store is the node's in the folder
  pub record IsStoreIn (folder : List ℕ) (n : Node) (store : S) : Type 0 where
    pub keeps : g.keeps archive folder n store
    pub whose : of.whose store ≡ n
    pub own : of.is_honest store → of.must_reopen store ≡ false → of.is_own store

  -- the stores are those of these nodes in the folder, in their order
  abbrev pub AreStoresIn : List ℕ → List Node → List S → Type 0
  AreStoresIn folder [] [] = Unit {0}
  AreStoresIn folder (n ∷ ns) (s ∷ ss) = IsStoreIn folder n s × AreStoresIn folder ns ss
  AreStoresIn folder _ _ = ⊥

  -- the first stores were opened, and the next one can't be
  pub record AreFirstIn (folder : List ℕ) (scheme : Scheme) (stores : List S) (fault : OpFault) : Type 0 where
    pub at : ℕ
    pub n : Node
    pub firsts : AreStoresIn folder (take at (nodes scheme)) stores
    pub next : slice_get (nodes scheme) at ≡ Some n
    pub shut : IsShut g archive folder n fault

  -- they were read, and have no fault
  pub record IsFirstShut (folder : List ℕ) (scheme : Scheme) (fault : OpFault) : Type 0 where
    pub stores : List S
    pub left : List S
    pub journals : List (List Input)
    pub firsts : AreFirstIn folder scheme stores fault
    pub read : AreLoaded of scheme (nodes scheme) stores left journals

  -- one of them has that fault
  pub record IsFaultBefore (folder : List ℕ) (scheme : Scheme) (fault : OpFault) : Type 0 where
    pub stores : List S
    pub left : List S
    pub later : OpFault
    pub firsts : AreFirstIn folder scheme stores later
    pub fails : FailsToLoad of scheme (nodes scheme) stores left fault

  -- why the stores of a scheme's nodes aren't all open: the first that can't be opened, or a fault in the records of
  -- those before it
  abbrev pub FailsToOpen : List ℕ → Scheme → OpFault → Type 0
  FailsToOpen folder scheme fault = (fault ≡ NoMemory) ⊎ (IsFirstShut folder scheme fault ⊎ IsFaultBefore folder scheme fault)
