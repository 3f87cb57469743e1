-- A node that stands alone, by its words.
use Rattle.std.specs.Prelude.{◌≡◌, ◌⊎◌, ℕ, List, ◌++◌, Option, Some, None, Ok, String, codes, string_bytes}
use Rattle.std.specs.Io.KnownBytes.{Appends, Keeps}
use Rattle.std.specs.declared.alloc.Global.{Global}
use Rattle.units.specs.declared.code.Node.{Node}
use Rattle.protocol.specs.Input.{Input}
use Rattle.protocol.specs.Moment.{Moment}
use Rattle.protocol.specs.Scheme.{Scheme}
use Rattle.stores.specs.Records.{written}
use Rattle.stores.specs.declared.node_store.NodeStore.{Ghosts as StoreGhosts}
use Rattle.desk.specs.Keeping.{IsKept, StoredView}
use Rattle.node_state.specs.Loading.{IsLoaded}
use Rattle.node_state.specs.Views.{StateView, committed_records, opened_with}
use Rattle.command_faults.specs.declared.fault.OpFault.{OpFault}
use Rattle.command_line.specs.declared.actions.NodeWords.{NodeWords}
use Rattle.tags.specs.Keys.{NodeKey}
use Rattle.tags.specs.KeysText.{AreKeys}
use Rattle.node_setup.specs.Setups.{FailsToSetUp, IsNodeWord}
use Rattle.node_setup.specs.Sums.{sum_text}
use Rattle.one_node.specs.Lives.{IsLife}
use Rattle.commands.specs.Opened.{HasScheme, IsStoreIn, LacksScheme}
use Rattle.commands.specs.declared.archive.Archive.{Ghosts}

-- the first line of a node's output: the sum of its scheme
abbrev pub sum_line : List ℕ → List ℕ
sum_line sum = codes "scheme " ++ sum ++ codes "\n"

-- lines were read and their results written, and the journal went on from these records by the orders of the lines and
-- of the clock, and by inputs that are no orders. A clause of `run_alone` says where those come from
abbrev pub Lives : (Holds : List ℕ → List Input → Type 0) → Scheme → Node → List Input → StateView → (r s v w : Option (List ℕ)) → Type 0
Lives Holds scheme n journal ended r s v w = IsLife scheme n (λ (m : Moment). Unit {0}) (λ (i : Input). Unit {0}) Holds journal (committed_records ended) r s v w

-- an archive
module _ {A F S : Type 0} (g : Ghosts A F S) (archive : A) where
  -- the file at the path, which its owner alone may read, writes these keys
  abbrev pub HasKeys : List ℕ → List NodeKey → Type 0
  HasKeys path keys = (text : List ℕ) × g.is_private archive path text × AreKeys text keys

  -- the words may name such a file
  abbrev pub AreKeysOf : Option (String Global) → Option (List NodeKey) → Type 0
  AreKeysOf None keys = keys ≡ None
  AreKeysOf (Some path) None = ⊥
  AreKeysOf (Some path) (Some keys) = HasKeys (string_bytes path) keys

  -- and what is known of its stores
  module _ (of : StoreGhosts S) where
    -- the store has just these records, and was closed
    pub record HasFilled (n : Node) (inputs : List Input) : Type 0 where
      pub store : S
      pub whose : of.whose store ≡ n
      pub has : of.is_honest store → of.content store ≡ written inputs
      pub closed : g.closes archive store

    -- a store of the node was made at the path, and got these records
    pub record IsExported (path : List ℕ) (n : Node) (inputs : List Input) : Type 0 where
      pub store : S
      pub made : g.makes archive path n store
      pub filled : HasFilled n inputs

    -- the node's store in the folder was opened and read, and the sum is beside it
    pub record LoadsNode (folder : List ℕ) (scheme : Scheme) (n : Node) (sum : List ℕ) (stored : StoredView S) : Type 0 where
      pub store : S
      pub opened : IsStoreIn g archive of folder n store
      pub marked : g.is_marked archive folder n sum
      pub loaded : IsLoaded of scheme n store stored.store (Ok stored.state.journal)
      pub state : stored.state ≡ opened_with scheme n stored.state.journal

    -- the node of these words was run from its store in the folder, after the sum of the scheme was written, and its
    -- store was closed
    pub record StandsIn (words : NodeWords) (scheme : Scheme) (n : Node) (r s before after : Option (List ℕ)) : Type 0 where
      pub keys : Option (List NodeKey)
      pub are_keys : AreKeysOf words.keys keys
      pub in_folder : g.is_folder archive (string_bytes words.folder)
      pub stored : StoredView S
      pub loads : LoadsNode (string_bytes words.folder) scheme n (sum_text scheme) stored
      pub middle : Option (List ℕ)
      pub told : Appends before middle (sum_line (sum_text scheme))
      pub ended : StoredView S
      pub lives : Lives (λ path inputs. IsExported path n inputs) scheme n stored.state.journal ended.state r s middle after
      pub keeps : IsKept of ended
      pub closed : g.closes archive ended.store

-- and the bytes that a file has left to be read
module _ {A F S : Type 0} (g : Ghosts A F S) (archive : A) (remaining : F → Option (List ℕ)) where
  -- the bytes that standard input has left, before and after, and the output
  pub record StandsAlone (of : StoreGhosts S) (words : NodeWords) (r s before after : Option (List ℕ)) : Type 0 where
    pub scheme : Scheme
    pub has_scheme : HasScheme g archive remaining (string_bytes words.scheme) scheme
    pub node : Node
    pub named : IsNodeWord scheme words node
    pub stands : StandsIn g archive of words scheme node r s before after

  -- the scheme can't be read; or it was, and the words don't set up a node. Nothing is said here of why a node failed
  -- that was set up
  abbrev pub FailsToStand : NodeWords → OpFault → (before after : Option (List ℕ)) → Type 0
  FailsToStand words fault v w =
      (LacksScheme g archive remaining (string_bytes words.scheme) fault × Keeps v w)
      ⊎ ((scheme : Scheme) × HasScheme g archive remaining (string_bytes words.scheme) scheme
      × ((FailsToSetUp scheme words fault × Keeps v w) ⊎ ((node : Node) × IsNodeWord scheme words node)))
