-- A state and the store that has its committed records, and what is known of the two at a desk.
use Rattle.std.specs.Prelude.{◌≡◌, ◌⊎◌, ◌<◌, ◌≤◌, ℕ, true, false, List, [], ◌∷◌, length, take, drop, Option, Some, None, is_some, Result, Ok, Err, IfOk}
use Rattle.units.specs.declared.code.Node.{Node}
use Rattle.wire.specs.declared.input.Input.{Input}
use Rattle.wire.specs.Records.{IsRecordText, record_text}
use Rattle.wire.specs.declared.record_format.RecordFormat.TheVariants.{Two}
use Rattle.stores.specs.Records.{Places, written}
use Rattle.scheme.specs.declared.registries.Scheme.{Scheme}
use Rattle.stores.specs.Calls.{Appends}
use Rattle.stores.specs.Faults.{count_after}
use Rattle.stores.specs.declared.fault.StoreFault.{StoreFault}
use Rattle.stores.specs.declared.node_store.NodeStore.{Ghosts}
use Rattle.wire.specs.declared.message.Message.{Message}
use Rattle.protocol.specs.History.{sends}
use Rattle.node_state.specs.Calls.{batch_of, committed_by, done}
use Rattle.desk.specs.Desks.{HasToSend, IsConfirmation}
use Rattle.node_state.specs.Views.{StateView, committed_past, committed_records}
use Rattle.desk.specs.declared.confirmation.Confirmation.{Confirmation}

-- ---- the texts at the places of a store

-- each place has a text: one that is read as the record at that place, as a loaded record has, or the text that is
-- written for it; and there are no further places
abbrev pub AreTexts : Places → List Input → Type 0
AreTexts [] [] = Unit {0}
AreTexts (Some text ∷ places) (input ∷ inputs) = (IsRecordText Two text input ⊎ (text ≡ record_text input)) × AreTexts places inputs
AreTexts _ _ = ⊥

-- the first `count` records of the journal: those of the opening as they were loaded or written before, then the texts
-- of those that were recorded since
pub record HaveFirst (opening : ℕ) (journal : List Input) (count : ℕ) (places : Places) : Type 0 where
  pub before : AreTexts (take opening places) (take opening journal)
  pub since : drop opening places ≡ written (drop opening (take count journal))

-- the committed records, and no others
abbrev pub HaveCommitted : StateView → Places → Type 0
HaveCommitted held places = HaveFirst held.opening held.journal held.committed places

-- the committed records, and maybe some of the tail
pub record HaveSome (held : StateView) (places : Places) : Type 0 where
  pub count : ℕ
  pub least : held.committed ≤ count
  pub most : count ≤ length held.journal
  pub first : HaveFirst held.opening held.journal count places

-- ---- a state and its store

pub record StoredView (S : Type 0) : Type 0 where
  pub state : StateView
  pub store : S

module _ {S : Type 0} (g : Ghosts S) where
  -- the store belongs to the state's node, and has exactly the committed records while it runs. After a crash it may
  -- have these and also some of the tail. While the state runs, the store runs too
  pub record IsKept (kept : StoredView S) : Type 0 where
    pub opening : kept.state.opening ≤ kept.state.committed
    pub committed : kept.state.committed ≤ length kept.state.journal
    pub whose : g.whose kept.store ≡ kept.state.node
    pub own : g.is_honest kept.store → g.must_reopen kept.store ≡ false → g.is_own kept.store
    pub runs : kept.state.runs ≡ true → g.must_reopen kept.store ≡ false
    pub has : g.is_honest kept.store → g.must_reopen kept.store ≡ false → HaveCommitted kept.state (g.content kept.store)
    pub found : g.is_honest kept.store → (next : Places) → g.may_hold kept.store next → HaveSome kept.state next

  -- how a commit of at most `max` records changes a state and its store, and its result
  pub record Commits (old new : StoredView S) (max : ℕ) (result : Result ℕ StoreFault) : Type 0 where
    pub state : new.state ≡ committed_by old.state result
    pub count : IfOk result (λ count. count ≡ length (batch_of old.state max))
    pub none : length (batch_of old.state max) ≡ 0 → (result ≡ Ok 0) × (new ≡ old)
    pub some : 0 < length (batch_of old.state max) → Appends g.is_honest g.content g.may_hold g.must_reopen old.store new.store (batch_of old.state max) (done result)

-- ---- at a desk

-- a store's count of failed calls of the device, after commits that ended with that fault, or with none
abbrev pub count_with : ℕ → Option StoreFault → ℕ
count_with n None = n
count_with n (Some fault) = count_after n fault

-- the state has a scheme, a node and the records of its opening, and these are as is known of the desks of its run; and
-- the fault is the one that stopped the store, if one did
module _ {S : Type 0} (g : Ghosts S) (opened : Scheme → Node → List Input → ℕ → Type 0) where
  pub record IsAtDesk (kept : StoredView S) (fault : Option StoreFault) : Type 0 where
    pub before : ℕ
    pub began : opened kept.state.scheme kept.state.node (take kept.state.opening kept.state.journal) before
    pub counted : g.faults kept.store ≡ count_with before fault
    pub stopped : g.must_reopen kept.store ≡ is_some fault
    pub running : kept.state.runs ≡ true → fault ≡ None

  -- a state that runs, with its store, is of this run
  pub record MayOpen (kept : StoredView S) : Type 0 where
    pub begins : opened kept.state.scheme kept.state.node (take kept.state.opening kept.state.journal) (g.faults kept.store)
    pub runs : kept.state.runs ≡ true

  -- No clause can name the state and store under a desk's lock, so each says that there are some state and store of
  -- this run which committed these records, had these as its committed records or had this message to send.
  pub record IsOfRun (kept : StoredView S) : Type 0 where
    pub keeps : IsKept g kept
    pub fault : Option StoreFault
    pub at : IsAtDesk kept fault

  -- a commit of at most `max` records
  abbrev pub IsCommit : ℕ → Result ℕ StoreFault → Type 0
  IsCommit max result = (old : StoredView S) × (new : StoredView S) × IsOfRun old × IsOfRun new × Commits g old new max result

  -- a message to send, which a committed record in the store sends
  abbrev pub IsToSend : Node → ℕ → Option (ℕ × Message) → Type 0
  IsToSend peer from found = (kept : StoredView S) × IsOfRun kept × HasToSend kept.state peer from found

  -- the committed records send that many messages
  abbrev pub HaveSent : ℕ → Type 0
  HaveSent count = (kept : StoredView S) × IsOfRun kept × (count ≡ length (sends (committed_past kept.state)))

  -- these are the committed records from that place on, or the first ones of these, at most that many
  abbrev pub AreCommitted : ℕ → ℕ → List Input → Type 0
  AreCommitted from most records = (kept : StoredView S) × IsOfRun kept × (records ≡ take most (drop from (committed_records kept.state)))

  -- that many records are committed, and a store has them
  abbrev pub AreStored : ℕ → Type 0
  AreStored count = (kept : StoredView S) × IsOfRun kept × (count ≤ kept.state.committed)

-- ---- what the code follows; no public contract cites what stands below

-- the fault that ended the commits, if one did
abbrev pub fault_after : Option StoreFault → Result ℕ StoreFault → Option StoreFault
fault_after fault (Ok count) = fault
fault_after fault (Err told) = Some told

-- the first `count` records are committed, or they aren't, at some state of the run
abbrev pub IsConfirmationOfRun : {S : Type 0} → Ghosts S → (Scheme → Node → List Input → ℕ → Type 0) → ℕ → Confirmation → Type 0
IsConfirmationOfRun {S} g opened count confirmation = (kept : StoredView S) × IsOfRun g opened kept × IsConfirmation kept.state count confirmation
