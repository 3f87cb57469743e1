-- The results of loading a store into a core.
use Rattle.std.specs.Prelude.{◌≡◌, ◌⊎◌, ◌+◌, ◌*◌, ◌<◌, ◌≤◌, ℕ, false, List, length, take, Result, Ok, Err, IfOk, IfErr, OnOk, IsTrue}
use Rattle.units.specs.declared.code.Node.{Node}
use Rattle.wire.specs.declared.input.Input.{Input}
use Rattle.scheme.specs.declared.registries.Scheme.{Scheme}
use Rattle.protocol.specs.Cores.{IsFirstNotRecorded, Replays}
use Rattle.stores.specs.Faults.{is_device_fault, IsReadFault}
use Rattle.stores.specs.Records.{Places, AreRecords, IsDamagedAt, page_size}
use Rattle.stores.specs.declared.fault.StoreFault.{StoreFault}
use Rattle.protocol.specs.declared.replay_fault.ReplayFault.{ReplayFault}
use Rattle.protocol.specs.declared.replay_fault.ReplayFault.TheVariants.{NotRecorded}
use Rattle.protocol.specs.declared.replay_fault.ReplayFault.TheVariants as replay
use Rattle.stores.specs.declared.fault.StoreFault.TheVariants.{Reopen, Damaged, NoMemory}
use Rattle.stores.specs.declared.node_store.NodeStore.{Ghosts}
use Rattle.node_state.specs.declared.loading.Page.{Page}
use Rattle.node_state.specs.declared.loading.Page.TheVariants.{Full, Last}
use Rattle.node_state.specs.Views.{StateView}

-- the place is in the page that comes after that many pages
abbrev pub IsInPage : ℕ → ℕ → Type 0
IsInPage pages place = (pages * page_size ≤ place) × (place < (pages + 1) * page_size)

-- the place is the first without a record; and all places of the pages before it have records, and each is recorded
-- after those before it
pub record IsUnreadableAt (scheme : Scheme) (n : Node) (places : Places) (place : ℕ) : Type 0 where
  pub pages : ℕ
  pub here : IsInPage pages place
  pub records : List Input
  pub before : AreRecords (take (pages * page_size) places) records
  pub recorded : Replays scheme n records
  pub damaged : IsDamagedAt place places

-- all places to the end of the place's page have records, and the one at that place is the first that isn't recorded
-- after those before it
pub record IsUnrecordedAt (scheme : Scheme) (n : Node) (places : Places) (place : ℕ) : Type 0 where
  pub pages : ℕ
  pub here : IsInPage pages place
  pub records : List Input
  pub through : AreRecords (take ((pages + 1) * page_size) places) records
  pub unrecorded : IsFirstNotRecorded scheme n records place

-- why records of a store are no journal, as a fault of that store; no public contract cites it
abbrev pub damage_of : ReplayFault → StoreFault
damage_of (NotRecorded place) = Damaged place
damage_of replay.NoMemory = NoMemory

-- the journal of the state that was returned
abbrev pub journal_in : Result StateView StoreFault → Result (List Input) StoreFault
journal_in (Ok held) = Ok held.journal
journal_in (Err fault) = Err fault

-- the store is honest; the contents of each place while it runs; what a crash or a reopening may leave there; after a
-- fault the store must be reopened
module _ {S : Type 0} (g : Ghosts S) where
  -- the store was read page by page, up to the end of this journal; no public contract cites it
  pub record IsReadTo (old new : S) (journal : List Input) : Type 0 where
    pub same : (new ≡ old) ⊎ ((g.must_reopen old ≡ false) × (g.must_reopen new ≡ false))
    pub honest : g.is_honest new → g.is_honest old
    pub kept : g.is_honest new → g.content new ≡ g.content old
    pub records : g.is_honest new → AreRecords (take (length journal) (g.content old)) journal
    pub whole : g.is_honest new → (pages : ℕ) × (length journal ≡ pages * page_size)

  -- all records were read and recorded, at that node under that scheme; or a place is damaged, in the first page that
  -- has such a place: the first that can't be read or, if the whole page can be read, the first that isn't recorded; or
  -- reading failed
  pub record IsLoaded (scheme : Scheme) (n : Node) (old new : S) (result : Result (List Input) StoreFault) : Type 0 where
    pub reopen : IsTrue (g.must_reopen old) → (result ≡ Err Reopen) × (new ≡ old)
    pub honest : g.is_honest new → g.is_honest old
    pub ok : g.is_honest new → IfOk result (λ journal. AreRecords (g.content old) journal)
    pub damaged : g.is_honest new → IfErr result (λ e. (place : ℕ) → e ≡ Damaged place → IsUnreadableAt scheme n (g.content old) place ⊎ IsUnrecordedAt scheme n (g.content old) place)
    pub named : g.must_reopen old ≡ false → IfErr result IsReadFault
    pub stops : g.must_reopen old ≡ false → IfErr result (λ e. g.must_reopen new ≡ is_device_fault e)
    pub runs : OnOk result (g.must_reopen new ≡ false)
    pub kept : g.is_honest new → g.must_reopen new ≡ false → g.content new ≡ g.content old
    pub crash : g.is_honest new → g.must_reopen old ≡ false → (next : Places) → g.may_hold new next → next ≡ g.content old

  -- the result after one more page; no public contract cites it
  abbrev pub IsReadOn : Scheme → Node → S → S → List Input → Result Page StoreFault → Type 0
  IsReadOn scheme n old new journal (Ok Full) = IsReadTo old new journal
  IsReadOn scheme n old new journal (Ok Last) = IsLoaded scheme n old new (Ok journal)
  IsReadOn scheme n old new journal (Err fault) = IsLoaded scheme n old new (Err fault)
