-- What each command does with the files and nodes that its words name, and how it fails.
use Rattle.std.specs.Prelude.{◌≡◌, ◌⊎◌, ℕ, true, All, List, [], Option, None, Some, map, slice_get, string_bytes, take}
use Rattle.std.specs.Io.KnownBytes.{Appends, Keeps}
use Rattle.units.specs.Code.{node_text}
use Rattle.units.specs.declared.code.Node.{Node}
use Rattle.status.specs.Id.{id_text}
use Rattle.status.specs.declared.id.TransactionId.{TransactionId}
use Rattle.protocol.specs.Input.{Input}
use Rattle.protocol.specs.Scheme.{Scheme}
use Rattle.protocol.specs.Registries.{is_node, nodes}
use Rattle.stores.specs.Records.{AreRecords}
use Rattle.stores.specs.declared.fault.StoreFault.{StoreFault}
use Rattle.stores.specs.declared.node_store.NodeStore.{Ghosts as StoreGhosts}
use Rattle.desk.specs.Keeping.{StoredView}
use Rattle.node_state.specs.Views.{opened_with}
use Rattle.command_faults.specs.Faults.{of_store}
use Rattle.command_faults.specs.declared.fault.Cause.TheVariants.{Order}
use Rattle.command_faults.specs.declared.fault.OpFault.{OpFault}
use Rattle.command_faults.specs.declared.fault.OpFault.TheVariants.{Input as InputFault, Read, Undone, NoMemory}
use Rattle.report.specs.declared.form.Form.{Form}
use Rattle.event_reports.specs.Rehearsal.{FailsSo, Reports}
use Rattle.event_reports.specs.Report.{IsReport}
use Rattle.chart.specs.Chart.{IsChart}
use Rattle.show.specs.Show.{FailsToShow, shown}
use Rattle.command_line.specs.declared.actions.Action.{Action}
use Rattle.command_line.specs.declared.actions.Action.TheVariants.{Rehearse, Chart, Show, Audit, Events, Trace, Explain, Run, Node as Alone}
use Rattle.command_line.specs.declared.actions.Extent.{Extent}
use Rattle.command_line.specs.declared.actions.Extent.TheVariants.{Furthest, Whole}
use Rattle.command_line.specs.declared.actions.Missing.{Missing}
use Rattle.command_line.specs.declared.actions.Strictness.{Strictness}
use Rattle.command_line.specs.declared.actions.Strictness.TheVariants.{Strict}
use Rattle.audit.specs.Audits.{Audits, FailsToAudit}
use Rattle.loading.specs.Runs.{FailsToFindRun, HasRun}
use Rattle.audit.specs.Cuts.{CutsOff, FailsToCutOff}
use Rattle.loading.specs.Stores.{AreLoaded, AreUnwritten}
use Rattle.events.specs.Listing.{FailsToList, Lists}
use Rattle.trace.specs.Traces.{FailsToTrace, Traces}
use Rattle.explain.specs.Topics.{Explains, FailsToExplain}
use Rattle.input_lines.specs.declared.script_line.ScriptLine.{ScriptLine}
use Rattle.ended_nodes.specs.Ended.{states_of}
use Rattle.run.specs.Runs.{FailsToRun, IsLoadedAmong, IsRunReport}
use Rattle.serving.specs.Ends.{HaveEnded}
use Rattle.commands.specs.Opened.{AreStoresIn, FailsToOpen, HasScheme, HasScript, IsShut, IsStoreIn, LacksFolder, LacksScheme, LacksScript}
use Rattle.commands.specs.Standing.{FailsToStand, StandsAlone}
use Rattle.commands.specs.declared.archive.Archive.{Ghosts}

-- ---- a run of loaded nodes

-- the states have the scheme, one for each of its nodes, and each has its whole journal from its opening
pub record AreOpened {S : Type 0} (scheme : Scheme) (loaded : List (StoredView S)) : Type 0 where
  pub nodes_are : map (λ (k : StoredView S). k.state.node) loaded ≡ nodes scheme
  pub opened : All (λ (k : StoredView S). k.state ≡ opened_with scheme k.state.node k.state.journal) loaded

-- no port could be had, or memory ran out
abbrev pub IsPortFault : OpFault → Type 0
IsPortFault fault = (fault ≡ Read) ⊎ (fault ≡ NoMemory)

-- the store of each node was closed
abbrev pub AreClosed : {S : Type 0} → (S → Type 0) → List (StoredView S) → Type 0
AreClosed {S} closes ended = All (λ (k : StoredView S). closes k.store) ended

-- the store of one of the nodes failed to close, the first that did
pub record HasClosingFault {S : Type 0} (closes : S → Type 0) (unclosed : S → StoreFault → Type 0) (ended : List (StoredView S)) (fault : OpFault) : Type 0 where
  pub at : ℕ
  pub kept : StoredView S
  pub is : slice_get ended at ≡ Some kept
  pub before : AreClosed closes (take at ended)
  pub cause : StoreFault
  pub failed : unclosed kept.store cause
  pub told : fault ≡ of_store kept.state.node cause

-- the run is strict, and that line is the first that was not carried out
abbrev pub IsUndone : Strictness → Option ℕ → OpFault → Type 0
IsUndone strictness undone fault = (line : ℕ) × (strictness ≡ Strict) × (undone ≡ Some line) × (fault ≡ Undone line)

module _ {S : Type 0} (of : StoreGhosts S) where
  -- the nodes ended well, and the script's report of them was written; the first line that was not carried out
  pub record HasReported (scheme : Scheme) (lines : List ScriptLine) (loaded ended : List (StoredView S)) (undone : Option ℕ) (before after : Option (List ℕ)) : Type 0 where
    pub well : HaveEnded of (IsLoadedAmong of scheme loaded) scheme ended
    pub text : List ℕ
    pub report : IsRunReport scheme lines (states_of ended) undone text
    pub written : Appends before after text

  -- and their stores were closed
  abbrev pub HasClosed : (closes : S → Type 0) → Scheme → List ScriptLine → List (StoredView S) → (undone : Option ℕ) (before after : Option (List ℕ)) → Type 0
  HasClosed closes scheme lines loaded undone v w = (ended : List (StoredView S)) × HasReported scheme lines loaded ended undone v w × AreClosed closes ended

  -- and all lines were carried out, if the run is strict
  abbrev pub RunsLoaded : (closes : S → Type 0) → Scheme → List ScriptLine → Strictness → List (StoredView S) → (before after : Option (List ℕ)) → Type 0
  RunsLoaded closes scheme lines strictness loaded v w = (undone : Option ℕ) × HasClosed closes scheme lines loaded undone v w × (strictness ≡ Strict → undone ≡ None)

  -- it was reported, and a store failed to close; or the stores were closed, and a line was not carried out
  abbrev pub FailsAfterReport : (closes : S → Type 0) (unclosed : S → StoreFault → Type 0) → Scheme → List ScriptLine → Strictness → List (StoredView S) → OpFault → (before after : Option (List ℕ)) → Type 0
  FailsAfterReport closes unclosed scheme lines strictness loaded fault v w =
      ((undone : Option ℕ) × (ended : List (StoredView S)) × HasReported scheme lines loaded ended undone v w × HasClosingFault closes unclosed ended fault)
      ⊎ ((undone : Option ℕ) × HasClosed closes scheme lines loaded undone v w × IsUndone strictness undone fault)

  -- no port could be had; or the run failed; or there was a fault after its report
  abbrev pub FailsToRunLoaded : (closes : S → Type 0) (unclosed : S → StoreFault → Type 0) → Scheme → List ScriptLine → Strictness → List (StoredView S) → OpFault → (before after : Option (List ℕ)) → Type 0
  FailsToRunLoaded closes unclosed scheme lines strictness loaded fault v w =
      (IsPortFault fault × Keeps v w)
      ⊎ (FailsToRun of (IsLoadedAmong of scheme loaded) fault scheme lines v w ⊎ FailsAfterReport closes unclosed scheme lines strictness loaded fault v w)

-- ---- nodes that are loaded

-- an archive, and what is known of its stores
module _ {A F S : Type 0} (g : Ghosts A F S) (archive : A) (of : StoreGhosts S) where
  -- the nodes were loaded from the stores in the folder, and a run leads to their records
  pub record LoadsFolder (folder : List ℕ) (scheme : Scheme) (loaded : List (StoredView S)) : Type 0 where
    pub stores : List S
    pub opened : AreStoresIn g archive of folder (nodes scheme) stores
    pub are : AreOpened scheme loaded
    pub read : AreLoaded of scheme (nodes scheme) stores (map (λ (k : StoredView S). k.store) loaded) (map (λ (k : StoredView S). k.state.journal) loaded)
    pub unwritten : AreUnwritten of stores (map (λ (k : StoredView S). k.store) loaded)
    pub run : HasRun scheme (map (λ (k : StoredView S). k.state.journal) loaded)

  abbrev pub FailsToLoadFolder : List ℕ → Scheme → OpFault → Type 0
  FailsToLoadFolder folder scheme fault =
      FailsToOpen g archive of folder scheme fault
      ⊎ ((stores left : List S) × AreStoresIn g archive of folder (nodes scheme) stores × FailsToFindRun of fault scheme stores left × AreUnwritten of stores left)

-- ---- the names in the words of a command

-- the word is no transaction's
pub record NamesNoTransaction (word : List ℕ) (fault : OpFault) : Type 0 where
  pub is : fault ≡ InputFault 1 Order
  pub none : (id : TransactionId) → word ≡ id_text id → ⊥

-- an archive, the bytes that a file has left to be read, and what is known of a store
module _ {A F S : Type 0} (g : Ghosts A F S) (archive : A) (remaining : F → Option (List ℕ)) (of : StoreGhosts S) where
  -- a command's fault, and its output before it failed
  abbrev Failing : Type 1
  Failing = OpFault → (before after : Option (List ℕ)) → Type 0

  -- there is no scheme at the path; or there is one, and it leads to this failure
  abbrev pub FailsFromScheme : List ℕ → (Scheme → Failing) → Failing
  FailsFromScheme path Later fault v w = (LacksScheme g archive remaining path fault × Keeps v w) ⊎ ((scheme : Scheme) × HasScheme g archive remaining path scheme × Later scheme fault v w)

  abbrev pub FailsFromScript : List ℕ → (List ScriptLine → Failing) → Failing
  FailsFromScript path Later fault v w = (LacksScript g archive remaining path fault × Keeps v w) ⊎ ((lines : List ScriptLine) × HasScript g archive remaining path lines × Later lines fault v w)

  abbrev pub FailsFromFolder : List ℕ → Failing → Failing
  FailsFromFolder folder Later fault v w = (LacksFolder g archive folder fault × Keeps v w) ⊎ (g.is_folder archive folder × Later fault v w)

  -- ---- `show`

  -- the word names the node of the scheme
  pub record IsNamed (scheme : Scheme) (word : List ℕ) (n : Node) : Type 0 where
    pub text : word ≡ node_text n
    pub member : is_node scheme n ≡ true

  -- the word names no node of the scheme
  pub record NamesNone (scheme : Scheme) (word : List ℕ) (fault : OpFault) : Type 0 where
    pub is : fault ≡ InputFault 1 Order
    pub none : (n : Node) → IsNamed scheme word n → ⊥

  -- the records of the store of the node that the word names were written
  pub record ShowsNode (form : Form) (path folder word : List ℕ) (before after : Option (List ℕ)) : Type 0 where
    pub scheme : Scheme
    pub has_scheme : HasScheme g archive remaining path scheme
    pub node : Node
    pub named : IsNamed scheme word node
    pub in_folder : g.is_folder archive folder
    pub store : S
    pub left : S
    pub opened : IsStoreIn g archive of folder node store
    pub inputs : List Input
    pub records : of.is_honest left → AreRecords (of.content store) inputs
    pub written : Appends before after (shown form inputs)

  abbrev pub FailsFromStore : Form → List ℕ → Node → Failing
  FailsFromStore form folder n fault v w = (IsShut g archive folder n fault × Keeps v w) ⊎ ((store left : S) × IsStoreIn g archive of folder n store × FailsToShow form fault n (of.is_honest left) (of.content store) v w)

  abbrev pub FailsFromWord : List ℕ → Scheme → (Node → Failing) → Failing
  FailsFromWord word scheme Later fault v w = (NamesNone scheme word fault × Keeps v w) ⊎ ((n : Node) × IsNamed scheme word n × Later n fault v w)

  -- the first fault of the scheme, the node's word, the folder, the store and its records
  abbrev pub FailsToShowNode : Form → (path folder word : List ℕ) → Failing
  FailsToShowNode form path folder word = FailsFromScheme path (λ scheme. FailsFromWord word scheme (λ n. FailsFromFolder folder (FailsFromStore form folder n)))

  -- ---- `audit`, `events` and `trace`

  -- the stores of the scheme's nodes were read, and a text on their records was written
  pub record ReportsFolder (IsText : Scheme → (olds news : List S) → List ℕ → Type 0) (path folder : List ℕ) (before after : Option (List ℕ)) : Type 0 where
    pub scheme : Scheme
    pub has_scheme : HasScheme g archive remaining path scheme
    pub in_folder : g.is_folder archive folder
    pub stores : List S
    pub left : List S
    pub opened : AreStoresIn g archive of folder (nodes scheme) stores
    pub text : List ℕ
    pub is_text : IsText scheme stores left text
    pub unwritten : AreUnwritten of stores left
    pub written : Appends before after text

  -- the table of a run that leads to their records
  abbrev pub AuditsFolder : Form → (path folder : List ℕ) (before after : Option (List ℕ)) → Type 0
  AuditsFolder form path folder v w = ReportsFolder (Audits of form) path folder v w

  -- the table of the furthest run whose journals are first parts of their records, none of which is left
  abbrev pub CutsFolder : Form → (path folder : List ℕ) (before after : Option (List ℕ)) → Type 0
  CutsFolder form path folder v w = ReportsFolder (λ scheme olds news text. CutsOff of form scheme olds news [] text) path folder v w

  abbrev pub AuditsTo : Extent → Form → (path folder : List ℕ) (before after : Option (List ℕ)) → Type 0
  AuditsTo Whole form path folder v w = AuditsFolder form path folder v w
  AuditsTo Furthest form path folder v w = CutsFolder form path folder v w

  -- the records of the transaction that the word names
  pub record TracesFolder (form : Form) (path folder word : List ℕ) (before after : Option (List ℕ)) : Type 0 where
    pub id : TransactionId
    pub named : word ≡ id_text id
    pub reports : ReportsFolder (λ scheme olds news text. Traces of form scheme olds news id text) path folder before after

  -- the events of a run that leads to their records
  abbrev pub ListsFolder : Form → (path folder : List ℕ) (before after : Option (List ℕ)) → Type 0
  ListsFolder form path folder v w = ReportsFolder (Lists of form) path folder v w

  abbrev pub FailsFromStores : (OpFault → Scheme → List S → List S → (before after : Option (List ℕ)) → Type 0) → List ℕ → Scheme → Failing
  FailsFromStores Fails folder scheme fault v w =
      (FailsToOpen g archive of folder scheme fault × Keeps v w)
      ⊎ ((stores left : List S) × AreStoresIn g archive of folder (nodes scheme) stores × Fails fault scheme stores left v w × AreUnwritten of stores left)

  -- the first fault of the scheme, the folder, the stores and their records
  abbrev pub FailsToAuditFolder : Form → (path folder : List ℕ) → Failing
  FailsToAuditFolder form path folder = FailsFromScheme path (λ scheme. FailsFromFolder folder (FailsFromStores (FailsToAudit of form) folder scheme))

  abbrev pub FailsToListFolder : Form → (path folder : List ℕ) → Failing
  FailsToListFolder form path folder = FailsFromScheme path (λ scheme. FailsFromFolder folder (FailsFromStores (FailsToList of form) folder scheme))

  abbrev pub FailsToCutFolder : Form → (path folder : List ℕ) → Failing
  FailsToCutFolder form path folder = FailsFromScheme path (λ scheme. FailsFromFolder folder (FailsFromStores (FailsToCutOff of form) folder scheme))

  abbrev pub FailsToAuditTo : Extent → Form → (path folder : List ℕ) → Failing
  FailsToAuditTo Whole form path folder = FailsToAuditFolder form path folder
  FailsToAuditTo Furthest form path folder = FailsToCutFolder form path folder

  abbrev pub FailsFromId : List ℕ → (TransactionId → Failing) → Failing
  FailsFromId word Later fault v w = (NamesNoTransaction word fault × Keeps v w) ⊎ ((id : TransactionId) × (word ≡ id_text id) × Later id fault v w)

  -- the first fault of the scheme, the transaction's word, the folder, the stores and their records
  abbrev pub FailsToTraceFolder : Form → (path folder word : List ℕ) → Failing
  FailsToTraceFolder form path folder word =
      FailsFromScheme path (λ scheme. FailsFromId word (λ id. FailsFromFolder folder (FailsFromStores (λ fault s olds news v w. FailsToTrace of form fault s olds news id v w) folder scheme)))

  -- ---- `run`

  -- the script was played while the nodes ran, from the records in the folder, and its report was written
  pub record RunsFolder (path folder script : List ℕ) (strictness : Strictness) (before after : Option (List ℕ)) : Type 0 where
    pub scheme : Scheme
    pub has_scheme : HasScheme g archive remaining path scheme
    pub lines : List ScriptLine
    pub has_script : HasScript g archive remaining script lines
    pub in_folder : g.is_folder archive folder
    pub loaded : List (StoredView S)
    pub loads : LoadsFolder g archive of folder scheme loaded
    pub runs : RunsLoaded of (g.closes archive) scheme lines strictness loaded before after

  abbrev pub FailsFromRecords : List ℕ → Scheme → (List (StoredView S) → Failing) → Failing
  FailsFromRecords folder scheme Later fault v w = (FailsToLoadFolder g archive of folder scheme fault × Keeps v w) ⊎ ((loaded : List (StoredView S)) × LoadsFolder g archive of folder scheme loaded × Later loaded fault v w)

  -- the first fault of the scheme, the script, the folder, the stores and their records, the ports and the run
  abbrev pub FailsToRunFolder : (path folder script : List ℕ) → Strictness → Failing
  FailsToRunFolder path folder script strictness =
      FailsFromScheme path (λ scheme. FailsFromScript script (λ lines. FailsFromFolder folder (FailsFromRecords folder scheme (λ loaded. FailsToRunLoaded of (g.closes archive) (g.unclosed archive) scheme lines strictness loaded))))

-- ---- all commands

-- an archive, the bytes that a file has left to be read, and what is known of a store
module _ {A F S : Type 0} (g : Ghosts A F S) (archive : A) (remaining : F → Option (List ℕ)) (of : StoreGhosts S) where
  -- for a command that reads stores alone, and treats a missing one so
  abbrev pub Reading : Missing → (A → Type 0) → Type 0
  Reading missing Does = (a : A) × g.reads_as archive missing a × Does a

  -- for a command that appends to stores
  abbrev pub Appending : Missing → (A → Type 0) → Type 0
  Appending missing Does = (a : A) × g.appends_as archive missing a × Does a

  -- the bytes that standard input has left, before and after, and the output
  abbrev pub Performs : Action → (r s before after : Option (List ℕ)) → Type 0
  Performs Rehearse r s v w = (text : List ℕ) × Reports IsReport r s text × Appends v w text
  Performs Chart r s v w = (text : List ℕ) × Reports IsChart r s text × Appends v w text
  Performs (Show scheme folder node form missing) r s v w = Reading missing (λ a. ShowsNode g a remaining of form (string_bytes scheme) (string_bytes folder) (string_bytes node) v w)
  Performs (Audit scheme folder extent form missing) r s v w = Reading missing (λ a. AuditsTo g a remaining of extent form (string_bytes scheme) (string_bytes folder) v w)
  Performs (Events scheme folder form missing) r s v w = Reading missing (λ a. ListsFolder g a remaining of form (string_bytes scheme) (string_bytes folder) v w)
  Performs (Trace scheme folder id form missing) r s v w = Reading missing (λ a. TracesFolder g a remaining of form (string_bytes scheme) (string_bytes folder) (string_bytes id) v w)
  Performs (Explain words) r s v w = (text : List ℕ) × Explains (map string_bytes words.items) text × Appends v w text
  Performs (Run scheme folder script missing strictness) r s v w = Appending missing (λ a. RunsFolder g a remaining of (string_bytes scheme) (string_bytes folder) (string_bytes script) strictness v w)
  Performs (Alone words) r s v w = StandsAlone g archive remaining of words r s v w

  abbrev pub FailsToPerform : Action → OpFault → (r s before after : Option (List ℕ)) → Type 0
  FailsToPerform Rehearse fault r s v w = FailsSo IsReport fault r s v w
  FailsToPerform Chart fault r s v w = FailsSo IsChart fault r s v w
  FailsToPerform (Show scheme folder node form missing) fault r s v w = Reading missing (λ a. FailsToShowNode g a remaining of form (string_bytes scheme) (string_bytes folder) (string_bytes node) fault v w)
  FailsToPerform (Audit scheme folder extent form missing) fault r s v w = Reading missing (λ a. FailsToAuditTo g a remaining of extent form (string_bytes scheme) (string_bytes folder) fault v w)
  FailsToPerform (Events scheme folder form missing) fault r s v w = Reading missing (λ a. FailsToListFolder g a remaining of form (string_bytes scheme) (string_bytes folder) fault v w)
  FailsToPerform (Trace scheme folder id form missing) fault r s v w = Reading missing (λ a. FailsToTraceFolder g a remaining of form (string_bytes scheme) (string_bytes folder) (string_bytes id) fault v w)
  FailsToPerform (Explain words) fault r s v w = FailsToExplain fault (map string_bytes words.items) v w
  FailsToPerform (Run scheme folder script missing strictness) fault r s v w = Appending missing (λ a. FailsToRunFolder g a remaining of (string_bytes scheme) (string_bytes folder) (string_bytes script) strictness fault v w)
  FailsToPerform (Alone words) fault r s v w = FailsToStand g archive remaining words fault v w
