-- The log's tables as readings of its history. No public contract cites it.
use Rattle.std.specs.Prelude.{◌≡◌, List, option_map}
use Rattle.std.specs.BTreeMap as tree
use Rattle.std.specs.BTreeSet.{contains}
use Rattle.std.specs.FinMap as map
use Rattle.units.specs.Keys.{code_cmp}
use Rattle.units.specs.declared.block.Unit.{Unit as Serial}
use Rattle.units.specs.declared.code.Code.{Code}
use Rattle.units.specs.declared.code.Node.TheVariants.{Itl}
use Rattle.status.specs.Id.{id_cmp}
use Rattle.status.specs.declared.id.TransactionId.{TransactionId}
use Rattle.scheme.specs.declared.registries.Scheme.{Scheme}
use Rattle.protocol.specs.Cores.{AreRecordsOf}
use Rattle.protocol.specs.History.{Entry, transitions_of, newest}
use Rattle.protocol.specs.Registries.{allotted}
use Rattle.protocol.specs.Verdict.{history}
use Rattle.log_core.specs.Readings.{of_transition, of_transfer, is_checked_since, under_way, owner, last_order}
use Rattle.log_core.specs.contracts.waiting.WaitingOrd.TheImpl.{cmp-value as waiting-order}
use Rattle.log_core.specs.declared.tables.Tables.{Tables}
use Rattle.log_core.specs.declared.waiting.Waiting.{Waiting}
use Rattle.std.specs.declared.cmp.Ordering.{Ordering}

-- by moment, and then by code and number
abbrev pub waiting_cmp : Waiting → Waiting → Ordering
waiting_cmp = waiting-order.it

-- each table is a reading of the history
pub record AreKept (scheme : Scheme) (es : List Entry) (tables : Tables) : Type 0 where
  pub allotments : (s : Serial) → map.get tables.register.allotments s ≡ allotted scheme s
  pub book : (s : Serial) → map.get tables.register.book s ≡ owner scheme (transitions_of es) s
  pub under_way : (s : Serial) → map.get tables.register.under_way s ≡ under_way (transitions_of es) s
  pub orders : (c : Code) → tree.get code_cmp tables.register.orders c ≡ last_order es c
  pub transfers : (t : TransactionId) → option_map of_transfer (tree.get id_cmp tables.transfers t) ≡ option_map of_transition (newest (transitions_of es) t)
  pub checked : (w : Waiting) → contains waiting_cmp tables.checked w ≡ is_checked_since (transitions_of es) w.since.seconds w.id

-- the tables are readings of the history of their records
pub record IsKept (scheme : Scheme) (tables : Tables) : Type 0 where
  pub records : AreRecordsOf scheme Itl tables.records.inputs tables.records
  pub kept : AreKept scheme (history scheme Itl tables.records.inputs) tables
