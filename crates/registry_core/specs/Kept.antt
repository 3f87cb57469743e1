-- A registry's tables as readings of its history. No public contract cites it.
use Rattle.std.specs.Prelude.{◌≡◌, ℕ, List}
use Rattle.std.specs.FinMap as map
use Rattle.units.specs.declared.block.Unit.{Unit as Serial}
use Rattle.units.specs.declared.code.Code.{Code}
use Rattle.units.specs.declared.code.Node.TheVariants.{Registry}
use Rattle.status.specs.declared.id.TransactionId.{TransactionId}
use Rattle.scheme.specs.declared.registries.Scheme.{Scheme}
use Rattle.protocol.specs.Cores.{AreRecordsOf}
use Rattle.protocol.specs.History.{Entry, transitions_of, proposals}
use Rattle.protocol.specs.Verdict.{history}
use Rattle.protocol.specs.Held.{unit_holding_at, account_status_at}
use Rattle.registry_core.specs.Readings.{row_at, is_own, is_foreign, own_row, foreign_row}
use Rattle.registry_core.specs.declared.tables.Tables.{Tables}

-- each table is a reading of the history
pub record AreKept (scheme : Scheme) (c : Code) (es : List Entry) (tables : Tables) : Type 0 where
  pub unit_holdings : (s : Serial) → map.get tables.holdings.unit_holdings s ≡ unit_holding_at scheme c (transitions_of es) s
  pub accounts : (n : ℕ) → map.get tables.holdings.accounts n ≡ account_status_at scheme c es n
  pub initiator : tables.initiator.code ≡ c
  pub last : tables.initiator.last ≡ proposals es
  pub own : (t : TransactionId) → map.get tables.initiator.transfers t ≡ row_at (is_own c) (own_row es) (transitions_of es) t
  pub acquirer : tables.acquirer.code ≡ c
  pub foreign : (t : TransactionId) → map.get tables.acquirer.transfers t ≡ row_at (is_foreign c) foreign_row (transitions_of es) t

-- the tables are readings of the history of their records
pub record IsKept (scheme : Scheme) (c : Code) (tables : Tables) : Type 0 where
  pub records : AreRecordsOf scheme (Registry c) tables.records.inputs tables.records
  pub kept : AreKept scheme c (history scheme (Registry c) tables.records.inputs) tables
