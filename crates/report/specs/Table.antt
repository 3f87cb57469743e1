-- The table of a world.
use Rattle.std.specs.Prelude.{◌≡◌, ℕ, ◌+◌, List, ◌++◌, flat_map, sum_by}
use Rattle.units.specs.declared.code.Node.TheVariants.{Itl, Registry}
use Rattle.scheme.specs.declared.registries.Scheme.{Scheme}
use Rattle.protocol.specs.Claims.{committed_of, live_of}
use Rattle.protocol.specs.Headline.{IsSafe}
use Rattle.protocol.specs.History.{stands, transitions_of}
use Rattle.protocol.specs.Table.{ProposedTransfer, due, transactions}
use Rattle.protocol.specs.World.{World, opening, run}
use Rattle.protocol.specs.declared.event.WorldEvent.{WorldEvent}
use Rattle.safety.specs.NumberOfUnits.{allotted_units}
use Rattle.report.specs.declared.form.Form.{Form}
use Rattle.world.specs.Stocks.{AreStocks}
use Rattle.world.specs.declared.views.Stock.{Stock}
use Rattle.report.specs.ReportLines.{held_shown, owed_lines, owed_shown, registry_lines, transaction_line}
use Rattle.report.specs.declared.transactions.TransactionRow.{TransactionRow}

-- the status of a transfer at its initiator, at the log and at its acquirer
abbrev pub row_of : World → ProposedTransfer → TransactionRow
row_of w p = record {
  id = p.id;
  acquirer = p.content.acquirer;
  at_initiator = stands (transitions_of (live_of w (Registry p.id.code))) p.id;
  at_log = stands (transitions_of (live_of w Itl)) p.id;
  at_acquirer = stands (transitions_of (live_of w (Registry p.content.acquirer))) p.id;
}

-- a line for each transfer, by code and then by number
abbrev pub transaction_lines : Form → World → List ℕ
transaction_lines form w = flat_map (λ p. transaction_line form (row_of w p)) (transactions w)

abbrev pub stock_lines : Form → Stock → List ℕ
stock_lines form s = registry_lines form s.code s.lines

-- the transfers, the holdings of each registry, and the units that are owed
pub record IsTable (form : Form) (w : World) (text : List ℕ) : Type 0 where
  pub stocks : List Stock
  pub are : AreStocks w w.scheme.members stocks
  pub spelled : text ≡ transaction_lines form w ++ (flat_map (stock_lines form) stocks ++ owed_lines form (due w))

-- the sum of the numbers after `held` of all registries and the one after `owed` is the number of units that the scheme
-- allots
abbrev pub AddUp : Scheme → List Stock → List ProposedTransfer → Type 0
AddUp scheme stocks owing = sum_by (λ s. held_shown s.lines) stocks + owed_shown owing ≡ allotted_units scheme

-- the text is the table of the world that the events lead to from the opening one. It counts every tonne once; and by
-- journals with their tails, and by committed journals, no tonne is in two places and none is lost
pub record IsSafeTable (form : Form) (scheme : Scheme) (events : List WorldEvent) (text : List ℕ) : Type 0 where
  pub table : IsTable form (run (opening scheme) events) text
  pub counted : AddUp scheme table.stocks (due (run (opening scheme) events))
  pub live : IsSafe scheme (live_of (run (opening scheme) events))
  pub committed : IsSafe scheme (committed_of (run (opening scheme) events))
