-- A world has one table.
use Rattle.std.specs.Prelude.{◌≡◌, ℕ, List}
use Rattle.protocol.specs.World.{World}
use Rattle.report.specs.Table.{IsTable}
use Rattle.report.specs.declared.form.Form.{Form}

-- two tables of the world in one form are the same text
abbrev pub HasOneTable : World → Type 0
HasOneTable w = (form : Form) (one other : List ℕ) → IsTable form w one → IsTable form w other → one ≡ other
