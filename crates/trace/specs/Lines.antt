-- The text of rows: a line for each, and the last line.
use Rattle.std.specs.Prelude.{◌≡◌, ℕ, List, [], ◌∷◌, ◌++◌, codes, decimal, Option, Some, None}
use Rattle.units.specs.Code.{node_text}
use Rattle.units.specs.Text.{IsFreeOf}
use Rattle.status.specs.Moment.{IsMomentText}
use Rattle.status.specs.Status.{status_text}
use Rattle.status.specs.declared.moment.Moment.{Moment}
use Rattle.status.specs.declared.status.Status.{Status}
use Rattle.wire.specs.Records.{record_text}
use Rattle.wire.specs.declared.input.Input.{Input}
use Rattle.wire.specs.declared.input.Input.TheVariants.{CleanUp, Received}
use Rattle.report.specs.declared.form.Form.{Form}
use Rattle.report.specs.declared.form.Form.TheVariants.{Lines, Json}
use Rattle.report.specs.ReportLines.{end_line, status_or_none, status_or_null}
use Rattle.trace.specs.Rows.{Row}

-- ---- lines of words

-- a text of the moment that is one word of one line
pub record IsMomentWord (text : List ℕ) (moment : Moment) : Type 0 where
  pub names : IsMomentText text moment
  pub word : IsFreeOf 32 text
  pub line : IsFreeOf 10 text

-- the moment of a received message or of a clean-up; other inputs have none
abbrev pub IsMomentOf : List ℕ → Input → Type 0
IsMomentOf text (Received message moment) = IsMomentWord text moment
IsMomentOf text (CleanUp moment) = IsMomentWord text moment
IsMomentOf text _ = text ≡ codes "-"

-- the words of the row with one space between them, and a newline
pub record IsWordLine (line : List ℕ) (r : Row) : Type 0 where
  pub moment : List ℕ
  pub moment_is : IsMomentOf moment r.input
  pub spelled : line ≡ node_text r.node ++ codes " " ++ decimal r.place ++ codes " " ++ moment ++ codes " " ++ status_or_none r.status ++ codes " " ++ record_text r.input ++ codes "\n"

-- ---- lines of JSON

-- the moment in seconds; inputs that have none have `null`
abbrev pub json_moment : Input → List ℕ
json_moment (Received message moment) = decimal moment.seconds
json_moment (CleanUp moment) = decimal moment.seconds
json_moment _ = codes "null"

-- the row as an object, its keys in byte order, and a newline
abbrev pub json_line : Row → List ℕ
json_line r =
    codes "{\"moment\":" ++ json_moment r.input ++ codes ",\"node\":\"" ++ node_text r.node ++ codes "\",\"place\":" ++ decimal r.place
    ++ codes ",\"record\":" ++ record_text r.input ++ codes ",\"status\":" ++ status_or_null r.status ++ codes "}\n"

-- ---- lines in either form

abbrev pub IsRowLine : Form → List ℕ → Row → Type 0
IsRowLine Lines line r = IsWordLine line r
IsRowLine Json line r = line ≡ json_line r

-- lines of the rows, one each
abbrev pub AreRowLines : Form → List ℕ → List Row → Type 0
AreRowLines form text [] = text ≡ []
AreRowLines form text (r ∷ rs) = (line : List ℕ) × (rest : List ℕ) × (text ≡ line ++ rest) × IsRowLine form line r × AreRowLines form rest rs

-- and after them the last line
pub record IsTrace (form : Form) (text : List ℕ) (rs : List Row) : Type 0 where
  pub lines : List ℕ
  pub spelled : text ≡ lines ++ end_line form
  pub rows_are : AreRowLines form lines rs
