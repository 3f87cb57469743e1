-- The texts of a journal's records, in two formats.
use Rattle.std.specs.Prelude.{◌≡◌, ℕ, ◌≤◌, List, [], ◌∷◌, ◌++◌, codes, Some, IsUtf8}
use Rattle.std.specs.List.{AllByRecursion}
use Rattle.serde_json.specs.Data.{Data, string, null, boolean}
use Rattle.serde_json.specs.Read.{read}
use Rattle.serde_json.specs.Written.{compact_text}
use Rattle.units.specs.Code.{code_text}
use Rattle.units.specs.Limits.{last_unit, last_unit_of_format_one}
use Rattle.status.specs.Id.{id_text}
use Rattle.status.specs.Order.{Order, IsOrder}
use Rattle.wire.specs.Objects.{Field, HasExactly, object_of, whole, blocks}
use Rattle.wire.specs.Messages.{message_data, IsMessage}
use Rattle.wire.specs.declared.input.Input.{Input}
use Rattle.wire.specs.declared.input.Input.TheVariants.{Propose, Request, OpenAccount, CloseAccount, Ack, CleanUp, Eligible, Received}
use Rattle.wire.specs.declared.message.Body.{Body}
use Rattle.wire.specs.declared.message.Body.TheVariants as body
use Rattle.wire.specs.declared.record_format.RecordFormat.{RecordFormat}
use Rattle.wire.specs.declared.record_format.RecordFormat.TheVariants.{One, Two}

-- the number of a format
abbrev pub number_of : RecordFormat → ℕ
number_of One = 1
number_of Two = 2

-- the fields that a format adds to those of an input
abbrev pub format_fields : RecordFormat → List Field
format_fields One = []
format_fields Two = (codes "v", whole (number_of Two)) ∷ []

-- the greatest number of a unit in a message of a record
abbrev pub last_unit_of : RecordFormat → ℕ
last_unit_of One = last_unit_of_format_one
last_unit_of Two = last_unit

-- no unit of a message with that body has a greater number
abbrev pub AreUnitsWithin : RecordFormat → Body → Type 0
AreUnitsWithin format (body.Proposal p) = AllByRecursion (λ b. b.last ≤ last_unit_of format) p.content.units
AreUnitsWithin format _ = Unit {0}

-- the fields of an order to transfer units; the order is written as it was given
abbrev pub order_fields : Order → List Field
order_fields o =
    (codes "account", whole o.account) ∷ (codes "input", string (codes "propose")) ∷ (codes "to_account", whole o.to_account)
    ∷ (codes "to_registry", string (code_text o.acquirer)) ∷ (codes "units", blocks o.units) ∷ []

-- the fields of an input, keys in byte order; for a message received, with the value that writes it
abbrev pub input_fields : Data → Input → List Field
input_fields message (Propose o) = order_fields o
input_fields message (Request t) = (codes "input", string (codes "request")) ∷ (codes "transaction", string (id_text t)) ∷ []
input_fields message (OpenAccount n) = (codes "account", whole n.value) ∷ (codes "input", string (codes "open")) ∷ []
input_fields message (CloseAccount n) = (codes "account", whole n.value) ∷ (codes "input", string (codes "close")) ∷ []
input_fields message (Ack n) = (codes "input", string (codes "ack")) ∷ (codes "key", whole n.value) ∷ []
input_fields message (CleanUp t) = (codes "input", string (codes "clean_up")) ∷ (codes "moment", whole t.seconds) ∷ []
input_fields message (Eligible c may) = (codes "input", string (codes "eligible")) ∷ (codes "may", boolean may) ∷ (codes "registry", string (code_text c)) ∷ []
input_fields message (Received m t) = (codes "input", string (codes "received")) ∷ (codes "message", message) ∷ (codes "moment", whole t.seconds) ∷ []

-- the fields of a record: those of its input, and behind them those of its format
abbrev pub record_fields : RecordFormat → Data → Input → List Field
record_fields format message i = input_fields message i ++ format_fields format

abbrev pub message_in : Input → Data
message_in (Received m t) = message_data m
message_in _ = null

abbrev pub record_data : Input → Data
record_data i = object_of (record_fields Two (message_in i) i)

-- the text of an input: its fields in format Two as compact JSON
abbrev pub record_text : Input → List ℕ
record_text i = compact_text (record_data i)

-- the value writes the input; an order's numbers have at most `most_digits` digits, and a message's units are within
-- the format
abbrev pub IsRecord : RecordFormat → Data → Input → Type 0
IsRecord format d (Propose o) = HasExactly d (record_fields format null (Propose o)) × IsOrder o
IsRecord format d (Received m t) = (message : Data) × HasExactly d (record_fields format message (Received m t)) × IsMessage message m × AreUnitsWithin format m.body
IsRecord format d i = HasExactly d (record_fields format null i)

-- the text writes the input: JSON in UTF-8
pub record IsRecordText (format : RecordFormat) (text : List ℕ) (i : Input) : Type 0 where
  pub utf8 : IsUtf8 text
  pub value : Data
  pub reads : read text ≡ Some value
  pub writes : IsRecord format value i
