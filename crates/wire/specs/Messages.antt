-- The texts of messages.
use Rattle.std.specs.Prelude.{◌≡◌, ℕ, ◌≤◌, List, [], ◌∷◌, length, codes, Some, IsUtf8}
use Rattle.serde_json.specs.Data.{Data, string}
use Rattle.serde_json.specs.Read.{read}
use Rattle.serde_json.specs.Written.{compact_text}
use Rattle.units.specs.Code.{code_text, node_text}
use Rattle.units.specs.Limits.{longest_line}
use Rattle.status.specs.Content.{IsContent}
use Rattle.status.specs.Id.{id_text}
use Rattle.status.specs.Status.{status_text}
use Rattle.wire.specs.NotifiedStatuses.{notified_status, notified_codes, IsNotified, proposal_status}
use Rattle.wire.specs.Objects.{Field, HasExactly, object_of, whole, numbers, blocks}
use Rattle.wire.specs.declared.message.Body.{Body}
use Rattle.wire.specs.declared.message.Body.TheVariants.{Proposal, Notification, Request}
use Rattle.wire.specs.declared.message.Message.{Message}

-- the fields of a message with that body, keys in byte order
abbrev pub fields_with : Message → Body → List Field
fields_with m (Proposal p) =
    (codes "account", whole p.content.account) ∷ (codes "call", string (codes "AcceptProposal")) ∷ (codes "from", string (node_text m.from))
    ∷ (codes "status", string (status_text (proposal_status p.status))) ∷ (codes "to", string (node_text m.to)) ∷ (codes "to_account", whole p.content.to_account)
    ∷ (codes "to_registry", string (code_text p.content.acquirer)) ∷ (codes "transaction", string (id_text m.id)) ∷ (codes "units", blocks p.content.units) ∷ []
fields_with m (Notification n) =
    (codes "call", string (codes "AcceptNotification")) ∷ (codes "codes", numbers (notified_codes n)) ∷ (codes "from", string (node_text m.from))
    ∷ (codes "status", string (status_text (notified_status n))) ∷ (codes "to", string (node_text m.to)) ∷ (codes "transaction", string (id_text m.id)) ∷ []
fields_with m Request =
    (codes "call", string (codes "RequestCancellation")) ∷ (codes "from", string (node_text m.from)) ∷ (codes "to", string (node_text m.to))
    ∷ (codes "transaction", string (id_text m.id)) ∷ []

abbrev pub message_fields : Message → List Field
message_fields m = fields_with m m.body

abbrev pub message_data : Message → Data
message_data m = object_of (message_fields m)

-- the text of a message: its fields as compact JSON
abbrev pub message_text : Message → List ℕ
message_text m = compact_text (message_data m)

-- values in their ranges
abbrev pub IsSound : Body → Type 0
IsSound (Proposal p) = IsContent p.content
IsSound (Notification n) = IsNotified n
IsSound Request = Unit {0}

-- the value writes the message
abbrev pub IsMessage : Data → Message → Type 0
IsMessage d m = HasExactly d (message_fields m) × IsSound m.body

-- the line writes the message: at most `longest_line` bytes of JSON in UTF-8
pub record IsLine (line : List ℕ) (m : Message) : Type 0 where
  pub short : length line ≤ longest_line
  pub utf8 : IsUtf8 line
  pub value : Data
  pub reads : read line ≡ Some value
  pub writes : IsMessage value m
