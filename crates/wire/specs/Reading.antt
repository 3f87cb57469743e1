-- Definitions that the code that reads messages and records follows; no public contract cites them.
use Rattle.std.specs.Prelude.{◌≡◌, ℕ, ◌+◌, ◌<◌, ◌^◌, List, ◌∷◌, length, codes}
use Rattle.serde_json.specs.Data.{Data, string}
use Rattle.json_fields.specs.Fields.{HasKeys, HasAt}
use Rattle.units.specs.Block.{raw_text}
use Rattle.units.specs.Code.{code_text}
use Rattle.units.specs.Limits.{too_long}
use Rattle.units.specs.declared.block.Block.{Block}
use Rattle.units.specs.declared.block.RawBlock.{RawBlock}
use Rattle.status.specs.Content.{Content, IsContent}
use Rattle.status.specs.Status.{status_text}
use Rattle.wire.specs.Messages.{IsMessage}
use Rattle.wire.specs.NotifiedStatuses.{notified_status, notified_codes, IsNotified, proposal_status}
use Rattle.wire.specs.Objects.{HasExactly, HasFields, whole, numbers, blocks}
use Rattle.wire.specs.Records.{format_fields, AreUnitsWithin}
use Rattle.wire.specs.declared.input.Number.{Number}
use Rattle.wire.specs.declared.message.Body.{Body}
use Rattle.wire.specs.declared.message.Body.TheVariants.{Proposal, Notification, Request}
use Rattle.wire.specs.declared.message.Message.{Message}
use Rattle.wire.specs.declared.message.ProposalStatus.{ProposalStatus}
use Rattle.wire.specs.declared.notified.NotifiedStatus.{NotifiedStatus}
use Rattle.wire.specs.declared.record_format.RecordFormat.{RecordFormat}

-- an item that is the text of a block
abbrev pub IsBlockItem : Data → Block → Type 0
IsBlockItem d b = d ≡ string (raw_text b.raw)

-- an item that is the text of a block as ordered
abbrev pub IsRawItem : Data → RawBlock → Type 0
IsRawItem d r = (d ≡ string (raw_text r)) × (r.first < too_long) × (r.last < too_long)

-- an item that is a code
abbrev pub IsCodeItem : Data → ℕ → Type 0
IsCodeItem d n = (d ≡ whole n) × (n < 2 ^ 16)

-- the object has the content at its four keys
abbrev pub HasContent : Data → Content → Type 0
HasContent d c =
    HasAt d (codes "account") (whole c.account) × HasAt d (codes "to_account") (whole c.to_account) × HasAt d (codes "to_registry") (string (code_text c.acquirer))
    × HasAt d (codes "units") (blocks c.units) × IsContent c

-- the text and the codes are those of the notified status
abbrev pub Says : List ℕ → List ℕ → NotifiedStatus → Type 0
Says text told n = (text ≡ status_text (notified_status n)) × (told ≡ notified_codes n) × IsNotified n

-- the object has the notified status at its two keys
abbrev pub HasNotified : Data → NotifiedStatus → Type 0
HasNotified d n = HasAt d (codes "codes") (numbers (notified_codes n)) × HasAt d (codes "status") (string (status_text (notified_status n))) × IsNotified n

abbrev pub HasProposalStatus : Data → ProposalStatus → Type 0
HasProposalStatus d s = HasAt d (codes "status") (string (status_text (proposal_status s)))

-- the object has that many keys, and its call has that name
abbrev pub IsCall : Data → ℕ → List ℕ → Type 0
IsCall d count name = HasKeys d count × HasAt d (codes "call") (string name)

-- the object has the body of a message
abbrev pub HasBody : Data → Body → Type 0
HasBody d (Proposal p) = IsCall d 9 (codes "AcceptProposal") × HasProposalStatus d p.status × HasContent d p.content
HasBody d (Notification n) = IsCall d 6 (codes "AcceptNotification") × HasNotified d n
HasBody d Request = IsCall d 4 (codes "RequestCancellation")

-- the object has a message at its key, whose units are within the format
abbrev pub HasMessage : RecordFormat → Data → Message → Type 0
HasMessage format d m = (inner : Data) × HasAt d (codes "message") inner × IsMessage inner m × AreUnitsWithin format m.body

-- a record of that word, with `own` keys besides those of the format
abbrev pub HasWord : RecordFormat → Data → List ℕ → ℕ → Type 0
HasWord format d word own = HasKeys d (own + length (format_fields format)) × HasAt d (codes "input") (string word) × HasFields d (format_fields format)

-- an order of that word about an account
abbrev pub IsAccountOrder : RecordFormat → Data → List ℕ → Number → Type 0
IsAccountOrder format d word n = HasExactly d ((codes "account", whole n.value) ∷ (codes "input", string word) ∷ format_fields format)
