-- The codes with which a verdict refuses.
use Rattle.std.specs.Prelude.{◌≡◌, ℕ, List, [], ◌∷◌, Contains}
use Rattle.units.specs.RefusalCodes.{other_addressee, sender_not_allowed, wrong_party, other_content, no_row, unknown_transaction, journal_full}
use Rattle.units.specs.declared.code.Node.{Node}
use Rattle.status.specs.declared.moment.Moment.{Moment}
use Rattle.wire.specs.declared.input.Input.{Input}
use Rattle.wire.specs.declared.input.Input.TheVariants.{Received}
use Rattle.wire.specs.declared.message.Message.{Message}
use Rattle.scheme.specs.declared.registries.Scheme.{Scheme}
use Rattle.protocol.specs.Deciding.{IsRefused}
use Rattle.protocol.specs.History.{Entry}
use Rattle.protocol.specs.Verdict.{verdict}

-- no verdict refuses with that code
abbrev pub NeverRefusedBy : ℕ → Type 0
NeverRefusedBy code = (scheme : Scheme) (n : Node) (es : List Entry) (input : Input) → verdict scheme n es input ≡ IsRefused code → ⊥

-- a message is refused only with one of those codes
abbrev pub MessagesRefusedBy : List ℕ → Type 0
MessagesRefusedBy allowed =
    (scheme : Scheme) (n : Node) (es : List Entry) (m : Message) (moment : Moment) (code : ℕ) → verdict scheme n es (Received m moment) ≡ IsRefused code → Contains allowed code

-- the codes with which a message may be refused
abbrev pub message_codes : List ℕ
message_codes = other_addressee ∷ sender_not_allowed ∷ wrong_party ∷ other_content ∷ no_row ∷ unknown_transaction ∷ journal_full ∷ []
