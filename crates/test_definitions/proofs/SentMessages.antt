-- The messages of a node's records: their keys, how many the first records send, and which are acknowledged.
use Rattle.std.proofs.Common.{◌≡◌, false, true, List, [], ◌∷◌, map, Some, None, refl, length}
use Rattle.std.specs.Prelude.{slice_get, take}
use Rattle.units.specs.declared.code.Node.TheVariants.{Itl}
use Rattle.wire.specs.declared.message.Message.{Message}
use Rattle.records.specs.Sending.{Sent, Sends, Acknowledges, messages, is_key_acknowledged}
use Rattle.records.specs.Unacknowledged.{awaits}
use Rattle.protocol.proofs.WorkedScheme.{nz_node, nz1, nz2}
use Rattle.test_definitions.proofs.ShortNames.{asks}

abbrev first : Message
first = asks nz_node Itl nz1

abbrev second : Message
second = asks nz_node Itl nz2

-- one record sends two messages, and a second one acknowledges the first of them
abbrev records : List Sent
records = Sends (first ∷ second ∷ []) ∷ Acknowledges 0 ∷ []

pub messages_are_numbered : (slice_get (messages records) 1 ≡ Some second) × (slice_get (messages records) 2 ≡ None) × (length (messages records) ≡ 2)
messages_are_numbered = (refl, refl, refl)

pub sent_by_the_first_records : (length (messages (take 0 records)) ≡ 0) × (length (messages (take 1 records)) ≡ 2)
sent_by_the_first_records = (refl, refl)

pub messages_are_acknowledged : (map (is_key_acknowledged (take 1 records)) (0 ∷ 1 ∷ []) ≡ false ∷ false ∷ []) × (map (is_key_acknowledged records) (0 ∷ 1 ∷ []) ≡ true ∷ false ∷ [])
messages_are_acknowledged = (refl, refl)

-- the log awaits the second message alone, and a registry awaits none
pub awaited_messages : (map (awaits (messages records) (is_key_acknowledged records) Itl) (0 ∷ 1 ∷ []) ≡ false ∷ true ∷ [])
    × (map (awaits (messages records) (is_key_acknowledged records) nz_node) (0 ∷ 1 ∷ []) ≡ false ∷ false ∷ [])
awaited_messages = (refl, refl)
