-- The records of a journal as readings of its history: its messages, which are acknowledged, and how many the first
-- records send.
use Rattle.std.proofs.Common.{◌≡◌, ℕ, Bool, Option, List, take, length, ap, subst, ◌∙◌}
use Rattle.std.specs.Prelude.{slice_get}
use Rattle.units.specs.declared.code.Node.{Node}
use Rattle.wire.specs.declared.input.Input.{Input}
use Rattle.wire.specs.declared.message.Message.{Message}
use Rattle.scheme.specs.declared.registries.Scheme.{Scheme}
use Rattle.records.specs.Records.{RecordsView}
use Rattle.records.specs.Sending as sending
use Rattle.records.specs.Sending.{Sent}
use Rattle.records.specs.Unacknowledged.{IsLeastFrom, awaits}
use Rattle.protocol.specs.Cores.{AreRecordsOf}
use Rattle.protocol.specs.History as past
use Rattle.protocol.specs.Verdict.{history}
use Rattle.protocol.proofs.OutgoingRecords.{acknowledged_outgoing, messages_outgoing, outgoing_take}

module _ (scheme : Scheme) (n : Node) (journal : List Input) (records : RecordsView) (are : AreRecordsOf scheme n journal records) where
  pub messages_read : sending.messages records.sent ≡ past.sends (history scheme n journal)
  messages_read = ap sending.messages are.sent ∙ messages_outgoing scheme n journal

  pub message_read : (key : ℕ) → slice_get (sending.messages records.sent) key ≡ slice_get (past.sends (history scheme n journal)) key
  message_read key = ap (λ (l : List Message). slice_get l key) messages_read

  pub sends_read : length (sending.messages records.sent) ≡ length (past.sends (history scheme n journal))
  sends_read = ap length messages_read

  pub acknowledged_read : (key : ℕ) → sending.is_key_acknowledged records.sent key ≡ past.is_acknowledged (history scheme n journal) key
  acknowledged_read key = ap (λ (o : List Sent). sending.is_key_acknowledged o key) are.sent ∙ acknowledged_outgoing (history scheme n journal) key

  pub sent_by_read : (count : ℕ) → length (sending.messages (take count records.sent)) ≡ length (past.sends (history scheme n (take count journal)))
  sent_by_read count =
      ap (λ (o : List Sent). length (sending.messages (take count o))) are.sent
      ∙ ap (λ (o : List Sent). length (sending.messages o)) (outgoing_take scheme n count journal)
      ∙ ap length (messages_outgoing scheme n (take count journal))

  pub least_read : (peer : Node) (from : ℕ) (key : Option ℕ) → IsLeastFrom (awaits (sending.messages records.sent) (sending.is_key_acknowledged records.sent) peer) from key
      → IsLeastFrom (awaits (past.sends (history scheme n journal)) (past.is_acknowledged (history scheme n journal)) peer) from key
  least_read peer from key h = subst (λ (passes : ℕ → Bool). IsLeastFrom passes from key) (λ i. awaits (messages_read i) (λ k. acknowledged_read k i) peer) h
