-- The change of tables by an acknowledgement, which the records take.
use Rattle.std.proofs.Common.{◌≡◌, Ok, Err, subst}
use Rattle.std.specs.Prelude.{Result}
use Rattle.units.specs.declared.code.Node.TheVariants.{Itl}
use Rattle.units.specs.declared.refusal.Refusal.{Refusal}
use Rattle.wire.specs.declared.input.Input.{Input}
use Rattle.wire.specs.declared.input.Input.TheVariants.{Ack}
use Rattle.wire.specs.declared.input.Number.{Number}
use Rattle.scheme.specs.declared.registries.Scheme.{Scheme}
use Rattle.protocol.specs.Taking.{TakesInto}
use Rattle.protocol.specs.Verdict.{history}
use Rattle.protocol.specs.declared.node_core.Stepped.{Stepped}
use Rattle.protocol.specs.declared.node_core.Stepped.TheVariants as stepped
use Rattle.protocol.proofs.TakenIntoRecords.{ack_recorded}
use Rattle.log_core.specs.Kept.{AreKept, IsKept}
use Rattle.log_core.specs.Taking.{Takes}
use Rattle.log_core.specs.declared.tables.Tables.{Tables}
use Rattle.log_core.proofs.KeptByOrders.{kept_acknowledged}
use Rattle.log_core.proofs.TakenInputs.{kept_unchanged}

module _ (scheme : Scheme) (tables tables' : Tables) (key : Number) (kept : IsKept scheme tables) (register : tables'.register ≡ tables.register) (transfers : tables'.transfers ≡ tables.transfers) (checked : tables'.checked ≡ tables.checked) where
  tables_follow : (result : Result Stepped Refusal) → TakesInto scheme Itl tables.records tables'.records (Ack key) result → AreKept scheme (history scheme Itl tables'.records.inputs) tables'
  tables_follow (Ok (stepped.Recorded place)) taken = kept_acknowledged scheme tables tables' key kept (ack_recorded scheme Itl tables.records.inputs key place taken.answer_is) register transfers checked taken.journal_is
  tables_follow (Ok stepped.Repeat) taken = kept_unchanged scheme tables tables' kept taken.journal_is register transfers checked
  tables_follow (Ok stepped.Late) taken = kept_unchanged scheme tables tables' kept taken.journal_is register transfers checked
  tables_follow (Err refusal) taken = kept_unchanged scheme tables tables' kept taken.journal_is register transfers checked

  pub takes_acknowledged : (input : Input) (result : Result Stepped Refusal) → input ≡ Ack key → tables'.scheme ≡ tables.scheme → TakesInto scheme Itl tables.records tables'.records input result → Takes scheme tables tables' input result
  takes_acknowledged input result is same_scheme taken = record { taken = taken; kept = tables_follow result (subst (λ i. TakesInto scheme Itl tables.records tables'.records i result) is taken); scheme_is = same_scheme }
