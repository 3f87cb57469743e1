-- The change of tables by an acknowledgement, which the records take.
use Rattle.std.proofs.Common.{◌≡◌, Ok, Err, subst}
use Rattle.std.specs.Prelude.{Result}
use Rattle.units.specs.declared.code.Code.{Code}
use Rattle.units.specs.declared.code.Node.TheVariants.{Registry}
use Rattle.units.specs.declared.refusal.Refusal.{Refusal}
use Rattle.wire.specs.declared.input.Input.{Input}
use Rattle.wire.specs.declared.input.Input.TheVariants.{Ack}
use Rattle.wire.specs.declared.input.Number.{Number}
use Rattle.scheme.specs.declared.registries.Scheme.{Scheme}
use Rattle.protocol.specs.Taking.{TakesInto}
use Rattle.protocol.specs.Verdict.{history}
use Rattle.protocol.specs.declared.node_core.Stepped.{Stepped}
use Rattle.protocol.specs.declared.node_core.Stepped.TheVariants as stepped
use Rattle.protocol.proofs.TakenIntoRecords.{ack_recorded}
use Rattle.registry_core.specs.Kept.{AreKept, IsKept}
use Rattle.registry_core.specs.Taking.{Takes}
use Rattle.registry_core.specs.declared.tables.Tables.{Tables}
use Rattle.registry_core.proofs.KeptByOrders.{kept_acknowledged}
use Rattle.registry_core.proofs.TakenInputs.{kept_same}

module _ (scheme : Scheme) (c : Code) (tables tables' : Tables) (key : Number) (kept : IsKept scheme c tables) (initiating : tables'.initiator ≡ tables.initiator) (acquiring : tables'.acquirer ≡ tables.acquirer) (held : tables'.holdings ≡ tables.holdings) where
  tables_follow : (result : Result Stepped Refusal) → TakesInto scheme (Registry c) tables.records tables'.records (Ack key) result → AreKept scheme c (history scheme (Registry c) tables'.records.inputs) tables'
  tables_follow (Ok (stepped.Recorded place)) taken =
      kept_acknowledged scheme c tables tables' key kept (ack_recorded scheme (Registry c) tables.records.inputs key place taken.answer_is) initiating acquiring held taken.journal_is
  tables_follow (Ok stepped.Repeat) taken = kept_same scheme c tables tables' kept taken.journal_is initiating acquiring held
  tables_follow (Ok stepped.Late) taken = kept_same scheme c tables tables' kept taken.journal_is initiating acquiring held
  tables_follow (Err refusal) taken = kept_same scheme c tables tables' kept taken.journal_is initiating acquiring held

  pub takes_acknowledged : (input : Input) (result : Result Stepped Refusal) → input ≡ Ack key → tables'.scheme ≡ tables.scheme → tables'.code ≡ tables.code → TakesInto scheme (Registry c) tables.records tables'.records input result → Takes scheme c tables tables' input result
  takes_acknowledged input result is same_scheme same_code taken =
      record { taken = taken; kept = tables_follow result (subst (λ i. TakesInto scheme (Registry c) tables.records tables'.records i result) is taken); scheme_is = same_scheme; code_is = same_code }
