use Rattle.std.proofs.Common.{Some, map, take}
use Rattle.stores.specs.Records.{AreRecords}
use Rattle.stores.proofs.records.decode_records.Given as goal

abbrev pub invariant-loop-at : goal.invariant-loop-at
invariant-loop-at l = AreRecords (map (λ b. Some b) (map (λ b. b.now) (take l.at l.bodies))) l.inputs.items
