use Rattle.std.proofs.Common.{◌≡◌, Some, map, take}
use Rattle.stores.specs.Bodies.{items}
use Rattle.stores.specs.Records.{AreRecords, written}
use Rattle.stores.proofs.records.encode_records.Given as goal

abbrev pub invariant-loop-input : goal.invariant-loop-input
invariant-loop-input l = record {
  texts : map (λ body. Some body) (map items l.texts.items) ≡ written (take l.input-index l.batch);
  records : AreRecords (written (take l.input-index l.batch)) (take l.input-index l.batch);
}
