use Rattle.std.proofs.Common.{[], append_assoc}
use Rattle.std.proofs.lemmas.List.{take_more, map-append, append-nil}
use Rattle.std.proofs.lemmas.List.Folds.{concat-append}
use Rattle.tags.proofs.hashing.digest_after.Goals as goal

pub loop-part-preserved : goal.loop-part-preserved
loop-part-preserved c =
    rw (take_more c.args.parts.now c.loop-part.part-index (record { ref_ptr = (0, 0); now = [] }) c.loop-part-test.true, map-append, concat-append, append-nil, ← append_assoc)
    (c.update.ensures _ c.loop-part.invariant)
