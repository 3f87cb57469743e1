use Rattle.std.proofs.Common.{rules}
use Rattle.show.proofs.RecordLines.{records_more}
use Rattle.show.proofs.showing.lines_of.Goals as goal

pub loop-input-preserved : goal.loop-input-preserved
loop-input-preserved c = record {
  place = search rules;
  text = records_more c.args.form _ _ _ _ _ _ c.input-item.result c.loop-input-test.true c.input-item.is c.loop-input.invariant.place c.loop-input.invariant.text c.in_ok-push_record.ensures;
}
