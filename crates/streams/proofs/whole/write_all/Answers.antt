use Rattle.std.proofs.Common.{arith, rules}
use Rattle.std.proofs.lemmas.Grind.{elements}
use Rattle.std.proofs.Math.Seq.{take-add}
use Rattle.std.proofs.lemmas.List.{take_rest}
use Rattle.std.proofs.KnownBytes.{Appends-trans}
use Rattle.streams.proofs.whole.write_all.Goals as goal

pub loop-at-preserved-in-Ok : goal.loop-at-preserved-in-Ok
loop-at-preserved-in-Ok g c = record {
  within = search rules;
  spare = search rules;
  wrote = rw (take-add c.loop-at.at c.in-Ok.n c.args.bytes.now) (Appends-trans _ _ _ _ _ c.loop-at.invariant.wrote (rw take_rest at c.in-Ok.ensures.bytes));
  goes = search rules;
}

pub returns-clause-ok : goal.returns-clause-ok
returns-clause-ok g c = grind (arith, elements)
