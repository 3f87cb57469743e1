use Rattle.std.proofs.Common.{sym, subst}
use Rattle.units.specs.Intervals.{AreKept}
use Rattle.units.specs.Spans.{intervals_of}
use Rattle.log_core.proofs.OpeningRegister.{none_yet}
use Rattle.log_core.proofs.opening.opening_book.Goals as goal

pub loop-unit-init : goal.loop-unit-init
loop-unit-init c =
    let entries = c.pieces-unit-items.result.now.entries in
    let left = c.into_iter-unit-iterator.result in
    let is = c.into_iter-unit-iterator.ensures.into_iter_gives.0 in
    record {
      kept = subst (λ es. AreKept (intervals_of es)) (sym is) c.pieces-unit-items.ensures.kept;
      all = none_yet c.args.allotments.now c.new-book.result entries left is c.new-book.ensures c.pieces-unit-items.ensures.means;
    }
