use Rattle.std.proofs.Common.{map, sym, ap, ◌∙◌}
use Rattle.std.proofs.lemmas.List.{map-append}
use Rattle.chart.proofs.Charts.{lost_none, lost_one}
use Rattle.chart.proofs.charting.lost.Goals as goal
use Rattle.chart.proofs.charting.lost.Goals.{then-not-contains+in_ok-push, else-not-contains}

pub loop-number-preserved : goal.loop-number-preserved
loop-number-preserved c = λ hs marks.
    let so = c.loop-number.invariant hs marks in
    elim c.if-not-contains.branch [
      | then-not-contains+in_ok-push w ↦
          lost_one hs _ c.loop-number.number c.index-bag-number.result _ _ c.loop-number-test.true c.index-bag-number.is (sym (w.if-not-contains.ensures ∙ marks c.loop-number.number)) so
          (ap (λ v. map (λ m. m.now) v.items) w.lost-is ∙ ap (map (λ m. m.now)) w.in_ok-push.ensures.items ∙ map-append (λ m. m.now) c.loop-number.lost.items _)
      | else-not-contains w ↦
          ap (λ v. map (λ m. m.now) v.items) w.lost-is
          ∙ lost_none hs _ c.loop-number.number c.index-bag-number.result _ c.loop-number-test.true c.index-bag-number.is (sym (w.if-not-contains.ensures ∙ marks c.loop-number.number)) so
    ]
