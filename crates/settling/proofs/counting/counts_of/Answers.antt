use Rattle.std.proofs.Common.{◌≡◌, ◌+◌, length, replicate, ap, sym, subst, ◌∙◌, arith, zero-add}
use Rattle.std.proofs.lemmas.Grind.{elements}
use Rattle.settling.specs.Counts.{CountsFrom}
use Rattle.settling.specs.Covering.{times_named}
use Rattle.settling.proofs.CountedPlaces.{counts_same, none_counted, written_back}
use Rattle.settling.proofs.counting.counts_of.Goals as goal

pub returns-clause-counts : goal.returns-clause-counts
returns-clause-counts c =
    let opening = c.args.opening in
    let seats = c.args.seats.now in
    let new = c.count_seats.new.counts in
    let items = c.in_ok-counts.counts.items in
    let value = c.as_mut_slice.ensures.value in
    let zeros : items ≡ replicate c.saturating_sub.result 0 = c.in_ok-counts.ensures.items_if_clones_equal (λ y h. h) in
    let start = subst (CountsFrom opening (λ p. 0)) (sym (value ∙ zeros)) (none_counted opening c.saturating_sub.result) in
    let counted = counts_same opening (λ p. 0 + times_named seats p) (times_named seats) new (λ p. zero-add (times_named seats p)) (c.count_seats.ensures.counts (λ p. 0) start) in
    let long = ap length value in
    rw (written_back new items c.in_ok-counts.counts.len (c.count_seats.ensures.len ∙ long) (omega (arith, c.as_mut_slice.ensures.len, long))) counted

pub returns-clause-len : goal.returns-clause-len
returns-clause-len c = grind (arith, elements)
