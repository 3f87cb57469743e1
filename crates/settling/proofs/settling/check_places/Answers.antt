use Rattle.std.proofs.Common.{arith, ◌<◌, ◌≤◌, length, ap, sym, subst, ◌∙◌}
use Rattle.settling.specs.Counts.{CountsFrom}
use Rattle.settling.specs.Covering.{times_named}
use Rattle.settling.proofs.CountedPlaces.{each_place, one_place}
use Rattle.settling.proofs.settling.check_places.Goals as goal

pub returns-in-Err-check_twice : goal.returns-in-Err-check_twice
returns-in-Err-check_twice g c =
    let held = c.args.state.now in
    let seats = c.args.seats.now in
    let opening = c.opening-opening.result in
    let journal = c.journal.result.now in
    let opens = c.opening-opening.ensures.value in
    let within = c.opening-opening.ensures.within in
    let first = c.as_slice.result.now in
    let second = c.as_slice-2.result.now in
    let counts = subst (CountsFrom opening (times_named seats)) (sym c.as_slice.ensures.value) c.in_ok-counts.ensures.counts in
    let again = subst (CountsFrom opening (times_named seats)) (sym c.as_slice-2.ensures.value) c.in_ok-counts.ensures.counts in
    let found = c.in-Err-check_twice.ensures (times_named seats) again in (
      each_place held seats opening first journal opens within c.journal.ensures.value (ap length c.as_slice.ensures.value ∙ c.in_ok-counts.ensures.len) (λ p. 0 < times_named seats p) (c.in_default.ensures (times_named seats) counts),
      (one_place held seats opening second journal opens within c.journal.ensures.value (ap length c.as_slice-2.ensures.value ∙ c.in_ok-counts.ensures.len) c.in-Err-check_twice.place found.0 found.1, found.2),
    )

pub returns : goal.returns
returns g c =
    let held = c.args.state.now in
    let seats = c.args.seats.now in
    let opening = c.opening-opening.result in
    let journal = c.journal.result.now in
    let opens = c.opening-opening.ensures.value in
    let within = c.opening-opening.ensures.within in
    let first = c.as_slice.result.now in
    let second = c.as_slice-2.result.now in
    let counts = subst (CountsFrom opening (times_named seats)) (sym c.as_slice.ensures.value) c.in_ok-counts.ensures.counts in
    let again = subst (CountsFrom opening (times_named seats)) (sym c.as_slice-2.ensures.value) c.in_ok-counts.ensures.counts in (
      each_place held seats opening first journal opens within c.journal.ensures.value (ap length c.as_slice.ensures.value ∙ c.in_ok-counts.ensures.len) (λ p. 0 < times_named seats p) (c.in_default.ensures (times_named seats) counts),
      each_place held seats opening second journal opens within c.journal.ensures.value (ap length c.as_slice-2.ensures.value ∙ c.in_ok-counts.ensures.len) (λ p. times_named seats p ≤ 1) (c.in_default-check_twice.ensures (times_named seats) again),
    )

pub returns-in-Err : goal.returns-in-Err
returns-in-Err g c = grind arith
