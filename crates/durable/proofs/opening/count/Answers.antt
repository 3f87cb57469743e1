use Rattle.std.proofs.Common.{◌≡◌, subst, sym, ◌∙◌, length, to_z, of_z, w64, rules}
use Rattle.sqlite.specs.Held.{state}
use Rattle.store_tables.specs.Tables.{entry_rows}
use Rattle.store_tables.specs.Slots.{slots_from}
use Rattle.durable.proofs.Verdicts.{IsCount, places_counted, end_of_store}
use Rattle.durable.proofs.opening.count.Goals as goal

pub returns-else-count-gt-MOST_PLACES-clause-count : goal.returns-else-count-gt-MOST_PLACES-clause-count
returns-else-count-gt-MOST_PLACES-clause-count g c clean =
    let db = (state g.S.Store c.args.conn.now).committed in
    let early = c.greatest_place.ensures.reads.clean clean in
    let store = c.requires.store early in
    let greatest = end_of_store store.0 db c.in_ok-place.field-0 (c.requires.opened early).1 store.1 (c.in_ok-place.ensures.greatest clean) in
    let counted = places_counted (entry_rows db.trees) c.in_ok-place.field-0 store.1.entries greatest in
    let it = subst (IsCount (length (slots_from 0 (entry_rows db.trees)))) c.in-Some.is counted in
    let same : to_z w64 (of_z w64 c.in-Some.place) ≡ c.in-Some.place = search rules in
    c.next_place-count.ensures it.0 (same ∙ it.1) ∙ sym it.2
