-- The result of an opening, by the owner of the file and by its least and greatest places.
use Rattle.std.proofs.Common.{◌≡◌, inl, inr, ℕ, zero, suc, ℤ, pos, ◌<ℤ◌, ◌<◌, ◌+◌, List, [], ◌∷◌, length, slice_index_or, true, false, Option, Some, None, Ok, Err, refl, sym, ap, subst, ◌∙◌, arith}
use Rattle.std.specs.List.{AllByRecursion}
use Rattle.std.proofs.lemmas.Int.{ints}
use Rattle.std.proofs.lemmas.List.Elements.{recursion_from_All}
use Rattle.sqlite.specs.Order.{Row, column}
use Rattle.sqlite.specs.Effect.{Database}
use Rattle.sqlite.specs.Edit.{id_in}
use Rattle.stores.specs.declared.fault.StoreFault.TheVariants.{Damaged, WrongNode, WrongVersion}
use Rattle.wire.specs.Records.{number_of}
use Rattle.wire.specs.declared.record_format.RecordFormat.{RecordFormat}
use Rattle.durable.specs.declared.opening.Contents.TheVariants.{NoRow, OwnStore}
use Rattle.store_tables.specs.declared.owner_row.FileOwner.TheVariants.{Nobody, OtherFormat, OtherNode, ThisNode}
use Rattle.store_tables.specs.Held.{IsStoreIn}
use Rattle.store_tables.specs.Slots.{place_of, slots_from, AreEntries}
use Rattle.durable.specs.Opening.{HasRows, IsLeastOrGreatest, HasLeastOrGreatest, places_in, IsOwner, IsVerdict, IsNegative}
use Rattle.store_tables.specs.Tables.{TableOrder, about_tree, entries_tree, store_schema, about, entry_rows}
use Rattle.store_tables.proofs.Places.{length-slots}
use Rattle.store_tables.proofs.Orders.{same_order, no_trees, found_order, store-of}
use Rattle.durable.proofs.Judging.{negative, not_low, some_store, entries_from}

-- the least place, by the order that is known
least_in : (db : Database) (least : Option ℤ) (order : TableOrder) → db.schema ≡ store_schema order → HasLeastOrGreatest false db least → IsLeastOrGreatest false (db.trees (entries_tree order)) least
least_in db least order has end = subst (λ (o : TableOrder). IsLeastOrGreatest false (db.trees (entries_tree o)) least) (same_order db.schema end.0 order end.1 has) end.2

pub below_zero : (node : List ℕ) (db : Database) (least : Option ℤ) → HasRows db → HasLeastOrGreatest false db least → IsNegative least → IsVerdict node db (Err (Damaged 0))
below_zero node db None has end low = absurd low
below_zero node db (Some place) has end low = inl (refl, inr (inr (negative db place has (least_in db (Some place) has.0 has.1 end) low)))

pub nobody : (node : List ℕ) (db : Database) (place : ℤ) → HasRows db → IsOwner node db Nobody → HasLeastOrGreatest false db (Some place) → IsVerdict node db (Err (Damaged 0))
nobody node db place has owner end =
    let least = least_in db (Some place) owner.0 owner.1 end in
    inl (refl, inr (inl (owner.0, owner.1, owner.2, λ none. let never = subst (λ rows. least.0.0 < length (places_in rows)) none least.0.1 in omega (arith, never))))

pub no_row : (node : List ℕ) (db : Database) → HasRows db → IsOwner node db Nobody → HasLeastOrGreatest false db None → IsVerdict node db (Ok NoRow)
no_row node db has owner end = let none = no_trees owner.0 db.trees owner.2 (least_in db None owner.0 owner.1 end) in (owner.0, owner.1, none.0, none.1)

pub other_format : (node : List ℕ) (db : Database) (least : Option ℤ) → HasRows db → IsOwner node db OtherFormat → HasLeastOrGreatest false db least → (IsNegative least → ⊥) → IsVerdict node db (Err WrongVersion)
other_format node db least has owner end high = (some_store owner.0 db owner.2 least owner.1 owner.3 high (least_in db least owner.0 owner.1 end), owner)

pub other_node : (node : List ℕ) (db : Database) (least : Option ℤ) → HasRows db → IsOwner node db OtherNode → HasLeastOrGreatest false db least → (IsNegative least → ⊥) → IsVerdict node db (Err WrongNode)
other_node node db least has owner end high =
    let it = owner.1 in
    (some_store it.0 db it.2 least it.1 it.3 high (least_in db least it.0 it.1 end), owner.0, it)

pub a_store : (format : RecordFormat) (node : List ℕ) (db : Database) (least : Option ℤ) → HasRows db → IsOwner node db (ThisNode format) → HasLeastOrGreatest false db least → (IsNegative least → ⊥) → IsVerdict node db (Ok (OwnStore format))
a_store format node db least has owner end high =
    let order = has.0 in
    let rows = db.trees (entries_tree order) in
    let entries = entries_from 0 rows has.2.entries has.2.rise (not_low rows least high (least_in db least order has.1 end)) in
    let its : db.trees (about_tree order) ≡ about (number_of format) node ∷ [] = subst (λ (o : TableOrder). db.trees (about_tree o) ≡ about (number_of format) node ∷ []) (same_order db.schema owner.0 order owner.1 has.1) owner.2 in
    let it = store-of format order node rows db.trees its refl entries in
    ((has.1 ∙ ap store_schema (sym it.order_is), it.store), it.node)

place_is : (row : Row) (from : ℕ) (rows : List Row) → AreEntries from (row ∷ rows) → id_in (column row 0) ≡ pos (place_of row)
place_is row from rows are = ap (λ (r : Row). id_in (column r 0)) are.1

-- the greatest place is that of the last row
counted : (from : ℕ) (row : Row) (rows : List Row) (z : ℤ) (k : ℕ) → AreEntries from (row ∷ rows) → k < length (places_in (row ∷ rows)) → slice_index_or (places_in (row ∷ rows)) k z ≡ z
    → AllByRecursion (λ n. z <ℤ n → ⊥) (places_in (row ∷ rows)) → (m : ℕ) × (z ≡ pos m) × (from + length (slots_from from (row ∷ rows)) ≡ m + 1)
counted from row [] z zero are low is all =
    let count = length-slots from row [] in
    (place_of row, sym is ∙ place_is row from [] are, omega (arith, count, are.0))
counted from row [] z (suc k) are low is all = absurd (omega (arith, low))
counted from row (next ∷ rows) z zero are low is all =
    absurd (let here : z ≡ pos (place_of row) = sym is ∙ place_is row from (next ∷ rows) are in
    let there = place_is next (place_of row + 1) rows are.2 in
    all.1.0 (subst (λ n. z <ℤ n) (sym there) (subst (λ n. n <ℤ pos (place_of next)) (sym here) (omega (arith, ints, are.2.0)))))
counted from row (next ∷ rows) z (suc k) are low is all =
    let rest = counted (place_of row + 1) next rows z k are.2 (omega (arith, low)) is all.1 in
    let count = length-slots from row (next ∷ rows) in
    (rest.0, rest.1, omega (arith, count, rest.2, are.0))

-- the number of a store's places, by the greatest place
abbrev pub IsCount : ℕ → Option ℤ → Type 0
IsCount count None = count ≡ 0
IsCount count (Some place) = (m : ℕ) × (place ≡ pos m) × (count ≡ m + 1)

pub places_counted : (rows : List Row) (greatest : Option ℤ) → AreEntries 0 rows → IsLeastOrGreatest true rows greatest → IsCount (length (slots_from 0 rows)) greatest
places_counted rows None are end = ap (λ all. length (slots_from 0 all)) end
places_counted [] (Some place) are end = absurd (omega (arith, end.0.1))
places_counted (row ∷ rows) (Some place) are end =
    let it = counted 0 row rows place end.0.0 are end.0.1 end.0.2 (recursion_from_All (λ n. place <ℤ n → ⊥) (places_in (row ∷ rows)) end.1) in
    (it.0, it.1, omega (arith, it.2))

-- the greatest place of a store's own records
pub end_of_store : (format : RecordFormat) (db : Database) (greatest : Option ℤ) → HasRows db → IsStoreIn format db.trees → HasLeastOrGreatest true db greatest → IsLeastOrGreatest true (entry_rows db.trees) greatest
end_of_store format db greatest has store end =
    let order = found_order format has.0 db.trees has.2 store in
    let same = same_order db.schema end.0 has.0 end.1 has.1 ∙ sym order in
    subst (λ (o : TableOrder). IsLeastOrGreatest true (db.trees (entries_tree o)) greatest) same end.2
