-- The state of a connection after the calls of an opening.
use Rattle.std.proofs.Common.{◌≡◌, inl, inr, ℕ, ℤ, List, [], ◌∷◌, codes, true, false, Option, None, Ok, sym, ap, subst, ◌∙◌}
use Rattle.sqlite.specs.Order.{Row}
use Rattle.sqlite.specs.Tree.{Trees}
use Rattle.sqlite.specs.Source.TheVariants.{Values}
use Rattle.sqlite.specs.Command.TheVariants.{Insert, CreateTable}
use Rattle.sqlite.specs.Does.{Does}
use Rattle.sqlite.specs.Effect.{Database, Reads}
use Rattle.sqlite.specs.Listing.{understood}
use Rattle.sqlite.specs.State.{State, HasCleanDisk, Survives, Executes, ExecutesInside, IsUnchanged, Shown, CommitsShowing}
use Rattle.sqlite.proofs.Callers.{IsPlain, runs_as, reads_as, statement_of, never_commits}
use Rattle.store_tables.specs.Tables.{TableOrder, AboutFirst, about_tree, entries_tree, store_schema, no_schema, IsStoreSchema}
use Rattle.durable.specs.Opening.{about_schema, IsOpened, IsBare, HasAbout, IsEmpty, HasFresh, HasRows, IsOwner, HasLeastOrGreatest}
use Rattle.store_tables.specs.Within.{IsWithin}
use Rattle.store_tables.specs.OwnerRow.{IsOwnerIn, IsPlaceIn}
use Rattle.store_tables.specs.declared.owner_row.FileOwner.{FileOwner}
use Rattle.store_tables.proofs.Texts.{about_text, entries_text}
use Rattle.durable.proofs.OpeningTexts.{about_command, about_plain, entries_command, entries_plain, own_text, own_terms, own_is, own_plain, shows, owner_query, first_row, owner_text, owner_is, owner_plain, least_text, least_is, least_plain, greatest_text, greatest_is, greatest_plain}
use Rattle.store_tables.proofs.Steps.{shown_unchanged}
use Rattle.durable.proofs.Judging.{owner_told}
use Rattle.durable.proofs.Ends.{by_place, ended}
use Rattle.store_tables.proofs.Inserting.{enforced}
use Rattle.store_tables.proofs.Orders.{own_rows}
use Rattle.durable.proofs.Making.{about_made, entries_made, owner_given, owner_made}

pub about_ok : (old new : State) (count : ℕ) → IsWithin old IsBare → ExecutesInside 0 about_text [] old new (Ok count) → IsWithin new HasAbout
about_ok old new count was h =
    let w = runs_as about_text [] old new no_schema was.holds CreateTable about_command.0 about_plain count h.0 in
    let does = subst (λ t. Does old.step_limit enforced [] old.now t None CreateTable (Ok (w.tally, new.now))) about_command.1 w.changed in
    record { is_open = h.1.is_open; inside = h.1.mode; holds = about_made old.step_limit old.now new.now w.tally was.holds does }

pub entries_ok : (old new : State) (count : ℕ) → IsWithin old HasAbout → ExecutesInside 0 entries_text [] old new (Ok count)
    → IsWithin new IsEmpty × (new.now.schema ≡ store_schema AboutFirst)
entries_ok old new count was h =
    let w = runs_as entries_text [] old new about_schema was.holds.0 CreateTable entries_command.0 entries_plain count h.0 in
    let does = subst (λ t. Does old.step_limit enforced [] old.now t None CreateTable (Ok (w.tally, new.now))) entries_command.1 w.changed in
    let made = entries_made old.step_limit old.now new.now w.tally was.holds does in
    (record { is_open = h.1.is_open; inside = h.1.mode; holds = made.0 }, made.1)

pub owner_ok : (old new : State) (node : List ℕ) (params : Row) (count : ℕ) → params ≡ owner_given node → IsWithin old IsEmpty → ExecutesInside 0 own_text params old new (Ok count)
    → IsWithin new (HasFresh node) × (new.now.schema ≡ old.now.schema)
owner_ok old new node params count is was h =
    let ran : Executes own_text (owner_given node) old new (Ok count) = subst (λ p. Executes own_text p old new (Ok count)) is h.0 in
    let order = was.holds.0 in
    let w = runs_as own_text (owner_given node) old new (store_schema order) was.holds.1 (Insert (about_tree order) (Values own_terms 4)) (own_is order) (own_plain order) count ran in
    let made = owner_made old.step_limit (statement_of own_text (understood (store_schema order) own_text)) node old.now new.now w.tally was.holds w.changed in
    (record { is_open = h.1.is_open; inside = h.1.mode; holds = made.0 }, made.1)

now_schema : (old : State) (order : TableOrder) → IsOpened old → old.committed.schema ≡ store_schema order → old.now.schema ≡ store_schema order
now_schema old order opened has = ap (λ (d : Database). d.schema) opened.settled ∙ has

-- a text that is plain under the schemas of both orders
abbrev pub IsPlainText : List ℕ → Type 0
IsPlainText sql = (order : TableOrder) → IsPlain (understood (store_schema order) sql)

here : (sql : List ℕ) (old : State) → IsOpened old → IsStoreSchema old.committed.schema → IsPlainText sql → IsPlain (understood old.now.schema sql)
here sql old opened has plain = subst (λ s. IsPlain (understood s sql)) (sym (now_schema old has.0 opened has.1)) (plain has.0)

pub asked_same : (sql : List ℕ) (old new : State) (rows : List Row) → IsOpened old → IsStoreSchema old.committed.schema → IsPlainText sql → Shown sql [] old new rows → IsUnchanged old new
asked_same sql old new rows opened has plain shown = shown_unchanged sql [] old new rows (here sql old opened has plain) shown

-- a crash within a query leaves what was committed
pub asked_crash : (sql : List ℕ) (old new : State) → IsOpened old → IsStoreSchema old.committed.schema → IsPlainText sql
    → ((db : Trees) → old.may_leave db → db ≡ old.committed.trees) → Survives old new (CommitsShowing sql [] old) → HasCleanDisk new → (db : Trees) → new.may_leave db → db ≡ old.committed.trees
asked_crash sql old new opened has plain only survives clean db left = elim (survives.crash clean db left) [
  | inl was ↦ only db was
  | inr commits ↦ absurd (never_commits sql [] old db (here sql old opened has plain) commits)
]

pub owner_found : (node : List ℕ) (old new : State) (rows : List Row) (owner : FileOwner) → IsOpened old → HasRows old.committed → Shown owner_text [] old new rows → IsOwnerIn node rows owner
    → IsOwner node old.committed owner
owner_found node old new rows owner opened has shown is =
    let order = has.0 in
    let query = owner_query (about_tree order) in
    let names = codes "format" ∷ codes "node" ∷ [] in
    let reads = reads_as owner_text [] old new (store_schema order) (now_schema old order opened has.1) (shows query names) (owner_is order).0 (owner_plain order) (owner_is order).1 rows shown in
    owner_told node names old.committed rows owner has (subst (λ db. Reads (shows query names) db [] rows) opened.settled reads) is

pub least_found : (old new : State) (rows : List Row) (found : Option ℤ) → IsOpened old → HasRows old.committed → Shown least_text [] old new rows → IsPlaceIn rows found → HasLeastOrGreatest false old.committed found
least_found old new rows found opened has shown is =
    let order = has.0 in
    let tree = entries_tree order in
    let query = first_row tree false in
    let names = codes "place" ∷ [] in
    let reads = reads_as least_text [] old new (store_schema order) (now_schema old order opened has.1) (shows query names) (least_is order).0 (least_plain order) (least_is order).1 rows shown in
    let placed = by_place false tree names old.committed rows (own_rows old.committed.trees order) (subst (λ db. Reads (shows query names) db [] rows) opened.settled reads) in
    (order, has.1, ended false (old.committed.trees tree) rows found has.2.entries placed is)

pub greatest_found : (old new : State) (rows : List Row) (found : Option ℤ) → IsOpened old → HasRows old.committed → Shown greatest_text [] old new rows → IsPlaceIn rows found → HasLeastOrGreatest true old.committed found
greatest_found old new rows found opened has shown is =
    let order = has.0 in
    let tree = entries_tree order in
    let query = first_row tree true in
    let names = codes "place" ∷ [] in
    let reads = reads_as greatest_text [] old new (store_schema order) (now_schema old order opened has.1) (shows query names) (greatest_is order).0 (greatest_plain order) (greatest_is order).1 rows shown in
    let placed = by_place true tree names old.committed rows (own_rows old.committed.trees order) (subst (λ db. Reads (shows query names) db [] rows) opened.settled reads) in
    (order, has.1, ended true (old.committed.trees tree) rows found has.2.entries placed is)
