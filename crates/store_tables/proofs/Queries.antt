-- The state of a connection to a store after a query for a stretch of places.
use Rattle.std.proofs.Common.{◌≡◌, inl, inr, ℕ, List, sym, subst}
use Rattle.sqlite.specs.Order.{Row}
use Rattle.sqlite.specs.Tree.{Trees}
use Rattle.sqlite.specs.Effect.{Database, Reads}
use Rattle.sqlite.specs.Given.{IsPlain}
use Rattle.sqlite.specs.Listing.{understood}
use Rattle.sqlite.specs.State.{State, HasCleanDisk, Survives, IsUnchanged, Shown, CommitsShowing}
use Rattle.sqlite.proofs.Callers.{reads_as, never_commits}
use Rattle.store_tables.specs.Tables.{store_schema, order_in, entries_tree, entry_rows}
use Rattle.store_tables.specs.Pages.{rows_within}
use Rattle.wire.specs.declared.record_format.RecordFormat.{RecordFormat}
use Rattle.store_tables.specs.Held.{IsReady}
use Rattle.store_tables.specs.Within.{IsWithin, HasStore}
use Rattle.store_tables.proofs.Answering.{between, page-shows}
use Rattle.store_tables.proofs.Orders.{own_rows}
use Rattle.store_tables.proofs.PageTexts.{page_text, page_command, page_is, page_plain}
use Rattle.store_tables.proofs.Steps.{now_schema, shown_unchanged}

is-plain : (old : State) → IsReady old → IsPlain (understood old.now.schema page_text)
is-plain old ready = subst (λ s. IsPlain (understood s page_text)) (sym (now_schema old ready)) (page_plain (order_in old.committed.trees))

pub query-ok : (old new : State) (first last : ℕ) (rows : List Row) → IsReady old → Shown page_text (between first last) old new rows
    → (rows ≡ rows_within first last (entry_rows old.committed.trees)) × IsUnchanged old new
query-ok old new first last rows ready h =
    let order = order_in old.committed.trees in
    let tree = entries_tree order in
    let reads = reads_as page_text (between first last) old new (store_schema order) (now_schema old ready) (page_command tree) (page_is order).0 (page_plain order) (page_is order).1 rows h in
    let seen = subst (λ (d : Database). Reads (page_command tree) d (between first last) rows) ready.settled reads in
    (page-shows first last tree old.committed rows (own_rows old.committed.trees order) ready.store.entries seen, shown_unchanged page_text (between first last) old new rows (is-plain old ready) h)

pub query-crash : (old new : State) (first last : ℕ) → IsReady old → ((db : Trees) → old.may_leave db → db ≡ old.committed.trees)
    → Survives old new (CommitsShowing page_text (between first last) old) → HasCleanDisk new → (db : Trees) → new.may_leave db → db ≡ old.committed.trees
query-crash old new first last ready only survives clean db left = elim (survives.crash clean db left) [
  | inl was ↦ only db was
  | inr commits ↦ absurd (never_commits page_text (between first last) old db (is-plain old ready) commits)
]

-- the same within a transaction, for the database that it sees
pub query-inside : {format : RecordFormat} (old new : State) (first last : ℕ) (rows : List Row) → IsWithin old (HasStore format) → Shown page_text (between first last) old new rows
    → (rows ≡ rows_within first last (entry_rows old.now.trees)) × IsUnchanged old new
query-inside old new first last rows within h =
    let order = order_in old.now.trees in
    let tree = entries_tree order in
    let plain = subst (λ s. IsPlain (understood s page_text)) (sym within.holds.0) (page_plain order) in
    let reads = reads_as page_text (between first last) old new (store_schema order) within.holds.0 (page_command tree) (page_is order).0 (page_plain order) (page_is order).1 rows h in
    (page-shows first last tree old.now rows (own_rows old.now.trees order) within.holds.1.entries reads, shown_unchanged page_text (between first last) old new rows plain h)
