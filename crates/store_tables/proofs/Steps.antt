-- The state of a connection to a store after a statement.
use Rattle.std.proofs.Common.{◌≡◌, ◌⊎◌, inl, inr, ℕ, List, [], ◌∷◌, ◌++◌, length, false, None, Some, Option, Ok, Err, IsTrue, refl, sym, ap, subst, ◌∙◌, append_assoc, map, Result, arith}
use Rattle.std.proofs.lemmas.Bool.{cases_Bool}
use Rattle.sqlite.specs.Order.{Row}
use Rattle.sqlite.specs.Tree.{Trees}
use Rattle.sqlite.specs.Source.TheVariants.{Values}
use Rattle.sqlite.specs.Command.TheVariants.{Insert}
use Rattle.sqlite.specs.Effect.{Database}
use Rattle.sqlite.specs.Clock.{timed}
use Rattle.sqlite_resolve.specs.declared.compiled.Compiled.{Compiled}
use Rattle.sqlite_schema.specs.declared.command.Returning.{Returning}
use Rattle.sqlite.specs.Given.{IsPlain}
use Rattle.sqlite.specs.Listing.{understood}
use Rattle.sqlite.specs.declared.error.Error.{Error}
use Rattle.sqlite.specs.State.{State, HasCleanDisk, Survives, IsUnchanged, IsRolledBack, ShowsRows, FailsToShow, FailsToQuery, Shown, ExecutesIn, Executes, ExecutesInside, KeepsCommit, IsNotRun, shows_rows}
use Rattle.sqlite.proofs.Callers.{statement_of, runs_as}
use Rattle.std.proofs.lemmas.List.{map-append}
use Rattle.wire.specs.declared.record_format.RecordFormat.{RecordFormat}
use Rattle.store_tables.specs.Tables.{store_schema, order_in, entries_tree}
use Rattle.store_tables.specs.Held.{slots_in, IsReadyIn, IsReady, IsInside, HasMore, HasAllOrNone, IsStoreIn}
use Rattle.store_tables.proofs.Texts.{insert_text, insert_terms, insert_is, insert_plain}
use Rattle.store_tables.proofs.Inserting.{given, inserted}

-- a statement that failed left the connection as it was, or rolled it back
pub left : (sql : List ℕ) (params : Row) (old new : State) (e : Error) → Executes sql params old new (Err e) → IsUnchanged old new ⊎ IsRolledBack old new
unfolding ExecutesIn IsNotRun
left sql params old new e (inl (inl none)) = inl none.1
left sql params old new e (inl (inr fails)) = inr fails.3
left sql params old new e (inr h) = elim (cases_Bool (shows_rows false h.0)) [
  | inl shows ↦ inl ((rw shows at h.2).1)
  | inr runs ↦ elim (rw runs at h.2) [
    | inl refused ↦ inl refused.1
    | inr fails ↦ inr fails.3
  ]
]

pub still_ready : {format : RecordFormat} (old new : State) → IsReadyIn format old → IsTrue new.is_open → new.in_transaction ≡ false → new.now ≡ old.committed → new.committed ≡ old.committed → IsReadyIn format new
still_ready {format} old new ready still idle now same = record {
  is_open = still;
  idle = idle;
  settled = now ∙ sym same;
  schema = subst (λ (d : Database). d.schema ≡ store_schema (order_in d.trees)) (sym same) ready.schema;
  store = subst (λ (d : Database). IsStoreIn format d.trees) (sym same) ready.store;
}

pub now_schema : (old : State) → IsReady old → old.now.schema ≡ store_schema (order_in old.committed.trees)
now_schema old ready = ap (λ (d : Database). d.schema) ready.settled ∙ ready.schema

pub was_clean : (old new : State) (P : Trees → Type 0) → Survives old new P → HasCleanDisk new → HasCleanDisk old
was_clean old new P survives clean = omega (arith, survives.clean)

pub put_ok : (old new : State) (params : Row) (body : List ℕ) (count : ℕ) → params ≡ given (length (slots_in old.now.trees)) body → IsInside old → ExecutesInside 0 insert_text params old new (Ok count)
    → IsInside new × HasMore old.now.trees (body ∷ []) new.now.trees
put_ok old new params body count is ready h =
    let order = order_in old.now.trees in
    let ran : Executes insert_text (given (length (slots_in old.now.trees)) body) old new (Ok count) = subst (λ p. Executes insert_text p old new (Ok count)) is h.0 in
    let w = runs_as insert_text (given (length (slots_in old.now.trees)) body) old new (store_schema order) ready.schema (Insert (entries_tree order) (Values insert_terms 3)) (insert_is order) (insert_plain order) count ran in
    let made = inserted old.step_limit (statement_of insert_text (understood (store_schema order) insert_text)) body old.now new.now w.tally ready.schema ready.store w.changed in
    (record { is_open = h.1.is_open; inside = h.1.mode; schema = made.0; store = made.1.store }, made.1)

unchanged_keeps : (old new : State) → IsUnchanged old new → KeepsCommit old new
unchanged_keeps old new same = record { was_open = λ _. same.0.was_open; committed = λ _. same.0.committed_is }

rolled_keeps : (old new : State) → IsRolledBack old new → KeepsCommit old new
rolled_keeps old new back = record { was_open = back.was_open; committed = λ still. (back.undone still).1 }

pub moved_keeps : (old new : State) → IsUnchanged old new ⊎ IsRolledBack old new → KeepsCommit old new
moved_keeps old new (inl same) = unchanged_keeps old new same
moved_keeps old new (inr back) = rolled_keeps old new back

pub inside_keeps : (sql : List ℕ) (params : Row) (old new : State) (r : Result ℕ Error) → ExecutesInside 0 sql params old new r → KeepsCommit old new
inside_keeps sql params old new (Ok count) h = record { was_open = λ _. h.1.was_open; committed = λ _. h.1.committed_is }
inside_keeps sql params old new (Err e) (inl h) = elim (h.1) [
  | inl same ↦ unchanged_keeps old new same
  | inr back ↦ rolled_keeps old new back
]
inside_keeps sql params old new (Err e) (inr h) = unchanged_keeps old new h.2

pub more_then : (a b c : Trees) (xs ys : List (List ℕ)) → HasMore a xs b → HasMore b ys c → HasMore a (xs ++ ys) c
more_then a b c xs ys p q =
    let some : List ℕ → Option (List ℕ) = λ body. Some body in record {
      store = q.store;
      node = q.node ∙ p.node;
      slots = q.slots ∙ ap (λ z. z ++ map some ys) p.slots ∙ append_assoc (slots_in a) (map some xs) (map some ys) ∙ ap (λ z. slots_in a ++ z) (sym (map-append some xs ys));
    }

pub after_crash : (old new : State) (batch : List (List ℕ)) (made : Trees) → IsReady old → ((db : Trees) → old.may_leave db → db ≡ old.committed.trees) → HasMore old.now.trees batch made
    → Survives old new (λ db. db ≡ made) → HasCleanDisk new → (db : Trees) → new.may_leave db → HasAllOrNone old.committed.trees batch db
after_crash old new batch made ready only more survives clean db left = elim (survives.crash clean db left) [
  | inl was ↦ subst (HasAllOrNone old.committed.trees batch) (sym (only db was)) (record { store = ready.store; node = refl; slots = inl refl })
  | inr is ↦ let it = subst (λ (d : Database). HasMore d.trees batch made) ready.settled more in
      subst (HasAllOrNone old.committed.trees batch) (sym is) (record { store = it.store; node = it.node; slots = inr it.slots })
]

left_shown : (old new : State) (sql : List ℕ) (c : Compiled) (params : Row) (e : Error) (returning : Option Returning) → FailsToShow old new sql c params e returning → IsUnchanged old new ⊎ IsRolledBack old new
left_shown old new sql c params e None h = inl h.3
left_shown old new sql c params e (Some what) (inl refused) = inl refused.1
left_shown old new sql c params e (Some what) (inr fails) = inr fails.3

-- a query that failed left the connection as it was, or rolled it back
pub left_by_query : (sql : List ℕ) (params : Row) (old new : State) (e : Error) → FailsToQuery sql params old new e → IsUnchanged old new ⊎ IsRolledBack old new
unfolding FailsToQuery IsNotRun
left_by_query sql params old new e (inl (inl none)) = inl none.1
left_by_query sql params old new e (inl (inr fails)) = inr fails.3
left_by_query sql params old new e (inr h) = left_shown old new sql h.0 _ e h.0.returning h.2

pub kept_by : (old new : State) → IsReady old → IsUnchanged old new ⊎ IsRolledBack old new → IsTrue new.is_open → IsReady new × (new.committed ≡ old.committed)
kept_by old new ready (inl same) still = (still_ready old new ready still (same.0.mode ∙ ready.idle) (same.0.now_is ∙ ready.settled) same.0.committed_is, same.0.committed_is)
kept_by old new ready (inr back) still = (still_ready old new ready still back.autocommit (back.undone still).0 (back.undone still).1, (back.undone still).1)

pub shown_unchanged : (sql : List ℕ) (params : Row) (old new : State) (rows : List Row) → IsPlain (understood old.now.schema sql) → Shown sql params old new rows → IsUnchanged old new
unfolding Shown
shown_unchanged sql params old new rows plain h =
    let none = (subst IsPlain h.1.is plain).0 in
    (subst (ShowsRows old new sql h.0 (timed params h.0.formats h.1.now) rows) none h.2).3
