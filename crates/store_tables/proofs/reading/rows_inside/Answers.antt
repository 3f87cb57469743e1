use Rattle.std.proofs.Common.{◌≡◌, ◌⊎◌, inl, inr, Ok, Err, Result, Vec, Global, ℕ, OnOk, IfOk, IfErr, [], ◌∷◌, subst, sym, ◌∙◌, ap₂, to_z, w64, arith}
use Rattle.std.proofs.lemmas.Int.{ints}
use Rattle.sqlite.specs.State.{HasCleanDisk, State, IsUnchanged, IsRolledBack, Shown, FailsToQuery, IsTooLate, KeepsCommit}
use Rattle.sqlite.specs.Held.{state}
use Rattle.sqlite.specs.Order.{Row}
use Rattle.sqlite.specs.declared.types.Value.TheVariants.{Int}
use Rattle.sqlite.specs.declared.error.Error.{Error}
use Rattle.sqlite.specs.declared.rows.Row.{Row as Answer}
use Rattle.wire.specs.declared.record_format.RecordFormat.TheVariants.{One}
use Rattle.store_tables.specs.Within.{IsWithin, HasStore}
use Rattle.store_tables.specs.Pages.{rows_within}
use Rattle.store_tables.specs.Tables.{entry_rows}
use Rattle.store_tables.proofs.Answering.{between}
use Rattle.store_tables.proofs.PageTexts.{page_text}
use Rattle.store_tables.proofs.Queries.{query-inside}
use Rattle.store_tables.proofs.Steps.{left_by_query, moved_keeps, was_clean}
use Rattle.store_tables.proofs.reading.rows_inside.Goals as goal

abbrev old : (g : _) → goal.After-query_all g → State
old g c = state g.S.Store c.args.tx.now.conn.now

abbrev new : (g : _) → goal.After-query_all g → State
new g c = state g.S.Store c.query_all.new.self.conn.now

abbrev Leaves : ℕ → ℕ → State → State → Result (Vec Answer Global) Error → Type 0
Leaves first last a b (Ok rows) = (rows.items ≡ rows_within first last (entry_rows a.now.trees)) × IsUnchanged a b
Leaves first last a b (Err e) = IsUnchanged a b ⊎ IsRolledBack a b

leaves : (first last : ℕ) (params : Row) (a b : State) (r : Result (Vec Answer Global) Error) → params ≡ between first last → IsWithin a (HasStore One) → IfOk r (λ rows. Shown page_text params a b rows.items)
    → IfErr r (λ e. FailsToQuery page_text params a b e ⊎ IsTooLate page_text params a b e) → Leaves first last a b r
leaves first last params a b (Ok rows) is within ok err = query-inside a b first last rows.items within (subst (λ p. Shown page_text p a b rows.items) is ok)
leaves first last params a b (Err e) is within ok (inl fails) = left_by_query page_text params a b e fails
leaves first last params a b (Err e) is within ok (inr late) = inl late.5

params-are : (g : _) (c : goal.After-query_all g) → Int (to_z w64 c.args.first) ∷ Int (to_z w64 c.args.last) ∷ [] ≡ between c.args.first c.args.last
params-are g c = ap₂ (λ a b. Int a ∷ Int b ∷ []) (grind (arith, ints, c.requires.first)) (grind (arith, ints, c.requires.last))

it : (g : _) (c : goal.After-query_all g) → HasCleanDisk (new g c) → Leaves c.args.first c.args.last (old g c) (new g c) c.query_all.result
it g c clean =
    let early = was_clean (old g c) (new g c) _ c.query_all.ensures.survives clean in
    leaves c.args.first c.args.last _ (old g c) (new g c) c.query_all.result (params-are g c) (c.requires.inside early) (c.query_all.ensures.ok clean) (c.query_all.ensures.err clean)

rows-are : (first last : ℕ) (a b : State) (r : Result (Vec Answer Global) Error) → Leaves first last a b r → IfOk r (λ rows. rows.items ≡ rows_within first last (entry_rows a.now.trees))
rows-are first last a b (Ok rows) h = h.0
rows-are first last a b (Err e) h = tt

still-within : (first last : ℕ) (a b : State) (r : Result (Vec Answer Global) Error) → Leaves first last a b r → IsWithin a (HasStore One) → OnOk r (IsWithin b (HasStore One))
still-within first last a b (Ok rows) h within = record { is_open = h.1.0.is_open; inside = h.1.0.mode ∙ within.inside; holds = subst (HasStore One) (sym h.1.0.now_is) within.holds }
still-within first last a b (Err e) h within = tt

same-now : (first last : ℕ) (a b : State) (r : Result (Vec Answer Global) Error) → Leaves first last a b r → OnOk r (b.now ≡ a.now)
same-now first last a b (Ok rows) h = h.1.0.now_is
same-now first last a b (Err e) h = tt

keeps : (first last : ℕ) (a b : State) (r : Result (Vec Answer Global) Error) → Leaves first last a b r → KeepsCommit a b
keeps first last a b (Ok rows) h = moved_keeps a b (inl h.1)
keeps first last a b (Err e) h = moved_keeps a b h

pub returns-clause-rows : goal.returns-clause-rows
returns-clause-rows g c clean = rows-are c.args.first c.args.last (old g c) (new g c) c.query_all.result (it g c clean)

pub returns-clause-inside : goal.returns-clause-inside
returns-clause-inside g c clean =
    let early = was_clean (old g c) (new g c) _ c.query_all.ensures.survives clean in
    still-within c.args.first c.args.last (old g c) (new g c) c.query_all.result (it g c clean) (c.requires.inside early)

pub returns-clause-same : goal.returns-clause-same
returns-clause-same g c clean = same-now c.args.first c.args.last (old g c) (new g c) c.query_all.result (it g c clean)

pub returns-clause-kept : goal.returns-clause-kept
returns-clause-kept g c clean = keeps c.args.first c.args.last (old g c) (new g c) c.query_all.result (it g c clean)
