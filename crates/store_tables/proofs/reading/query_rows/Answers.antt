use Rattle.std.proofs.Common.{◌≡◌, ◌⊎◌, inl, Ok, Err, Result, Vec, Global, ℕ, OnOk, IfOk, IfErr, IsTrue, [], ◌∷◌, subst, ap₂, to_z, w64, arith}
use Rattle.std.proofs.lemmas.Int.{ints}
use Rattle.sqlite.specs.State.{HasCleanDisk, State, Survives, IsUnchanged, IsRolledBack, Shown, FailsToQuery, CommitsShowing}
use Rattle.sqlite.specs.Held.{state}
use Rattle.sqlite.specs.Order.{Row}
use Rattle.sqlite.specs.declared.types.Value.TheVariants.{Int}
use Rattle.sqlite.specs.declared.error.Error.{Error}
use Rattle.sqlite.specs.declared.rows.Row.{Row as Answer}
use Rattle.store_tables.specs.Held.{IsReady}
use Rattle.store_tables.specs.Pages.{rows_within}
use Rattle.store_tables.specs.Tables.{entry_rows}
use Rattle.store_tables.proofs.Answering.{between}
use Rattle.store_tables.proofs.PageTexts.{page_text}
use Rattle.store_tables.proofs.Queries.{query-ok, query-crash}
use Rattle.store_tables.proofs.Steps.{left_by_query, kept_by, was_clean}
use Rattle.store_tables.proofs.reading.query_rows.Goals as goal

abbrev old : (g : _) → goal.After-query_all g → State
old g c = state g.S.Store c.args.conn.now

abbrev new : (g : _) → goal.After-query_all g → State
new g c = state g.S.Store c.query_all.new.self

abbrev Leaves : ℕ → ℕ → State → State → Result (Vec Answer Global) Error → Type 0
Leaves first last a b (Ok rows) = (rows.items ≡ rows_within first last (entry_rows a.committed.trees)) × IsUnchanged a b
Leaves first last a b (Err e) = IsUnchanged a b ⊎ IsRolledBack a b

leaves : (first last : ℕ) (params : Row) (a b : State) (r : Result (Vec Answer Global) Error) → params ≡ between first last → IsReady a → IfOk r (λ rows. Shown page_text params a b rows.items) → IfErr r (FailsToQuery page_text params a b)
    → Leaves first last a b r
leaves first last params a b (Ok rows) is ready ok err = query-ok a b first last rows.items ready (subst (λ p. Shown page_text p a b rows.items) is ok)
leaves first last params a b (Err e) is ready ok err = left_by_query page_text params a b e err

moved : (first last : ℕ) (a b : State) (r : Result (Vec Answer Global) Error) → Leaves first last a b r → IsUnchanged a b ⊎ IsRolledBack a b
moved first last a b (Ok rows) h = inl h.1
moved first last a b (Err e) h = h

params-are : (g : _) (c : goal.After-query_all g) → Int (to_z w64 c.args.first) ∷ Int (to_z w64 c.args.last) ∷ [] ≡ between c.args.first c.args.last
params-are g c = ap₂ (λ a b. Int a ∷ Int b ∷ []) (grind (arith, ints, c.requires.first)) (grind (arith, ints, c.requires.last))

it : (g : _) (c : goal.After-query_all g) → HasCleanDisk (new g c) → Leaves c.args.first c.args.last (old g c) (new g c) c.query_all.result
it g c clean =
    let early = was_clean (old g c) (new g c) _ c.query_all.ensures.survives clean in
    leaves c.args.first c.args.last _ (old g c) (new g c) c.query_all.result (params-are g c) (c.requires.ready early) (c.query_all.ensures.ok clean) (c.query_all.ensures.err clean)

rows-are : (first last : ℕ) (a b : State) (r : Result (Vec Answer Global) Error) → Leaves first last a b r → IfOk r (λ rows. rows.items ≡ rows_within first last (entry_rows a.committed.trees))
rows-are first last a b (Ok rows) h = h.0
rows-are first last a b (Err e) h = tt

still-open : (first last : ℕ) (a b : State) (r : Result (Vec Answer Global) Error) → Leaves first last a b r → OnOk r (IsTrue b.is_open)
still-open first last a b (Ok rows) h = h.1.0.is_open
still-open first last a b (Err e) h = tt

pub returns-clause-rows : goal.returns-clause-rows
returns-clause-rows g c clean = rows-are c.args.first c.args.last (old g c) (new g c) c.query_all.result (it g c clean)

pub returns-clause-open : goal.returns-clause-open
returns-clause-open g c clean = still-open c.args.first c.args.last (old g c) (new g c) c.query_all.result (it g c clean)

pub returns-clause-kept : goal.returns-clause-kept
returns-clause-kept g c clean still =
    let early = was_clean (old g c) (new g c) _ c.query_all.ensures.survives clean in
    kept_by (old g c) (new g c) (c.requires.ready early) (moved c.args.first c.args.last (old g c) (new g c) c.query_all.result (it g c clean)) still

pub returns-clause-crash : goal.returns-clause-crash
returns-clause-crash g c clean =
    let early = was_clean (old g c) (new g c) _ c.query_all.ensures.survives clean in
    let ready = c.requires.ready early in
    query-crash (old g c) (new g c) c.args.first c.args.last ready (λ db. g.met.S.Store.settled c.args.conn.now.store db ready.is_open)
    (subst (λ p. Survives (old g c) (new g c) (CommitsShowing page_text p (old g c))) (params-are g c) c.query_all.ensures.survives) clean
