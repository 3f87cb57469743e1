use Rattle.std.proofs.Common.{◌≡◌, ◌<◌, ℕ, [], subst, arith}
use Rattle.sqlite_catalog.specs.Listing.{IsSound}
use Rattle.durable.proofs.Found.{rows_of, none_of}
use Rattle.durable.proofs.opening.tables_in.Goals as goal

pub returns-clause-rows : goal.returns-clause-rows
returns-clause-rows g c still has =
    let store = c.args.conn.now.store in
    let v = g.S.Store.view store in
    let whole = c.is_whole.ensures.whole still in
    (has.0, has.1, rows_of has.0 v (g.met.S.Alter.listed store whole) (g.met.S.Store.ordered store whole) (subst (λ s. IsSound s v.trees) has.1 (c.schema.ensures.live still).0))

pub returns-clause-bare : goal.returns-clause-bare
returns-clause-bare g c still has =
    let store = c.args.conn.now.store in
    let v = g.S.Store.view store in
    let whole = c.is_whole.ensures.whole still in
    let none : (tree : ℕ) → tree < 2 → v.trees tree ≡ [] =
    λ tree low. none_of tree low v (g.met.S.Alter.listed store whole) (g.met.S.Store.ordered store whole) (subst (λ s. IsSound s v.trees) has (c.schema.ensures.live still).0) in
    (none 0 (omega arith), none 1 (omega arith))
