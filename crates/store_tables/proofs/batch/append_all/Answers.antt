use Rattle.std.proofs.Common.{arith, ◌≡◌, List, ℕ, inl, inr, map, refl, subst, sym, rules}
use Rattle.std.proofs.lemmas.Grind.{common_steps}
use Rattle.sqlite.specs.State.{HasCleanDisk, State, Survives}
use Rattle.sqlite.specs.Held.{state}
use Rattle.sqlite.specs.Tree.{Trees}
use Rattle.sqlite.proofs.StateLemmas.{survives_then}
use Rattle.sqlite.proofs.Callers.{survives_begin}
use Rattle.stores.specs.Bodies.{items}
use Rattle.store_tables.specs.Held.{HasAllOrNone, HasMore, IsReady}
use Rattle.store_tables.proofs.Steps.{was_clean, after_crash}
use Rattle.store_tables.proofs.batch.append_all.Goals as goal

pub returns-clause-crash : goal.returns-clause-crash
returns-clause-crash g c clean db left =
    let held = c.args.conn.now in
    let old = state g.S.Store held in
    let mid = state g.S.Store c.put_all.new.tx.conn.now in
    let end = state g.S.Store c.commit.new.self.0 in
    let same : c.commit.new.self.0 ≡ c.conn-2-1.given.0 = search rules in
    let late : HasCleanDisk end = search rules in
    let batch = map items c.args.batch.now in
    let begun = c.transaction-tx.ensures.begun in
    let inside = survives_begin g.S.Store held mid _ (rw begun at c.put_all.ensures.survives) in
    let whole = survives_then old mid end _ _ (λ (t : Trees). t ≡ mid.now.trees) (λ _ t none. absurd none) (λ _ t is. is) inside c.commit.ensures.survives in
    let early = was_clean old end _ whole late in
    let ready = c.requires.ready early in
    let more : HasMore old.now.trees batch mid.now.trees = rw begun at (c.in_ok-put_all.ensures.more (was_clean mid end _ c.commit.ensures.survives late)) in
    after_crash old end batch mid.now.trees ready (λ t. g.met.S.Store.settled held.store t ready.is_open) more whole late db (subst (λ h. (state g.S.Store h).may_leave db) (sym same) left)

-- after a batch that was given up, a crash leaves nothing of it
none_of : (old new : State) (batch : List (List ℕ)) → IsReady old → ((db : Trees) → old.may_leave db → db ≡ old.committed.trees) → Survives old new (λ _. ⊥) → HasCleanDisk new
    → (db : Trees) → new.may_leave db → HasAllOrNone old.committed.trees batch db
none_of old new batch ready only survives clean db left = elim (survives.crash clean db left) [
  | inl was ↦ subst (HasAllOrNone old.committed.trees batch) (sym (only db was)) (record { store = ready.store; node = refl; slots = inl refl })
  | inr made ↦ absurd made
]

pub returns-in_err-put_all-clause-crash : goal.returns-in_err-put_all-clause-crash
returns-in_err-put_all-clause-crash g c clean db left =
    let held = c.args.conn.now in
    let old = state g.S.Store held in
    let mid = state g.S.Store c.put_all.new.tx.conn.now in
    let end = state g.S.Store c.drop-tx.new.self.0 in
    let same : c.drop-tx.new.self.0 ≡ c.conn-1.given.0 = search rules in
    let late : HasCleanDisk end = search rules in
    let begun = c.transaction-tx.ensures.begun in
    let inside = survives_begin g.S.Store held mid _ (rw begun at c.put_all.ensures.survives) in
    let whole = survives_then old mid end _ _ (λ (t : Trees). ⊥) (λ _ t none. none) (λ _ t none. none) inside c.drop-tx.ensures.survives in
    let ready = c.requires.ready (was_clean old end _ whole late) in
    none_of old end (map items c.args.batch.now) ready (λ t. g.met.S.Store.settled held.store t ready.is_open) whole late db (subst (λ h. (state g.S.Store h).may_leave db) (sym same) left)

pub returns-clause-ready : goal.returns-clause-ready
returns-clause-ready g c = grind arith

pub returns-clause-full : goal.returns-clause-full
returns-clause-full g c = grind (arith, common_steps)
