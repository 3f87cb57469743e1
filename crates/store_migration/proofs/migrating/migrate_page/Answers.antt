use Rattle.std.proofs.Common.{◌≡◌, ◌+◌, ◌∙◌, ◌≤◌, ℕ, Err, IfErr, None, length, sym, ap, subst, subst₂, arith, rules}
use Rattle.sqlite.specs.Held.{state}
use Rattle.sqlite.specs.State.{HasCleanDisk}
use Rattle.sqlite.specs.Effect.{Database}
use Rattle.sqlite.specs.Tree.{Trees}
use Rattle.sqlite.proofs.StateLemmas.{survives_then}
use Rattle.sqlite.proofs.InsideLemmas.{keeps_then}
use Rattle.wire.specs.declared.record_format.RecordFormat.TheVariants.{One}
use Rattle.stores.specs.declared.fault.StoreFault.TheVariants.{Damaged}
use Rattle.stores.specs.Records.{IsDamagedIn}
use Rattle.store_tables.specs.Held.{slots_in}
use Rattle.store_migration.specs.Migrating.{IsMigrating}
use Rattle.store_tables.proofs.PlacesRead.{front}
use Rattle.store_tables.proofs.Steps.{was_clean}
use Rattle.store_migration.proofs.MigratingSteps.{nows, damaged_next, page_body, page_gap}
use Rattle.store_migration.proofs.migrating.migrate_page.Goals as goal

pub loop-at-init : goal.loop-at-init
loop-at-init g c =
    let old = state g.S.Store c.args.tx.now.conn.now in
    let mid = state g.S.Store c.rows_inside.new.tx.conn.now in
    let e = c.in-Ok.ensures in record {
      same = e.same_reference;
      survives = e.survives;
      kept = e.kept;
      within = e.inside;
      schema = λ clean. ap (λ (d : Database). d.schema) (e.same clean);
      read = λ clean.
          front c.args.first c.args.until old.now.trees c.deref.result.now c.deref-body-items.result.now c.requires.some (c.requires.inside (was_clean old mid _ e.survives clean)).holds.1
          (c.deref.ensures.value ∙ e.rows clean) (ap nows c.deref-body-items.ensures.value ∙ c.in_ok-bodies.ensures.ok);
      migrating = λ clean db fits m.
          let at : c.args.first ≡ c.args.first + 0 = omega arith in
          subst₂ (λ n t. IsMigrating n db t) at (sym (ap (λ (d : Database). d.trees) (e.same clean))) m;
    }

pub loop-at-preserved : goal.loop-at-preserved
loop-at-preserved g c =
    let old = state g.S.Store c.args.tx.now.conn.now in
    let mid = state g.S.Store c.loop-at.tx.conn.now in
    let new = state g.S.Store c.migrate_record.new.tx.conn.now in
    let e = c.in_ok-migrate_record.ensures in
    let before = c.loop-at.invariant in
    let early : HasCleanDisk new → HasCleanDisk mid = was_clean mid new _ e.survives in
    let bodies = c.deref-body-items.result.now in
    let k = c.loop-at.at in record {
      same = e.same_reference ∙ before.same;
      survives = survives_then old mid new _ _ (λ _. ⊥) (λ _ db none. none) (λ _ db none. none) before.survives e.survives;
      kept = λ clean. keeps_then old mid new (before.kept (early clean)) (e.kept clean);
      within = e.inside;
      schema = λ clean. e.schema clean ∙ before.schema (early clean);
      read = λ clean. before.read (early clean);
      migrating = λ clean db fits m.
          let on : c.args.first + k + 1 ≡ c.args.first + (k + 1) = omega arith in
          let here = page_body c.args.first c.args.until db old.now.trees bodies c.requires.some fits m (before.read (early clean)) k _ c.loop-at-test.true in
          subst (λ n. IsMigrating n db new.now.trees) on (e.migrating clean db here.0 (before.migrating (early clean) db fits m) here.1);
    }

pub returns-in_err-migrate_record-clause-damaged : goal.returns-in_err-migrate_record-clause-damaged
returns-in_err-migrate_record-clause-damaged g c clean =
    let old = state g.S.Store c.args.tx.now.conn.now in
    let mid = state g.S.Store c.loop-at.tx.conn.now in
    let new = state g.S.Store c.migrate_record.new.tx.conn.now in
    let e = c.in_err-migrate_record.ensures in
    let before = c.loop-at.invariant in
    let early = was_clean mid new _ e.survives clean in
    let bodies = c.deref-body-items.result.now in
    let k = c.loop-at.at in
    let same : c.from_residual-in_err-migrate_record.result ≡ Err c.in_err-migrate_record.field-0.0 = search rules in
    subst (λ r. IfErr r (λ e. (p : ℕ) → e ≡ Damaged p → (db : Trees) → c.args.until ≤ length (slots_in db) → IsMigrating c.args.first db old.now.trees → IsDamagedIn One p (slots_in db))) (sym same) (λ p is db fits m.
    let it = e.damaged p is in
    let here = page_body c.args.first c.args.until db old.now.trees bodies c.requires.some fits m (before.read early) k _ c.loop-at-test.true in
    subst (λ n. IsDamagedIn One n (slots_in db)) (sym it.0) (damaged_next (c.args.first + k) db mid.now.trees _ here.0 (before.migrating early db fits m) here.1 it.1))

pub returns-then-len-until-2-clause-damaged : goal.returns-then-len-until-2-clause-damaged
returns-then-len-until-2-clause-damaged g c clean p is db fits m =
    let old = state g.S.Store c.args.tx.now.conn.now in
    let now = state g.S.Store c.loop-at.tx.conn.now in
    let before = c.loop-at.invariant in
    let bodies = c.deref-body-items.result.now in
    let counted : length bodies ≡ length c.in_ok-bodies.bodies.items = ap length c.deref-body-items.ensures.value in
    let here = page_gap c.args.first c.args.until db old.now.trees bodies c.requires.some fits m (before.read clean) (omega (arith, counted)) in
    let at : c.loop-at.at ≡ length bodies = omega (arith, c.loop-at-test.false) in
    let found : c.args.first + c.len-then-len-until-2.result ≡ p = cc (is) in
    let same : c.args.first + length bodies ≡ p = omega (arith, counted, found) in
    subst (λ n. IsDamagedIn One n (slots_in db)) same
    (damaged_next (c.args.first + length bodies) db now.now.trees None here.0 (subst (λ n. IsMigrating (c.args.first + n) db now.now.trees) at (before.migrating clean db fits m)) here.1 tt)

pub returns-clause-migrating : goal.returns-clause-migrating
returns-clause-migrating g c clean db fits m =
    let now = state g.S.Store c.loop-at.tx.conn.now in
    let bodies = c.deref-body-items.result.now in
    let counted : length bodies ≡ length c.in_ok-bodies.bodies.items = ap length c.deref-body-items.ensures.value in
    let at : c.loop-at.at ≡ length bodies = omega (arith, c.loop-at-test.false) in
    let end : c.args.first + c.loop-at.at ≡ c.args.until = omega (arith, counted, at, c.requires.some) in
    subst (λ n. IsMigrating n db now.now.trees) end (c.loop-at.invariant.migrating clean db fits m)
