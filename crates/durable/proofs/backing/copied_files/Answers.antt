use Rattle.std.proofs.Common.{◌≡◌, IsTrue, ap, subst, ◌∙◌, arith}
use Rattle.std.proofs.Math.Logic.{∥∥₁_map}
use Rattle.sqlite_disk.specs.declared.Disk.{Ghosts}
use Rattle.sqlite.specs.Recovery.{Image}
use Rattle.sqlite.specs.WalFiles.{outcomes}
use Rattle.sqlite.specs.WalReads.{AreClean}
use Rattle.sqlite_wal.proofs.StateLemmas.{open_from}
use Rattle.sqlite_pool.proofs.StateLemmas.{clean_is, may_leave_is}
use Rattle.sqlite.specs.Tree.{Trees}
use Rattle.sqlite.specs.View.{View, IsClean}
use Rattle.sqlite_trees.proofs.Doubt.{clean_of as sure, no_doubt}
use Rattle.sqlite_store.specs.declared.store.FileStore.{FileStore}
use Rattle.sqlite_store.specs.Calls.{IsQuietCall}
use Rattle.sqlite.specs.FileStore.{state, view, recovers}
use Rattle.sqlite.specs.Held.{AreDatabases}
use Rattle.sqlite.specs.Closing.{HoldsAlone}
use Rattle.sqlite.proofs.Theorems.{copied}
use Rattle.durable.proofs.Reopening.{found-again, holds-again, honest-before}
use Rattle.durable.proofs.backing.copied_files.Goals as goal

pub returns-in-Ok-clause-copied : goal.returns-in-Ok-clause-copied
returns-in-Ok-clause-copied g c honest =
    let back = c.into_store-database.result in
    let before = c.rollback.new.self in
    let last = c.checkpoint.new.self in
    let q = c.checkpoint.ensures.quiet in
    let stays = g.met.D.Disk.seen_may_stay in
    let sure_now = subst (λ p. AreClean g.D.Disk p.0 p.1) c.close.ensures honest in
    let none : IsClean (view last) = no_doubt _ (clean_is last.pool ∙ sure_now) in
    let clean : IsClean (view before) = omega (arith, q.clean) in
    let early : IsClean (view back) = omega (arith, c.rollback.ensures.quiet.clean) in
    let h = open_from (state before) c.in-Ok.ensures.ready (sure (view before).is_clean clean) in
    let second = c.rollback.ensures.undone.kept clean in
    let first = c.into_store-database.ensures.undone.kept early in
    let on = c.in-Ok.ensures.open none in
    let same = c.checkpoint.ensures.same on in
    let numbered : IsTrue (view last).is_numbered = ap (λ (v : View). v.is_numbered) same ∙ c.rollback.ensures.undone.numbered ∙ c.into_store-database.ensures.numbered early in
    let committed : (view last).committed ≡ (view c.args.conn.store).committed = ap (λ (v : View). v.committed) same ∙ second.committed h ∙ first.committed (second.was_open h) in
    let each = λ (image : Image) (may : outcomes g.D.Disk c.close.result.log c.close.result.db image).
    subst (HoldsAlone image) committed (copied last stays on numbered
    (λ db found. c.into_store-database.ensures.sound early db (c.rollback.ensures.quiet.outcomes db (q.outcomes db found)))
    (c.in-Ok.ensures.moved (c.rollback.ensures.logged (second.was_open h))) image
    (may_leave_is last.pool image sure_now (subst (λ p. outcomes g.D.Disk p.0 p.1 image) c.close.ensures may))) in
    record {
      was_clean = omega (arith, c.into_store-database.ensures.quiet.clean);
      was_open = first.was_open (second.was_open h);
      seen = each _ (stays _, stays _);
      left = each;
    }

pub returns-in-Err-clause-honest : goal.returns-in-Err-clause-honest
returns-in-Err-clause-honest g c = λ honest.
    let late = honest-before c.checkpoint.new.self c.close-in-Err.result c.close-in-Err.ensures honest in
    omega (arith, c.into_store-database.ensures.quiet.clean, c.rollback.ensures.quiet.clean, c.checkpoint.ensures.quiet.clean, late)

-- a store that is still open is numbered as it was, and holds nothing else
module _ {D : Type 0} {g : Ghosts D} (back before last : FileStore D g) (first : IsQuietCall back before) (second : IsQuietCall before last) where
  abbrev early : IsClean (view last) → IsClean (view back)
  early late = omega (arith, first.clean, second.clean, late)

  still-numbered : (IsClean (view last) → IsTrue (view last).is_open) → (IsTrue (view last).is_open → view last ≡ view before) → (view before).is_numbered ≡ (view back).is_numbered
      → (IsClean (view back) → IsTrue (view back).is_numbered) → IsClean (view last) → IsTrue (view last).is_numbered
  still-numbered is_open same kept numbered late = ap (λ (v : View). v.is_numbered) (same (is_open late)) ∙ kept ∙ numbered (early late)

  still-sound : (IsClean (view back) → AreDatabases (recovers back)) → IsClean (view last) → AreDatabases (recovers last)
  still-sound sound late db found = sound (early late) db (first.outcomes db (second.outcomes db found))

  was-there : (made : Trees → Type 0) → ((db : Trees) → recovers back db → made db) → (db : Trees) → recovers last db → made db
  was-there made old db found = old db (first.outcomes db (second.outcomes db found))

pub returns-in-Err-clause-left : goal.returns-in-Err-clause-left
returns-in-Err-clause-left g c = λ stays db found.
    let made = c.into_store-database in
    let middle = c.rollback.new.self in
    let last = c.checkpoint.new.self in
    let q = c.rollback.ensures.quiet in
    let r = c.checkpoint.ensures.quiet in
    ∥∥₁_map (found-again last c.close-in-Err.result c.close-in-Err.ensures
    (still-numbered made.result middle last q r (c.fault_of_copying-fault.ensures.open stays) c.checkpoint.ensures.same c.rollback.ensures.undone.numbered made.ensures.numbered)
    (still-sound made.result middle last q r made.ensures.sound) db found)
    (was-there made.result middle last q r (recovers c.args.conn.store) made.ensures.quiet.outcomes db)

pub returns-in-Err-clause-holds : goal.returns-in-Err-clause-holds
returns-in-Err-clause-holds g c = λ stays honest image there.
    let made = c.into_store-database in
    let middle = c.rollback.new.self in
    let last = c.checkpoint.new.self in
    let q = c.rollback.ensures.quiet in
    let r = c.checkpoint.ensures.quiet in
    ∥∥₁_map (holds-again last c.close-in-Err.result c.close-in-Err.ensures
    (still-numbered made.result middle last q r (c.fault_of_copying-fault.ensures.open stays) c.checkpoint.ensures.same c.rollback.ensures.undone.numbered made.ensures.numbered)
    (still-sound made.result middle last q r made.ensures.sound) honest image there)
    (λ held. (held.0, was-there made.result middle last q r (recovers c.args.conn.store) made.ensures.quiet.outcomes held.0 held.1, held.2))
