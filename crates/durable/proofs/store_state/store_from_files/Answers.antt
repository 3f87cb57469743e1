use Rattle.std.proofs.Common.{◌≡◌, Result, Ok, Err, IfOk, IfErr, IsTrue, List, ℕ, inr, subst, rules}
use Rattle.std.proofs.lemmas.Result.{err_from_is_err_and}
use Rattle.sqlite.specs.Files.{over_files, file_state}
use Rattle.sqlite.specs.State.{HasCleanDisk}
use Rattle.sqlite.specs.Tree.{Trees}
use Rattle.sqlite.specs.WalReads.{AreClean}
use Rattle.units.specs.Code.{node_text}
use Rattle.durable.specs.Backing.{IsFound, Hold}
use Rattle.durable.specs.Connected as connected
use Rattle.store_tables.specs.Held.{node_in}
use Rattle.store_migration.specs.Migrating.{IsOpenedAs}
use Rattle.durable.specs.Opening.{IsOpeningFault, MayComeOf}
use Rattle.durable.specs.Refusals.{IsRefusal, IsUnharmed, AreSpared}
use Rattle.stores.specs.Faults.{is_judgement}
use Rattle.durable.proofs.Closed.{not-reopen}
use Rattle.durable.proofs.Sparing.{not-looked-at, not-opened-spared}
use Rattle.durable.proofs.store_state.store_from_files.Goals as goal

both : {A B : Type 0} (P Q R : A → Type 0) (r : Result A B) → ((k : A) → P k → Q k → R k) → IfOk r P → IfOk r Q → IfOk r R
both P Q R (Ok k) f p q = f k p q
both P Q R (Err e) f p q = tt

both-err : {A B : Type 0} (P Q R : B → Type 0) (r : Result A B) → ((e : B) → P e → Q e → R e) → IfErr r P → IfErr r Q → IfErr r R
both-err P Q R (Ok k) f p q = tt
both-err P Q R (Err e) f p q = f e p q

name-is : (g : _) (c : goal.After-drop-name-2 g) → c.deref.result.now ≡ node_text c.args.node
name-is g c = search rules

pub returns-clause-owner : goal.returns-clause-owner
returns-clause-owner g c =
    subst (λ (n : List ℕ). IfOk c.store_over.result (λ k. connected.IsHonest over_files k → node_in (file_state k.conn).committed.trees ≡ n)) (name-is g c) c.store_over.ensures.owner

pub returns-clause-found : goal.returns-clause-found
returns-clause-found g c =
    both (λ k. connected.IsHonest over_files k → HasCleanDisk (file_state c.in_ok-conn.conn)) (λ k. connected.IsHonest over_files k → IsOpenedAs (file_state c.in_ok-conn.conn).committed.trees (connected.content over_files k))
    (λ k. connected.IsHonest over_files k → (db : Trees) × IsFound g.D.Disk c.args.files db × IsOpenedAs db (connected.content over_files k)) c.store_over.result
    (λ k honest opened clean. ((file_state c.in_ok-conn.conn).committed.trees, c.in_ok-conn.ensures.found (honest clean), opened clean)) c.store_over.ensures.honest c.store_over.ensures.opened

pub returns-clause-fault : goal.returns-clause-fault
returns-clause-fault g c =
    both-err (λ e. AreClean g.D.Disk e.1.log e.1.db → HasCleanDisk (file_state c.in_ok-conn.conn)) (λ e. AreClean g.D.Disk e.1.log e.1.db → IsOpeningFault c.deref.result.now (file_state c.in_ok-conn.conn).committed e.0)
    (λ e. AreClean g.D.Disk e.1.log e.1.db → IsRefusal g.D.Disk c.args.files (node_text c.args.node) e.0) c.store_over.result
    (λ e refused fault clean. let early = refused clean in
    inr ((file_state c.in_ok-conn.conn).committed, c.in_ok-conn.ensures.sound early, c.in_ok-conn.ensures.found early, subst (λ n. IsOpeningFault n (file_state c.in_ok-conn.conn).committed e.0) (name-is g c) (fault clean)))
    c.store_over.ensures.refused c.store_over.ensures.fault

pub returns-clause-unharmed : goal.returns-clause-unharmed
returns-clause-unharmed g c =
    both-err (λ e. AreClean g.D.Disk e.1.log e.1.db → HasCleanDisk (file_state c.in_ok-conn.conn))
    (λ e. IsTrue (is_judgement e.0) → Hold g.D.Disk e.1 (λ next. next ≡ (file_state c.in_ok-conn.conn).committed.trees))
    (λ e. AreClean g.D.Disk e.1.log e.1.db → IsUnharmed g.D.Disk c.args.files e.0 e.1) c.store_over.result
    (λ e refused held honest judged. inr ((file_state c.in_ok-conn.conn).committed.trees, c.in_ok-conn.ensures.found (refused honest), held judged))
    c.store_over.ensures.refused c.store_over.ensures.unharmed

pub returns-in_err-conn-clause-named : goal.returns-in_err-conn-clause-named
returns-in_err-conn-clause-named g c =
    let p = err_from_is_err_and c.from_residual.result c.from_residual.ensures.1 in
    rw (p.1, p.2) (not-reopen c.in_err-conn.field-0.0.0 c.in_err-conn.ensures.named)

pub returns-in_err-conn-clause-unharmed : goal.returns-in_err-conn-clause-unharmed
returns-in_err-conn-clause-unharmed g c =
    let p = err_from_is_err_and c.from_residual.result c.from_residual.ensures.1 in
    let e = c.in_err-conn.field-0.0 in
    rw (p.1, p.2) (λ honest. not-looked-at g.D.Disk c.args.files e.1 e.0 (c.in_err-conn.ensures.fault honest))

pub returns-clause-spared : goal.returns-clause-spared
returns-clause-spared g c =
    let conn = file_state c.in_ok-conn.conn in
    both-err (λ e. AreClean g.D.Disk e.1.log e.1.db → HasCleanDisk conn) (λ e. Hold g.D.Disk e.1 (MayComeOf c.deref.result.now conn.committed)) (λ e. AreSpared g.D.Disk (node_text c.args.node) c.args.files e.1 e.0) c.store_over.result
    (λ e refused held. inr (inr (λ clean. let early = refused clean in record {
      db = conn.committed;
      sound = c.in_ok-conn.ensures.sound early;
      found = c.in_ok-conn.ensures.found early;
      holds = subst (λ (n : List ℕ). Hold g.D.Disk e.1 (MayComeOf n conn.committed)) (name-is g c) held;
    }))) c.store_over.ensures.refused c.store_over.ensures.spared

pub returns-in_err-conn-clause-spared : goal.returns-in_err-conn-clause-spared
returns-in_err-conn-clause-spared g c =
    let p = err_from_is_err_and c.from_residual.result c.from_residual.ensures.1 in
    let e = c.in_err-conn.field-0.0 in
    rw (p.1, p.2) (not-opened-spared g.D.Disk (node_text c.args.node) c.args.files e.1 e.0 c.in_err-conn.ensures.spared)
