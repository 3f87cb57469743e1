use Rattle.sqlite.specs.Held.{state}
use Rattle.durable.proofs.Becoming.{migrated_settles, refused_settles}
use Rattle.durable.proofs.opening.resume_format_one.Goals as goal

pub returns-in-Ok-clause-settled : goal.returns-in-Ok-clause-settled
returns-in-Ok-clause-settled g c clean =
    let old = state g.S.Store c.args.conn.now in
    let mid = state g.S.Store c.count.new.conn in
    let new = state g.S.Store c.migrate.new.conn in
    let m = c.migrate.ensures in
    let early = m.clean clean in
    let first = c.count.ensures.reads.clean early in
    migrated_settles old mid new (c.requires.store first) (c.in_ok-count.ensures.same early).0.committed_is (m.crash clean) c.in_ok-count.count (c.in_ok-count.ensures.count early) (c.in-Ok.ensures.ready clean) (c.in-Ok.ensures.migrated clean) (c.in-Ok.ensures.tables clean)

pub returns-in-Err-clause-settled : goal.returns-in-Err-clause-settled
returns-in-Err-clause-settled g c clean =
    let old = state g.S.Store c.args.conn.now in
    let mid = state g.S.Store c.count.new.conn in
    let new = state g.S.Store c.migrate.new.conn in
    let m = c.migrate.ensures in
    let early = m.clean clean in
    let first = c.count.ensures.reads.clean early in
    refused_settles old mid new (c.requires.store first) (c.in_ok-count.ensures.same early).0.committed_is (m.crash clean) c.in-Err.fault c.in-Err.ensures.named (c.in-Err.ensures.damaged clean) (c.in-Err.ensures.unharmed clean)
