use Rattle.std.proofs.Common.{rules}
use Rattle.sqlite.specs.Held.{state}
use Rattle.store_tables.proofs.Steps.{was_clean}
use Rattle.durable.proofs.Opened.{asked_same, asked_crash}
use Rattle.durable.proofs.opening.ask.Goals as goal

pub returns-in-Ok-clause-same : goal.returns-in-Ok-clause-same
returns-in-Ok-clause-same g c clean =
    let old = state g.S.Store c.args.conn.now in
    let new = state g.S.Store c.query_all.new.self in
    let opened = c.requires.opened (was_clean old new _ c.query_all.ensures.survives clean) in
    asked_same c.args.sql.now old new _ opened.0 opened.1 c.requires.plain (c.in-Ok.ensures.ok clean)

pub returns-in-Ok-clause-reads : goal.returns-in-Ok-clause-reads
returns-in-Ok-clause-reads g c =
    let old = state g.S.Store c.args.conn.now in
    let new = state g.S.Store c.query_all.new.self in
    record {
      idle = search rules;
      clean = was_clean old new _ c.query_all.ensures.survives;
      crash = λ clean.
          let opened = c.requires.opened (was_clean old new _ c.query_all.ensures.survives clean) in
          asked_crash c.args.sql.now old new opened.0 opened.1 c.requires.plain (λ db. g.met.S.Store.settled c.args.conn.now.store db opened.0.is_open) c.query_all.ensures.survives clean;
    }

pub returns-in-Err-clause-reads : goal.returns-in-Err-clause-reads
returns-in-Err-clause-reads g c =
    let old = state g.S.Store c.args.conn.now in
    let new = state g.S.Store c.query_all.new.self in
    record {
      idle = search rules;
      clean = was_clean old new _ c.query_all.ensures.survives;
      crash = λ clean.
          let opened = c.requires.opened (was_clean old new _ c.query_all.ensures.survives clean) in
          asked_crash c.args.sql.now old new opened.0 opened.1 c.requires.plain (λ db. g.met.S.Store.settled c.args.conn.now.store db opened.0.is_open) c.query_all.ensures.survives clean;
    }
