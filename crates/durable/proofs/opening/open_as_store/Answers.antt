use Rattle.sqlite.specs.Held.{state}
use Rattle.durable.proofs.OpenedAs.{bare_of, opened_as}
use Rattle.durable.proofs.opening.open_as_store.Goals as goal

pub returns-in-None-clause-opened : goal.returns-in-None-clause-opened
returns-in-None-clause-opened g c clean =
    let old = state g.S.Store c.args.conn.now in
    let new = state g.S.Store c.start.new.conn in
    let bare = bare_of old (c.requires.opened (c.start.ensures.clean clean)) c.tables_in.ensures.bare in
    opened_as c.args.node.now old.committed new c.start.result bare (c.start.ensures.settled clean)

pub returns-in-Store-clause-opened : goal.returns-in-Store-clause-opened
returns-in-Store-clause-opened g c clean =
    let old = state g.S.Store c.args.conn.now in
    let new = state g.S.Store c.resume.new.conn in
    let bare = bare_of old (c.requires.opened (c.resume.ensures.clean clean)) c.tables_in.ensures.bare in
    opened_as c.args.node.now old.committed new c.resume.result bare (c.resume.ensures.settled clean)
