use Rattle.std.proofs.Common.{subst}
use Rattle.sqlite.specs.Held.{state}
use Rattle.store_tables.specs.OwnerRow.{IsOwnerIn}
use Rattle.durable.proofs.OpeningTexts.{owner_plain}
use Rattle.durable.proofs.Opened.{owner_found}
use Rattle.durable.proofs.opening.find_owner.Goals as goal

pub ask-requires-clause-plain : goal.ask-requires-clause-plain
ask-requires-clause-plain g c = owner_plain

pub returns-clause-owner : goal.returns-clause-owner
returns-clause-owner g c clean =
    let opened = c.requires.opened (c.ask.ensures.reads.clean clean) in
    let rows = c.in_ok-rows.rows.items in
    owner_found c.args.node.now (state g.S.Store c.args.conn.now) (state g.S.Store c.ask.new.conn) rows c.owner_in.result opened.0 opened.1 (c.in_ok-rows.ensures.shown clean)
    (subst (λ all. IsOwnerIn c.args.node.now all c.owner_in.result) c.deref.ensures.value c.owner_in.ensures)
