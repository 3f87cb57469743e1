use Rattle.std.proofs.Common.{IfOk, true, subst}
use Rattle.std.proofs.lemmas.Result.{IfOk-weaker}
use Rattle.sqlite.specs.Held.{state}
use Rattle.store_tables.specs.OwnerRow.{IsPlaceIn}
use Rattle.durable.specs.Opening.{HasLeastOrGreatest}
use Rattle.durable.proofs.OpeningTexts.{greatest_plain}
use Rattle.durable.proofs.Opened.{greatest_found}
use Rattle.durable.proofs.opening.greatest_place.Goals as goal

pub ask-requires-clause-plain : goal.ask-requires-clause-plain
ask-requires-clause-plain g c = greatest_plain

pub returns-clause-greatest : goal.returns-clause-greatest
returns-clause-greatest g c clean =
    let opened = c.requires.opened (c.ask.ensures.reads.clean clean) in
    let rows = c.in_ok-rows.rows.items in
    IfOk-weaker c.place_in.result (IsPlaceIn rows) (HasLeastOrGreatest true (state g.S.Store c.args.conn.now).committed) (λ found is. greatest_found (state g.S.Store c.args.conn.now) (state g.S.Store c.ask.new.conn) rows found opened.0 opened.1 (c.in_ok-rows.ensures.shown clean) is)
    (subst (λ all. IfOk c.place_in.result (IsPlaceIn all)) c.deref.ensures.value c.place_in.ensures.place)
