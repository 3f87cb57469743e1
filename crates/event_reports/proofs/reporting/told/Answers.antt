use Rattle.input_lines.proofs.LinesRead.{stops_so, is_some, is_none}
use Rattle.event_reports.specs.Rehearsal.{IsLinesFault}
use Rattle.event_reports.proofs.Told.{told_more, next_fault, told_all}
use Rattle.event_reports.proofs.reporting.told.Goals as goal

pub returns-in_err-event-clause-err : goal.returns-in_err-event-clause-err
returns-in_err-event-clause-err g c =
    let some = is_some c.loop-rest.rest.now c.loop-rest-test.ensures in
    stops_so (IsLinesFault c.args.lines.now c.args.room) c.in_err-event.field-0.0 c.from_residual-in_err-event.result c.from_residual-in_err-event.ensures.1
    (next_fault _ _ _ _ _ _ c.in_err-event.field-0.0 c.loop-rest.invariant some c.in_err-event.ensures.err)

pub loop-rest-preserved : goal.loop-rest-preserved
loop-rest-preserved g c =
    let line = c.in_ok-event.ensures.ok in
    told_more _ _ _ _ _ _ _ line.0 _ _ c.in_ok-event.event c.loop-rest.invariant line.1 line.2 line.3 (c.in_ok-tell.ensures c.args.scheme.now)

pub loop-rest-preserved-in_ok-tell : goal.loop-rest-preserved-in_ok-tell
loop-rest-preserved-in_ok-tell g c =
    let line = c.in_ok-event.ensures.ok in
    told_more _ _ _ _ _ _ _ line.0 _ _ c.in_ok-event.event c.loop-rest.invariant line.1 line.2 line.3 (c.in_ok-tell.ensures c.args.scheme.now)

pub loop-rest-preserved-in_ok-tell-3 : goal.loop-rest-preserved-in_ok-tell-3
loop-rest-preserved-in_ok-tell-3 g c =
    let line = c.in_ok-event.ensures.ok in
    told_more _ _ _ _ _ _ _ line.0 _ _ c.in_ok-event.event c.loop-rest.invariant line.1 line.2 line.3 (c.in_ok-tell.ensures c.args.scheme.now)

pub returns-clause-ok : goal.returns-clause-ok
returns-clause-ok g c = told_all _ _ _ _ _ _ c.loop-rest.invariant (is_none c.loop-rest.rest.now c.loop-rest-test.ensures)
