use Rattle.streams.proofs.Streams.{ends_line, over_limit}
use Rattle.streams.proofs.splitter.cut_lines.Goals as goal

pub loop-line-preserved : goal.loop-line-preserved
loop-line-preserved c =
    let at = c.loop-line in
    rw (c.in_ok-push-in-Whole.ensures.items, c.in_ok-join_line-in-Whole.ensures)
    (ends_line c.args.limit c.args.held.now c.args.piece.now at.lines.items at.begun.now at.left.now c.in-Whole.line.now c.in-Whole.rest.now c.in-Whole.ensures.0 c.in-Whole.ensures.1 at.invariant)

pub returns-in-TooLong : goal.returns-in-TooLong
returns-in-TooLong c =
    let at = c.loop-line in
    rw (c.from_vec-in-TooLong.ensures) (over_limit c.args.limit c.args.held.now c.args.piece.now at.lines.items at.begun.now at.left.now c.in-TooLong.ensures.0 c.in-TooLong.ensures.1 at.invariant)
