use Rattle.std.proofs.Common.{◌≡◌, ◌<◌, ◌*◌, take}
use Rattle.streams.specs.Calls.{GoesOn}
use Rattle.exchanges.proofs.Served.{Served}
use Rattle.exchanges.proofs.replying.serve_lines.Given as goal

abbrev pub invariant-loop-line : goal.invariant-loop-line
invariant-loop-line g l = record {
  spare : 0 < l.left;
  goes : GoesOn l.fn.left l.left l.fn.writer.calls l.writer.calls;
  count : l.written ≡ 31 * l.line-index;
  served : Served g.W.Write.contents l.fn.writer l.writer (g.A.Answerer.given l.fn.answerer) (g.A.Answerer.given l.answerer) (take l.line-index l.lines);
}
