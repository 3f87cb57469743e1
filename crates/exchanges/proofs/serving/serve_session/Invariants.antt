use Rattle.std.proofs.Common.{◌≡◌, ◌<◌, ◌≤◌, ◌*◌, ◌-◌}
use Rattle.units.specs.Limits.{longest_line}
use Rattle.streams.specs.Lines.{IsWithin}
use Rattle.streams.specs.Calls.{GoesOn, GoesUp, most_interruptions}
use Rattle.exchanges.specs.Pieces.{open_with}
use Rattle.exchanges.specs.Sessions.{most_reads}
use Rattle.exchanges.proofs.Heard.{Heard}
use Rattle.exchanges.proofs.serving.serve_session.Given as goal

abbrev pub invariant-loop-reads : goal.invariant-loop-reads
invariant-loop-reads g l = record {
  turns : l.reads ≤ most_reads;
  calls : GoesUp l.reads l.fn.reader.calls.count l.reader.calls.count;
  spare_reads : 0 < l.reads_left;
  spare_writes : 0 < l.writes_left;
  reader_goes : GoesOn most_interruptions l.reads_left l.fn.reader.calls l.reader.calls;
  writer_goes : GoesOn most_interruptions l.writes_left l.fn.writer.calls l.writer.calls;
  takes_more : l.splitter ≡ open_with l.splitter.rest;
  within : IsWithin longest_line l.splitter.rest;
  fits : l.written ≤ 380_928 * l.reads;
  heard : Heard g.R.Read.remaining g.W.Write.contents l.fn.reader l.reader l.fn.writer l.writer (g.A.Answerer.given l.fn.answerer) (g.A.Answerer.given l.answerer) l.splitter.rest l.written;
}

abbrev pub decreases-loop-reads : goal.decreases-loop-reads
decreases-loop-reads g l = most_reads - l.reads
