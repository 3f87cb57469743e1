use Rattle.std.proofs.Common.{◌<◌, ◌≤◌, ◌+◌, ◌-◌, vec_len, vec_capacity}
use Rattle.units.specs.Limits.{longest_line}
use Rattle.streams.specs.Lines.{HasNoNewline}
use Rattle.streams.specs.Calls.{GoesOn, most_interruptions}
use Rattle.exchanges.specs.Streams.{Takes}
use Rattle.exchanges.proofs.reading.read_line.Given as goal

abbrev pub invariant-loop-byte : goal.invariant-loop-byte
invariant-loop-byte g l = record {
  within : vec_len l.line ≤ longest_line + 1;
  room : longest_line + 1 ≤ vec_capacity l.line;
  spare : 0 < l.left;
  free : HasNoNewline l.line.items;
  took : Takes g.R.Read.remaining l.fn.reader l.reader l.line.items;
  goes : GoesOn most_interruptions l.left l.fn.reader.calls l.reader.calls;
}

abbrev pub decreases-loop-byte : goal.decreases-loop-byte
decreases-loop-byte g l = (longest_line + 1 - vec_len l.line) + l.left
