use Rattle.std.proofs.Common.{◌≡◌, ◌≤◌, ◌-◌, vec_len}
use Rattle.std.specs.Io.KnownBytes.{Consumes}
use Rattle.streams.specs.Calls.{most_reads}
use Rattle.streams.specs.Inputs.{longest_input}
use Rattle.streams.proofs.whole.read_input.Given as goal

abbrev pub invariant-loop-piece : goal.invariant-loop-piece
invariant-loop-piece g l = record {
  front : Consumes (g.R.Read.remaining l.fn.reader) (g.R.Read.remaining l.reader) l.input.items;
  most : vec_len l.input ≤ longest_input;
  none_failed : l.calls.failures ≡ 0;
}

abbrev pub decreases-loop-piece : goal.decreases-loop-piece
decreases-loop-piece g l = most_reads - l.calls.count
