use Rattle.std.proofs.Common.{◌≡◌, ◌+◌, take}
use Rattle.show.specs.Show.{record_lines}
use Rattle.show.proofs.showing.lines_of.Given as goal

abbrev pub invariant-loop-input : goal.invariant-loop-input
invariant-loop-input l = record {
  place : l.place ≡ l.first + l.input-index;
  text : l.text.items ≡ record_lines l.form l.first (take l.input-index l.inputs);
}
