use Rattle.std.proofs.Common.{◌≡◌, length, take}
use Rattle.serving.specs.Orders.{IsPlayed}
use Rattle.run.proofs.playing.play_all.Given as goal

abbrev pub invariant-loop-line : goal.invariant-loop-line
invariant-loop-line g l = record {
  played : IsPlayed l.scheme (take l.line-index l.lines) l.answers.items l.seats;
  count : length l.seats ≡ length l.initial.seats;
}
