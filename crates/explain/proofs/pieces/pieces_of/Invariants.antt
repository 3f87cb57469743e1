use Rattle.std.proofs.Common.{◌≡◌, map, string_bytes, take}
use Rattle.explain.specs.Topics.{pieces}
use Rattle.explain.proofs.pieces.pieces_of.Given as goal

abbrev pub invariant-loop-word : goal.invariant-loop-word
invariant-loop-word l = map (λ piece. piece.now) l.pieces.items ≡ pieces (map string_bytes (take l.word-index l.words))
