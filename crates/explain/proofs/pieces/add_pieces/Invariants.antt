use Rattle.std.proofs.Common.{◌≡◌, ◌++◌, filter, map, take}
use Rattle.explain.specs.Topics.{is_piece}
use Rattle.explain.proofs.pieces.add_pieces.Given as goal

abbrev pub invariant-loop-part : goal.invariant-loop-part
invariant-loop-part l = map (λ piece. piece.now) l.pieces.items
    ≡ map (λ piece. piece.now) l.initial.pieces.items ++ filter is_piece (map (λ part. part.now) (take l.part-index l.parts))
