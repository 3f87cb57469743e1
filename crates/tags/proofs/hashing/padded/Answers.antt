use Rattle.std.proofs.Common.{ℕ, List, ◌++◌, length, drop, ap, ◌∙◌}
use Rattle.std.proofs.Math.ListN.{replicate}
use Rattle.std.proofs.lemmas.List.{drop-replicate}
use Rattle.tags.proofs.hashing.padded.Goals as goal

pub returns : goal.returns
returns c =
    let bytes = c.args.bytes.now in
    ap (λ (t : List ℕ). t ++ drop (length bytes) (replicate 64 0)) c.copy_from_slice.ensures.after ∙ ap (λ (t : List ℕ). bytes ++ t) (drop-replicate (length bytes) 64 0)
