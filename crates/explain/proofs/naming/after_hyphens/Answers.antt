use Rattle.explain.proofs.Bare.{trimmed}
use Rattle.explain.proofs.naming.after_hyphens.Goals as goal

pub returns : goal.returns
returns c = trimmed c.args.piece.now c.trim_start_matches.result.now c.trim_start_matches.ensures.matches
