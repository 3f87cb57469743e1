use Rattle.streams.proofs.Pieces.{joined, joined_over, one_split, one_over, not_both}
use Rattle.streams.proofs.splitter.cuts.Goals as goal

pub returns-clause-joined : goal.returns-clause-joined
returns-clause-joined c = joined

pub returns-clause-joined_over : goal.returns-clause-joined_over
returns-clause-joined_over c = joined_over

pub returns-clause-one_split : goal.returns-clause-one_split
returns-clause-one_split c = one_split

pub returns-clause-one_over : goal.returns-clause-one_over
returns-clause-one_over c = one_over

pub returns-clause-not_both : goal.returns-clause-not_both
returns-clause-not_both c = not_both
