use Rattle.explain.proofs.Bare.{are_marks, before_mark, no_mark}
use Rattle.explain.specs.Topics.{is_mark}
use Rattle.explain.proofs.naming.before_mark.Goals as goal

pub returns-in-Some : goal.returns-in-Some
returns-in-Some c =
    let cut = c.in-Some.ensures.cases in
    before_mark c.args.piece.now c.in-Some.front.now cut.0 (cut.1 is_mark are_marks) cut.2

pub returns-in-None : goal.returns-in-None
returns-in-None c = no_mark c.args.piece.now (c.in-None.ensures.cases is_mark are_marks)
