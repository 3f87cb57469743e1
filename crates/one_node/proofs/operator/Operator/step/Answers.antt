use Rattle.std.proofs.Common.{◌++◌}
use Rattle.one_node.specs.Operating.{held_nowhere}
use Rattle.one_node.proofs.Stepping.{clock_talks, last_talks, line_step, long_talks, quiet_talks}
use Rattle.one_node.proofs.operator.Operator.step.Goals as goal

pub returns-then-is_due-clause-talks : goal.returns-then-is_due-clause-talks
returns-then-is_due-clause-talks g c = λ begun is.
    clock_talks _ _ _ held_nowhere begun c.args.self.now.line.held.items _ _ c.args.self.now.count c.args.evidence.now c.clean_up.new.seat is c.clean_up.ensures

pub returns-in-Line-clause-talks : goal.returns-in-Line-clause-talks
returns-in-Line-clause-talks g c = λ begun is.
    let read = c.in-Line.ensures in
    line_step _ _ _ held_nowhere begun c.args.self.now.line.held.items c.step.new.self.held.items read.0 _ _ _ _ _ c.args.self.now.count _ c.args.evidence.now c.take_line.new.evidence c.take_line.result is read.1 read.2 c.take_line.ensures

pub returns-in_ok-refuse-in-TooLong-clause-talks : goal.returns-in_ok-refuse-in-TooLong-clause-talks
returns-in_ok-refuse-in-TooLong-clause-talks g c = λ begun is.
    let read = c.in-TooLong.ensures in
    let did = c.in_ok-refuse-in-TooLong.ensures in
    long_talks _ _ _ held_nowhere begun c.args.self.now.line.held.items c.step.new.self.held.items read.0 _ _ _ _ _ c.args.self.now.count _ c.args.evidence.now is read.1 read.2 did.written did.count did.line

pub returns-in-Quiet-clause-talks : goal.returns-in-Quiet-clause-talks
returns-in-Quiet-clause-talks g c = λ begun is.
    let read = c.in-Quiet.ensures in
    let quiet = quiet_talks _ _ _ held_nowhere begun c.args.self.now.line.held.items c.step.new.self.held.items read.0 _ _ (g.W.Write.contents c.args.writer.now) c.args.self.now.count c.args.evidence.now is read.1 in
    (begun ++ read.0, quiet.0, quiet.1)

pub returns-in-Ended-clause-talks : goal.returns-in-Ended-clause-talks
returns-in-Ended-clause-talks g c = λ begun is.
    let read = c.in-Ended.ensures in
    last_talks _ _ _ held_nowhere begun c.args.self.now.line.held.items c.step.new.self.held.items read.0 _ _ _ c.args.self.now.count c.args.evidence.now is read.1 read.2
