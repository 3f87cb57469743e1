use Rattle.command_line.proofs.SubcommandTables.{argument_added}
use Rattle.command_line.proofs.parsing.Subcommand.command.Goals as goal

pub loop-argument-preserved : goal.loop-argument-preserved
loop-argument-preserved c = argument_added c.args.self.now.name.now c.args.self.now.arguments.now c.loop-argument.argument-index _ c.loop-argument.command c.in_ok-command.command c.arg.result c.loop-argument-test.true c.arg.ensures.rule c.arg.ensures.global c.loop-argument.invariant c.in_ok-command.ensures
