use Rattle.std.proofs.Common.{drop}
use Rattle.command_line.specs.Words.{kyoto_link}
use Rattle.command_line.proofs.SubcommandTables.{IsWholeWith}
use Rattle.command_line.proofs.parsing.command.Given as goal

abbrev pub invariant-loop-subcommand : goal.invariant-loop-subcommand
invariant-loop-subcommand l = IsWholeWith kyoto_link (drop l.subcommand-index l.subcommand-items) l.program
