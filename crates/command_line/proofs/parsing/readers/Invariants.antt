use Rattle.std.proofs.Common.{drop}
use Rattle.command_line.specs.Words.{with_auditors}
use Rattle.command_line.proofs.SubcommandTables.{IsWholeWith}
use Rattle.command_line.proofs.parsing.readers.Given as goal

abbrev pub invariant-loop-subcommand : goal.invariant-loop-subcommand
invariant-loop-subcommand l = IsWholeWith with_auditors (drop l.subcommand-index l.subcommand-items) l.program
