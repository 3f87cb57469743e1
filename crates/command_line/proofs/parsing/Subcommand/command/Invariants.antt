use Rattle.std.proofs.Common.{[], take}
use Rattle.clap.specs.Simple.{new_shape}
use Rattle.command_line.specs.Words.{IsCommand}
use Rattle.command_line.specs.Subcommands.{rules_of}
use Rattle.command_line.proofs.parsing.Subcommand.command.Given as goal

abbrev pub invariant-loop-argument : goal.invariant-loop-argument
invariant-loop-argument l = IsCommand (record { top = record (new_shape l.self.name.now) { rules = rules_of (take l.argument-index l.argument-items) }; subs = [] }) l.command
