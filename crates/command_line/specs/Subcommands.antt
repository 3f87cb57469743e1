-- The shape of each subcommand of a table, and the program with all of them. No public contract cites it.
use Rattle.std.specs.Prelude.{ℕ, List, [], ◌∷◌, false, map, true}
use Rattle.clap.specs.declared.builder.action.ArgAction.TheVariants.{Append, Set}
use Rattle.clap.specs.Words.{App, Rule, Shape, with_subcommand}
use Rattle.clap.specs.Simple.{new_shape}
use Rattle.command_line.specs.Words.{flag, option, positional, words_rule}
use Rattle.command_line.specs.declared.parsing.Argument.{Argument}
use Rattle.command_line.specs.declared.parsing.ArgumentKind.{ArgumentKind}
use Rattle.command_line.specs.declared.parsing.ArgumentKind.TheVariants.{Flag, Optional, Positional, Repeated, Required, Words}
use Rattle.command_line.specs.declared.parsing.Subcommand.{Subcommand}

abbrev pub rule_with : ArgumentKind → List ℕ → Rule
rule_with Positional name = positional name
rule_with Flag name = flag name
rule_with (Required value) name = option name Set true
rule_with (Repeated value) name = option name Append true
rule_with (Optional value) name = option name Set false
rule_with Words name = words_rule name

abbrev pub rule_in : Argument → Rule
rule_in a = rule_with a.kind a.name.now

-- the arguments in their order
abbrev pub rules_of : List Argument → List Rule
rules_of arguments = map rule_in arguments

abbrev pub described : Subcommand → Shape
described s = record (new_shape s.name.now) { rules = rules_of s.arguments.now }

-- a program with more subcommands, one after another
abbrev pub with_all : App → List Subcommand → App
with_all a [] = a
with_all a (s ∷ rest) = with_all (with_subcommand a (described s)) rest
