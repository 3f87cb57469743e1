-- Commands that are made in a loop over a table of subcommands and their arguments.
use Rattle.std.proofs.Common.{◌≡◌, ◌<◌, ◌+◌, ◌∙◌, ◌||◌, ℕ, List, [], false, ap, drop, get_or, length, sym, take}
use Rattle.std.proofs.lemmas.List.{drop_more, map_more}
use Rattle.clap.specs.Simple.{new_shape}
use Rattle.clap.specs.Words.{AddsArg, App, app_of, rule_of, with_rule, with_subcommand}
use Rattle.clap.specs.declared.builder.arg.Arg.{Arg}
use Rattle.clap.specs.declared.builder.command.Command.{Command}
use Rattle.clap.specs.declared.builder.command.Command.TheViews.{out-Command}
use Rattle.command_line.specs.Subcommands.{described, rule_in, rules_of, with_all}
use Rattle.command_line.specs.Words.{IsCommand}
use Rattle.command_line.specs.declared.parsing.Argument.{Argument}
use Rattle.command_line.specs.declared.parsing.Subcommand.{Subcommand}

-- a command of this name that has these arguments
abbrev pub with_arguments : List ℕ → List Argument → App
with_arguments name arguments = record { top = record (new_shape name) { rules = rules_of arguments }; subs = [] }

pub argument_added : (name : List ℕ) (arguments : List Argument) (i : ℕ) (d : Argument) (old new : Command) (arg : Arg) → i < length arguments
    → rule_of arg ≡ rule_in (get_or arguments i d) → arg.global ≡ false
    → IsCommand (with_arguments name (take i arguments)) old → AddsArg old arg new → IsCommand (with_arguments name (take (i + 1) arguments)) new
argument_added name arguments i d old new arg lt rule local is adds = (
  adds.shape local ∙ ap (λ a. with_rule a (rule_of arg)) is.0 ∙ ap (with_rule (with_arguments name (take i arguments))) rule
      ∙ ap (λ rs. record { top = record (new_shape name) { rules = rs }; subs = [] }) (sym (map_more rule_in arguments i d lt)),
  adds.globals ∙ ap (λ b. b || arg.global) is.1 ∙ local,
)

-- the command has no global argument, and with these subcommands it is that program
pub record IsWholeWith (target : App) (subcommands : List Subcommand) (command : Command) : Type 0 where
  pub whole : with_all (app_of command) subcommands ≡ target
  pub local : (out-Command command).has_globals ≡ false

pub before_all : (begun target : App) (subcommands : List Subcommand) (command : Command) → IsCommand begun command → with_all begun subcommands ≡ target → IsWholeWith target subcommands command
before_all begun target subcommands command is whole = record { whole = ap (λ a. with_all a subcommands) is.0 ∙ whole; local = is.1 }

pub one_more : (target : App) (subcommands : List Subcommand) (i : ℕ) (d : Subcommand) (old new : Command) → i < length subcommands → IsWholeWith target (drop i subcommands) old
    → IsCommand (with_subcommand (app_of old) (described (get_or subcommands i d))) new → IsWholeWith target (drop (i + 1) subcommands) new
one_more target subcommands i d old new lt has is = record {
  whole = ap (λ a. with_all a (drop (i + 1) subcommands)) is.0 ∙ sym (ap (with_all (app_of old)) (drop_more subcommands i d lt)) ∙ has.whole;
  local = is.1;
}
