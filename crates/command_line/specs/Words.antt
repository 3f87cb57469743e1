-- The values that the words of a command line give, by the matches that clap returns for them.
use Rattle.std.specs.Prelude.{◌≡◌, ◌≢◌, ◌⊎◌, ℕ, Bool, List, [], ◌∷◌, Option, None, Some, true, false, codes, map, option_and_then, option_map, string_bytes}
use Rattle.clap.specs.Words.{App, IsAmong, Kinds, Rule, Shape, fault_of, kind_of, new_app, new_rule, with_subcommand, shape_of, subcommand_name_of, subcommand_rows_of, all_of, first_of, app_of, first_value, matched_of, raw_values}
use Rattle.clap.specs.declared.builder.action.ArgAction.{ArgAction}
use Rattle.clap.specs.declared.builder.action.ArgAction.TheVariants.{Append, Set, SetTrue}
use Rattle.clap.specs.declared.builder.command.Command.TheViews.{out-Command}
use Rattle.clap.specs.Lexer.{usize_max}
use Rattle.clap.specs.Simple.{new_shape}
use Rattle.clap.specs.declared.builder.command.Command.{Command}
use Rattle.clap.specs.declared.error.Error.{Error}
use Rattle.clap.specs.declared.error.kind.ErrorKind.{ErrorKind}
use Rattle.clap.specs.declared.error.kind.ErrorKind.TheVariants.{OutOfMemory, DisplayHelp, DisplayVersion}
use Rattle.clap.specs.declared.parser.matches.ArgMatches.{ArgMatches}
use Rattle.clap.specs.declared.parser.matches.Found.{Found}
use Rattle.command_line.specs.declared.actions.Action.{Action}
use Rattle.command_line.specs.declared.actions.Action.TheVariants.{Audit, Chart, Events, Explain, Node, Rehearse, Run, Show, Trace}
use Rattle.command_line.specs.declared.actions.Extent.{Extent}
use Rattle.command_line.specs.declared.actions.Extent.TheVariants.{Furthest, Whole}
use Rattle.command_line.specs.declared.actions.Missing.{Missing}
use Rattle.command_line.specs.declared.actions.Missing.TheVariants.{Create, Refuse}
use Rattle.command_line.specs.declared.actions.Strictness.{Strictness}
use Rattle.command_line.specs.declared.actions.Strictness.TheVariants.{Lenient, Strict}
use Rattle.report.specs.declared.form.Form.{Form}
use Rattle.report.specs.declared.form.Form.TheVariants.{Json, Lines}
use Rattle.command_line.specs.declared.parsing.UsageFault.{UsageFault}
use Rattle.command_line.specs.declared.parsing.UsageFault.TheVariants.{Usage, Help, NoMemory}

-- the program, which has a version and demands a subcommand
abbrev pub program : App
program = record (new_app (codes "kyoto-link")) { top = record (new_shape (codes "kyoto-link")) { subcommand_required = true; has_version = true } }

-- an argument without a flag, which must be given
abbrev pub positional : List ℕ → Rule
positional name = record (new_rule name) { required = true }

-- a flag, which takes no value
abbrev pub flag : List ℕ → Rule
flag name = record (new_rule name) { long = Some name; action = Some SetTrue }

-- an option, which takes a value
abbrev pub option : List ℕ → ArgAction → Bool → Rule
option name action required = record (new_rule name) { long = Some name; value_names = 1; action = Some action; required = required }

-- any number of words; from the first on, each one is taken as it stands
abbrev pub words_rule : List ℕ → Rule
words_rule name = record (new_rule name) { action = Some Append; range = Some (record { start_inclusive = 0; end_inclusive = usize_max }); trailing_var_arg = true }

abbrev pub show_shape : Shape
show_shape = record (new_shape (codes "show")) { rules = positional (codes "SCHEME") ∷ positional (codes "DIR") ∷ positional (codes "NODE") ∷ flag (codes "json") ∷ flag (codes "existing") ∷ [] }

abbrev pub audit_shape : Shape
audit_shape = record (new_shape (codes "audit")) { rules = positional (codes "SCHEME") ∷ positional (codes "DIR") ∷ flag (codes "cut") ∷ flag (codes "json") ∷ flag (codes "existing") ∷ [] }

abbrev pub events_shape : Shape
events_shape = record (new_shape (codes "events")) { rules = positional (codes "SCHEME") ∷ positional (codes "DIR") ∷ flag (codes "json") ∷ flag (codes "existing") ∷ [] }

abbrev pub trace_shape : Shape
trace_shape = record (new_shape (codes "trace")) { rules = positional (codes "SCHEME") ∷ positional (codes "DIR") ∷ positional (codes "ID") ∷ flag (codes "json") ∷ flag (codes "existing") ∷ [] }

abbrev pub explain_shape : Shape
explain_shape = record (new_shape (codes "explain")) { rules = words_rule (codes "WORDS") ∷ [] }

abbrev pub run_shape : Shape
run_shape = record (new_shape (codes "run")) { rules = positional (codes "SCHEME") ∷ positional (codes "DIR") ∷ positional (codes "SCRIPT") ∷ flag (codes "existing") ∷ flag (codes "strict") ∷ [] }

abbrev pub node_shape : Shape
node_shape = record (new_shape (codes "node")) { rules = positional (codes "SCHEME") ∷ positional (codes "DIR") ∷ positional (codes "NODE") ∷ option (codes "listen") Set true ∷ option (codes "peer") Append true ∷ option (codes "keys") Set false ∷ option (codes "clean-up") Set false ∷ [] }

-- the program with the subcommands that read events
abbrev pub with_readers : App
with_readers = with_subcommand (with_subcommand program (new_shape (codes "rehearse"))) (new_shape (codes "chart"))

-- and with those that look at stores
abbrev pub with_auditors : App
with_auditors = with_subcommand (with_subcommand (with_subcommand (with_subcommand with_readers show_shape) audit_shape) events_shape) trace_shape

-- the program with all its subcommands
abbrev pub kyoto_link : App
kyoto_link = with_subcommand (with_subcommand (with_subcommand with_auditors explain_shape) run_shape) node_shape

-- the kinds of fault, one of which clap finds in the words; there is none where it accepts them
abbrev pub faults_in : List (List ℕ) → Kinds
faults_in words = fault_of kyoto_link words

-- help or the version was asked for
abbrev pub IsAskedFor : ErrorKind → Type 0
IsAskedFor kind = (kind ≡ DisplayHelp) ⊎ (kind ≡ DisplayVersion)

-- help and the version come only from words that may ask for them, and wrong words have another fault
abbrev pub IsUsageFault : List (List ℕ) → UsageFault → Type 0
IsUsageFault words NoMemory = Unit {0}
IsUsageFault words (Help e) = IsAskedFor (kind_of e) × IsAmong (kind_of e) (faults_in words)
IsUsageFault words (Usage e) = (kind_of e ≢ OutOfMemory) × (IsAskedFor (kind_of e) → ⊥) × IsAmong (kind_of e) (faults_in words)

-- the first value of an argument of the subcommand, if it has one
abbrev pub argument_of : ArgMatches → List ℕ → Option (List ℕ)
argument_of m name = option_and_then (first_of name) (option_map (λ p. p.1) (subcommand_rows_of m))

-- all its values, in the order of the words
abbrev pub arguments_of : ArgMatches → List ℕ → Option (List (List ℕ))
arguments_of m name = option_and_then (all_of name) (option_map (λ p. p.1) (subcommand_rows_of m))

-- the value of the flag `cut`
abbrev pub extent_word : Extent → List ℕ
extent_word Whole = codes "false"
extent_word Furthest = codes "true"

-- the value of the flag `json`
abbrev pub form_word : Form → List ℕ
form_word Lines = codes "false"
form_word Json = codes "true"

-- the value of the flag `existing`
abbrev pub missing_word : Missing → List ℕ
missing_word Create = codes "false"
missing_word Refuse = codes "true"

-- the value of the flag `strict`
abbrev pub strictness_word : Strictness → List ℕ
strictness_word Lenient = codes "false"
strictness_word Strict = codes "true"

-- the values of an argument that takes any number of words
abbrev pub AreWordsOf : Option (List (List ℕ)) → List (List ℕ) → Type 0
AreWordsOf None words = words ≡ []
AreWordsOf (Some values) words = words ≡ values

-- the words of the action are the values of the arguments
abbrev pub HasValues : (value : List ℕ → Option (List ℕ)) → (values : List ℕ → Option (List (List ℕ))) → Action → Type 0
HasValues value values Rehearse = Unit {0}
HasValues value values Chart = Unit {0}
HasValues value values (Show scheme folder node form missing) =
    (value (codes "SCHEME") ≡ Some (string_bytes scheme)) × (value (codes "DIR") ≡ Some (string_bytes folder)) × (value (codes "NODE") ≡ Some (string_bytes node)) × (value (codes "json") ≡ Some (form_word form)) × (value (codes "existing") ≡ Some (missing_word missing))
HasValues value values (Audit scheme folder extent form missing) =
    (value (codes "SCHEME") ≡ Some (string_bytes scheme)) × (value (codes "DIR") ≡ Some (string_bytes folder)) × (value (codes "cut") ≡ Some (extent_word extent)) × (value (codes "json") ≡ Some (form_word form)) × (value (codes "existing") ≡ Some (missing_word missing))
HasValues value values (Events scheme folder form missing) =
    (value (codes "SCHEME") ≡ Some (string_bytes scheme)) × (value (codes "DIR") ≡ Some (string_bytes folder)) × (value (codes "json") ≡ Some (form_word form)) × (value (codes "existing") ≡ Some (missing_word missing))
HasValues value values (Trace scheme folder id form missing) =
    (value (codes "SCHEME") ≡ Some (string_bytes scheme)) × (value (codes "DIR") ≡ Some (string_bytes folder)) × (value (codes "ID") ≡ Some (string_bytes id)) × (value (codes "json") ≡ Some (form_word form)) × (value (codes "existing") ≡ Some (missing_word missing))
HasValues value values (Explain words) = AreWordsOf (values (codes "WORDS")) (map string_bytes words.items)
HasValues value values (Run scheme folder script missing strictness) =
    (value (codes "SCHEME") ≡ Some (string_bytes scheme)) × (value (codes "DIR") ≡ Some (string_bytes folder)) × (value (codes "SCRIPT") ≡ Some (string_bytes script)) × (value (codes "existing") ≡ Some (missing_word missing)) × (value (codes "strict") ≡ Some (strictness_word strictness))
HasValues value values (Node words) =
    (value (codes "SCHEME") ≡ Some (string_bytes words.scheme)) × (value (codes "DIR") ≡ Some (string_bytes words.folder)) × (value (codes "NODE") ≡ Some (string_bytes words.node)) × (value (codes "listen") ≡ Some (string_bytes words.listen)) × (values (codes "peer") ≡ Some (map string_bytes words.peers.items)) × (value (codes "keys") ≡ option_map string_bytes words.keys) × (value (codes "clean-up") ≡ option_map string_bytes words.clean_up)

abbrev pub command_name : Action → List ℕ
command_name Rehearse = codes "rehearse"
command_name Chart = codes "chart"
command_name (Show scheme folder node form missing) = codes "show"
command_name (Audit scheme folder extent form missing) = codes "audit"
command_name (Events scheme folder form missing) = codes "events"
command_name (Trace scheme folder id form missing) = codes "trace"
command_name (Explain words) = codes "explain"
command_name (Run scheme folder script missing strictness) = codes "run"
command_name (Node words) = codes "node"

abbrev pub NamesAction : ArgMatches → Action → Type 0
NamesAction m a = (subcommand_name_of m ≡ Some (command_name a)) × HasValues (argument_of m) (arguments_of m) a

-- ---- what the code follows; no public contract cites what stands below

-- the fault is the program's for the error of clap
abbrev pub IsFaultOf : Error → UsageFault → Type 0
IsFaultOf error NoMemory = kind_of error ≡ OutOfMemory
IsFaultOf error (Help e) = (e ≡ error) × IsAskedFor (kind_of error)
IsFaultOf error (Usage e) = (e ≡ error) × (kind_of error ≢ OutOfMemory) × (IsAskedFor (kind_of error) → ⊥)

abbrev pub IsCommand : App → Command → Type 0
IsCommand a c = (app_of c ≡ a) × ((out-Command c).has_globals ≡ false)

abbrev pub IsSubcommand : Shape → Command → Type 0
IsSubcommand s c = (shape_of c ≡ s) × ((out-Command c).has_globals ≡ false)

-- all values that were found for an argument
abbrev pub all_values : Found → List ℕ → Option (List (List ℕ))
all_values found name = option_map raw_values (matched_of found name)

-- the action is that of the subcommand, with the values that were found
abbrev pub IsOf : List ℕ → Found → Action → Type 0
IsOf name found a = (command_name a ≡ name) × HasValues (first_value found) (all_values found) a
