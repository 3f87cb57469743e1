-- Words that show a store, and words that ask for help or are wrong, computed from the definitions alone.
use Rattle.std.proofs.Common.{◌≡◌, ℕ, List, [], ◌∷◌, Option, Some, None, true, refl, ◌++◌, codes, option_and_then}
use Rattle.clap.specs.declared.error.kind.ErrorKind.TheVariants.{ArgumentConflict, DisplayHelp, DisplayVersion, InvalidSubcommand, InvalidValue, MissingRequiredArgument, MissingSubcommand, UnknownArgument}
use Rattle.clap.specs.Words.{all_of, first_of, is_simple, subcommand_of, takes}
use Rattle.clap.proofs.OnLiterals.{clap_on_literals}
use Rattle.command_line.specs.Words.{faults_in, kyoto_link}

abbrev words : List (List ℕ)
words = codes "kyoto-link" ∷ codes "show" ∷ codes "s.json" ∷ codes "d" ∷ codes "NZ" ∷ []

abbrev value : List ℕ → Option (List ℕ)
value name = option_and_then (λ p. first_of name p.1) (subcommand_of kyoto_link words)

-- the matches of the program are those of its words
pub are_exact : is_simple kyoto_link ≡ true
unfolding clap_on_literals
are_exact = refl

pub are_taken : takes kyoto_link words ≡ true
unfolding clap_on_literals
are_taken = refl

pub first_value : value (codes "SCHEME") ≡ Some (codes "s.json")
unfolding clap_on_literals
first_value = refl

pub second_value : value (codes "DIR") ≡ Some (codes "d")
unfolding clap_on_literals
second_value = refl

pub third_value : value (codes "NODE") ≡ Some (codes "NZ")
unfolding clap_on_literals
third_value = refl

pub no_fault : faults_in words ≡ []
unfolding clap_on_literals
no_fault = refl

-- ---- words that ask for help or for the version

pub help_flag : faults_in (codes "kyoto-link" ∷ codes "--help" ∷ []) ≡ DisplayHelp ∷ []
unfolding clap_on_literals
help_flag = refl

pub short_help_flag : faults_in (codes "kyoto-link" ∷ codes "-h" ∷ []) ≡ DisplayHelp ∷ []
unfolding clap_on_literals
short_help_flag = refl

pub version_flag : faults_in (codes "kyoto-link" ∷ codes "--version" ∷ []) ≡ DisplayVersion ∷ []
unfolding clap_on_literals
version_flag = refl

-- ---- words that are wrong

pub no_subcommand : faults_in (codes "kyoto-link" ∷ []) ≡ MissingSubcommand ∷ []
unfolding clap_on_literals
no_subcommand = refl

pub unknown_subcommand : faults_in (codes "kyoto-link" ∷ codes "walk" ∷ []) ≡ UnknownArgument ∷ InvalidSubcommand ∷ []
unfolding clap_on_literals
unknown_subcommand = refl

pub unknown_flag : faults_in (codes "kyoto-link" ∷ codes "--all" ∷ []) ≡ UnknownArgument ∷ []
unfolding clap_on_literals
unknown_flag = refl

pub no_node : faults_in (codes "kyoto-link" ∷ codes "show" ∷ codes "s.json" ∷ codes "d" ∷ []) ≡ MissingRequiredArgument ∷ []
unfolding clap_on_literals
no_node = refl

pub word_too_many : faults_in (codes "kyoto-link" ∷ codes "show" ∷ codes "s.json" ∷ codes "d" ∷ codes "NZ" ∷ codes "JP" ∷ []) ≡ UnknownArgument ∷ []
unfolding clap_on_literals
word_too_many = refl

-- ---- words that audit stores

abbrev audit_words : List (List ℕ)
audit_words = codes "kyoto-link" ∷ codes "audit" ∷ codes "s.json" ∷ codes "d" ∷ []

pub audit_taken : takes kyoto_link audit_words ≡ true
unfolding clap_on_literals
audit_taken = refl

pub audit_folder : option_and_then (λ p. first_of (codes "DIR") p.1) (subcommand_of kyoto_link audit_words) ≡ Some (codes "d")
unfolding clap_on_literals
audit_folder = refl

pub no_cut : option_and_then (λ p. first_of (codes "cut") p.1) (subcommand_of kyoto_link audit_words) ≡ Some (codes "false")
unfolding clap_on_literals
no_cut = refl

-- the flag may stand before the words and after them
pub with_cut : option_and_then (λ p. first_of (codes "cut") p.1) (subcommand_of kyoto_link (codes "kyoto-link" ∷ codes "audit" ∷ codes "--cut" ∷ codes "s.json" ∷ codes "d" ∷ [])) ≡ Some (codes "true")
unfolding clap_on_literals
with_cut = refl

pub cut_last : option_and_then (λ p. first_of (codes "cut") p.1) (subcommand_of kyoto_link (codes "kyoto-link" ∷ codes "audit" ∷ codes "s.json" ∷ codes "d" ∷ codes "--cut" ∷ [])) ≡ Some (codes "true")
unfolding clap_on_literals
cut_last = refl

pub no_json : option_and_then (λ p. first_of (codes "json") p.1) (subcommand_of kyoto_link audit_words) ≡ Some (codes "false")
unfolding clap_on_literals
no_json = refl

pub both_flags : option_and_then (λ p. first_of (codes "json") p.1) (subcommand_of kyoto_link (codes "kyoto-link" ∷ codes "audit" ∷ codes "--json" ∷ codes "s.json" ∷ codes "d" ∷ codes "--cut" ∷ [])) ≡ Some (codes "true")
unfolding clap_on_literals
both_flags = refl

pub existing : option_and_then (λ p. first_of (codes "existing") p.1) (subcommand_of kyoto_link (codes "kyoto-link" ∷ codes "audit" ∷ codes "--existing" ∷ codes "s.json" ∷ codes "d" ∷ [])) ≡ Some (codes "true")
unfolding clap_on_literals
existing = refl

pub not_existing : option_and_then (λ p. first_of (codes "existing") p.1) (subcommand_of kyoto_link audit_words) ≡ Some (codes "false")
unfolding clap_on_literals
not_existing = refl

pub no_folder : faults_in (codes "kyoto-link" ∷ codes "audit" ∷ codes "s.json" ∷ []) ≡ MissingRequiredArgument ∷ []
unfolding clap_on_literals
no_folder = refl

-- ---- words that run a script

abbrev run_words : List (List ℕ)
run_words = codes "kyoto-link" ∷ codes "run" ∷ codes "s.json" ∷ codes "d" ∷ codes "t" ∷ []

pub run_taken : takes kyoto_link run_words ≡ true
unfolding clap_on_literals
run_taken = refl

pub run_script : option_and_then (λ p. first_of (codes "SCRIPT") p.1) (subcommand_of kyoto_link run_words) ≡ Some (codes "t")
unfolding clap_on_literals
run_script = refl

pub not_strict : option_and_then (λ p. first_of (codes "strict") p.1) (subcommand_of kyoto_link run_words) ≡ Some (codes "false")
unfolding clap_on_literals
not_strict = refl

pub strict : option_and_then (λ p. first_of (codes "strict") p.1) (subcommand_of kyoto_link (run_words ++ codes "--strict" ∷ codes "--existing" ∷ [])) ≡ Some (codes "true")
unfolding clap_on_literals
strict = refl

pub no_script : faults_in (codes "kyoto-link" ∷ codes "run" ∷ codes "s.json" ∷ codes "d" ∷ []) ≡ MissingRequiredArgument ∷ []
unfolding clap_on_literals
no_script = refl

-- ---- words that trace a transaction, and that ask about a topic

pub traced_id : option_and_then (λ p. first_of (codes "ID") p.1) (subcommand_of kyoto_link (codes "kyoto-link" ∷ codes "trace" ∷ codes "s.json" ∷ codes "d" ∷ codes "NZ1" ∷ [])) ≡ Some (codes "NZ1")
unfolding clap_on_literals
traced_id = refl

abbrev asked_of : List (List ℕ) → Option (List (List ℕ))
asked_of about = option_and_then (λ p. all_of (codes "WORDS") p.1) (subcommand_of kyoto_link (codes "kyoto-link" ∷ codes "explain" ∷ about))

pub one_word : asked_of (codes "106" ∷ []) ≡ Some (codes "106" ∷ [])
unfolding clap_on_literals
one_word = refl

-- after the first word, one that begins with a hyphen is a word as any other
pub pasted_words : asked_of (codes "kyoto-link:" ∷ codes "--keys:" ∷ codes "read" ∷ []) ≡ Some (codes "kyoto-link:" ∷ codes "--keys:" ∷ codes "read" ∷ [])
unfolding clap_on_literals
pasted_words = refl

pub no_word : (asked_of [] ≡ None) × (takes kyoto_link (codes "kyoto-link" ∷ codes "explain" ∷ []) ≡ true)
unfolding clap_on_literals
no_word = (refl, refl)

-- ---- words that run one node

-- the words before the options
abbrev node_front : List (List ℕ)
node_front = codes "kyoto-link" ∷ codes "node" ∷ codes "s.json" ∷ codes "d" ∷ codes "ITL" ∷ []

abbrev listens : List (List ℕ)
listens = codes "--listen" ∷ codes "127.0.0.1:70" ∷ []

-- two peers, the second of which comes first by name; one of them is written after `=`
abbrev has_peers : List (List ℕ)
has_peers = codes "--peer" ∷ codes "NZ=[::1]:71" ∷ codes "--peer=JP=[::1]:72" ∷ []

abbrev node_words : List (List ℕ)
node_words = node_front ++ listens ++ has_peers

abbrev node_value : List ℕ → Option (List ℕ)
node_value name = option_and_then (λ p. first_of name p.1) (subcommand_of kyoto_link node_words)

pub node_taken : takes kyoto_link node_words ≡ true
unfolding clap_on_literals
node_taken = refl

pub node_listens : node_value (codes "listen") ≡ Some (codes "127.0.0.1:70")
unfolding clap_on_literals
node_listens = refl

pub node_peers : option_and_then (λ p. all_of (codes "peer") p.1) (subcommand_of kyoto_link node_words) ≡ Some (codes "NZ=[::1]:71" ∷ codes "JP=[::1]:72" ∷ [])
unfolding clap_on_literals
node_peers = refl

pub no_keys : node_value (codes "keys") ≡ None
unfolding clap_on_literals
no_keys = refl

pub no_clean_up : node_value (codes "clean-up") ≡ None
unfolding clap_on_literals
no_clean_up = refl

-- options may stand before the words too
abbrev all_node_words : List (List ℕ)
all_node_words = codes "kyoto-link" ∷ codes "node" ∷ codes "--clean-up=60" ∷ codes "s.json" ∷ codes "--keys" ∷ codes "k" ∷ codes "d" ∷ codes "ITL" ∷ listens ++ has_peers

pub with_keys : option_and_then (λ p. first_of (codes "keys") p.1) (subcommand_of kyoto_link all_node_words) ≡ Some (codes "k")
unfolding clap_on_literals
with_keys = refl

pub with_clean_up : option_and_then (λ p. first_of (codes "clean-up") p.1) (subcommand_of kyoto_link all_node_words) ≡ Some (codes "60")
unfolding clap_on_literals
with_clean_up = refl

pub no_listen : faults_in (node_front ++ has_peers) ≡ MissingRequiredArgument ∷ []
unfolding clap_on_literals
no_listen = refl

pub no_peer : faults_in (node_front ++ listens) ≡ MissingRequiredArgument ∷ []
unfolding clap_on_literals
no_peer = refl

pub listens_twice : faults_in (node_words ++ listens) ≡ ArgumentConflict ∷ []
unfolding clap_on_literals
listens_twice = refl

pub keys_twice : faults_in (all_node_words ++ codes "--keys" ∷ codes "k" ∷ []) ≡ ArgumentConflict ∷ []
unfolding clap_on_literals
keys_twice = refl

pub clean_up_without_seconds : faults_in (node_words ++ codes "--clean-up" ∷ []) ≡ InvalidValue ∷ []
unfolding clap_on_literals
clean_up_without_seconds = refl
