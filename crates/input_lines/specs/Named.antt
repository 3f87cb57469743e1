-- The words after a verb, with the name of the node. No public contract cites it.
use Rattle.std.specs.Prelude.{◌≡◌, ℕ, Bool, true, false, List, ◌∷◌}
use Rattle.units.specs.Code.{node_text}
use Rattle.units.specs.declared.code.Node.{Node}
use Rattle.units.specs.declared.code.Node.TheVariants.{Itl}
use Rattle.input_lines.specs.Verbs.{is_of_log}
use Rattle.input_lines.specs.declared.verbs.LineVerb.{LineVerb}

abbrev pub IsNamedIf : Bool → List (List ℕ) → Node → List (List ℕ) → Type 0
IsNamedIf true words n others = (n ≡ Itl) × (others ≡ words)
IsNamedIf false words n others = words ≡ node_text n ∷ others

-- the first word is the node's name, or the verb is that of an order of the log, and there is no name
abbrev pub IsNamed : LineVerb → List (List ℕ) → Node → List (List ℕ) → Type 0
IsNamed verb words n others = IsNamedIf (is_of_log verb) words n others
