-- The values of a subcommand's words, by its matches.
use Rattle.std.proofs.Common.{◌≡◌, ℕ, List, Option, Some, None, IfSome, sym, ap, ◌∙◌, map, option_map, option_and_then, string_bytes, subst}
use Rattle.clap.specs.Words.{Row, rows_of, all_of, first_of, first_value, found_of, subcommand_name_of, subcommand_rows_of}
use Rattle.clap.specs.declared.parser.matches.ArgMatches.{ArgMatches}
use Rattle.clap.proofs.WalkLemmas.{first_value-rows, raw_values-rows}
use Rattle.command_line.specs.declared.actions.Action.{Action}
use Rattle.command_line.specs.declared.actions.Action.TheVariants.{Audit, Chart, Events, Explain, Node, Rehearse, Run, Show, Trace}
use Rattle.command_line.specs.Words.{AreWordsOf, NamesAction, HasValues, IsOf, all_values, argument_of, arguments_of}

same_values : (v w : List ℕ → Option (List ℕ)) (vs ws : List ℕ → Option (List (List ℕ))) → ((name : List ℕ) → v name ≡ w name) → ((name : List ℕ) → vs name ≡ ws name) → (a : Action)
    → HasValues v vs a → HasValues w ws a
same_values v w vs ws same all Rehearse has = has
same_values v w vs ws same all Chart has = has
same_values v w vs ws same all (Show scheme folder node form missing) has = (sym (same _) ∙ has.0, sym (same _) ∙ has.1, sym (same _) ∙ has.2, sym (same _) ∙ has.3, sym (same _) ∙ has.4)
same_values v w vs ws same all (Audit scheme folder extent form missing) has = (sym (same _) ∙ has.0, sym (same _) ∙ has.1, sym (same _) ∙ has.2, sym (same _) ∙ has.3, sym (same _) ∙ has.4)
same_values v w vs ws same all (Events scheme folder form missing) has = (sym (same _) ∙ has.0, sym (same _) ∙ has.1, sym (same _) ∙ has.2, sym (same _) ∙ has.3)
same_values v w vs ws same all (Trace scheme folder id form missing) has = (sym (same _) ∙ has.0, sym (same _) ∙ has.1, sym (same _) ∙ has.2, sym (same _) ∙ has.3, sym (same _) ∙ has.4)
same_values v w vs ws same all (Explain words) has = subst (λ values. AreWordsOf values (map string_bytes words.items)) (all _) has
same_values v w vs ws same all (Run scheme folder script missing strictness) has = (sym (same _) ∙ has.0, sym (same _) ∙ has.1, sym (same _) ∙ has.2, sym (same _) ∙ has.3, sym (same _) ∙ has.4)
same_values v w vs ws same all (Node words) has = (sym (same _) ∙ has.0, sym (same _) ∙ has.1, sym (same _) ∙ has.2, sym (same _) ∙ has.3, sym (all _) ∙ has.4, sym (same _) ∙ has.5, sym (same _) ∙ has.6)

pub names_action : (m inner : ArgMatches) (a : Option Action) (name : List ℕ) → subcommand_name_of m ≡ Some name → Some (rows_of (found_of inner)) ≡ option_map (λ p. p.1) (subcommand_rows_of m)
    → IfSome a (IsOf name (found_of inner)) → IfSome a (NamesAction m)
names_action m inner None name named rows is = tt
names_action m inner (Some a) name named rows is = (
  named ∙ ap Some (sym is.0),
  same_values (first_value (found_of inner)) (argument_of m) (all_values (found_of inner)) (arguments_of m)
      (λ id. first_value-rows (found_of inner) id ∙ ap (λ (o : Option (List Row)). option_and_then (first_of id) o) rows)
      (λ id. raw_values-rows (found_of inner) id ∙ ap (λ (o : Option (List Row)). option_and_then (all_of id) o) rows) a is.1,
)
