use Rattle.std.proofs.Common.{◌≡◌, ◌++◌, ◌∙◌, List, ap, append_assoc, codes, map, refl, sym, ℕ}
use Rattle.std.proofs.lemmas.List.Concat.{flat_map-append}
use Rattle.explain.specs.Topics.{format_topics, listed, topics}
use Rattle.explain.specs.declared.format_topics.TheConstants.{FORMAT_TOPICS}
use Rattle.explain.specs.declared.protocol_topics.TheConstants.{PROTOCOL_TOPICS}
use Rattle.explain.specs.declared.table_topics.TheConstants.{TABLE_TOPICS}
use Rattle.explain.proofs.topics.listed_names.Goals as goal

abbrev first : List (List ℕ × List ℕ)
first = map (λ t. (t.0.now, t.1.now)) PROTOCOL_TOPICS.now

abbrev second : List (List ℕ × List ℕ)
second = map (λ t. (t.0.now, t.1.now)) FORMAT_TOPICS.now

abbrev third : List (List ℕ × List ℕ)
third = map (λ t. (t.0.now, t.1.now)) TABLE_TOPICS.now

are_topics : first ++ (second ++ third) ≡ topics
unfolding topics format_topics
are_topics = refl

-- the names of three tables, one table after the other
of_three : (a b c : List (List ℕ × List ℕ)) → listed a ++ listed b ++ listed c ≡ listed (a ++ (b ++ c))
of_three a b c =
    append_assoc (listed a) (listed b) (listed c)
    ∙ ap (λ rest. listed a ++ rest) (sym (flat_map-append (λ t. t.0 ++ codes "\n") b c))
    ∙ sym (flat_map-append (λ t. t.0 ++ codes "\n") a (b ++ c))

pub returns : goal.returns
returns c =
    c.in_ok-add_names-3.ensures
    ∙ ap (λ lines. lines ++ listed third)
    (c.in_ok-add_names-2.ensures
    ∙ ap (λ lines. lines ++ listed second) (c.in_ok-add_names.ensures ∙ ap (λ lines. lines ++ listed first) c.new-lines.ensures.bytes))
    ∙ of_three first second third
    ∙ ap listed are_topics
