use Rattle.std.proofs.Common.{ℕ, List, map}
use Rattle.std.proofs.lemmas.List.Elements.{Contains-append_left, Contains-append_right}
use Rattle.std.proofs.lemmas.Option.{IfSome_then}
use Rattle.explain.proofs.Tables.{none_either}
use Rattle.explain.specs.Topics.{format_topics}
use Rattle.explain.specs.declared.format_topics.TheConstants.{FORMAT_TOPICS}
use Rattle.explain.specs.declared.table_topics.TheConstants.{TABLE_TOPICS}
use Rattle.explain.proofs.topics.format_topic_of.Goals as goal

abbrev first : List (List ℕ × List ℕ)
first = map (λ t. (t.0.now, t.1.now)) FORMAT_TOPICS.now

abbrev second : List (List ℕ × List ℕ)
second = map (λ t. (t.0.now, t.1.now)) TABLE_TOPICS.now

pub returns-in-Some-clause-some : goal.returns-in-Some-clause-some
unfolding format_topics
returns-in-Some-clause-some c = Contains-append_left first second (c.args.word.now, c.in-Some.text.now) c.in-Some.ensures.some

pub returns-in-None-clause-some : goal.returns-in-None-clause-some
unfolding format_topics
returns-in-None-clause-some c =
    IfSome_then c.text_in-in-None.result c.text_in-in-None.ensures.some (λ text. Contains-append_right first second (c.args.word.now, text.now))

pub returns-in-None-clause-none : goal.returns-in-None-clause-none
unfolding format_topics
returns-in-None-clause-none c =
    none_either first second c.args.word.now c.text_in-in-None.result c.in-None.ensures.none c.text_in-in-None.ensures.none
