use Rattle.std.proofs.Common.{ℕ, List, map}
use Rattle.std.proofs.lemmas.List.Elements.{Contains-append_left, Contains-append_right}
use Rattle.std.proofs.lemmas.Option.{IfSome_then}
use Rattle.explain.proofs.Tables.{none_either}
use Rattle.explain.specs.Topics.{format_topics, topics}
use Rattle.explain.specs.declared.protocol_topics.TheConstants.{PROTOCOL_TOPICS}
use Rattle.explain.proofs.topics.topic_of.Goals as goal

abbrev first : List (List ℕ × List ℕ)
first = map (λ t. (t.0.now, t.1.now)) PROTOCOL_TOPICS.now

abbrev second : List (List ℕ × List ℕ)
second = format_topics

pub returns-in-Some-clause-some : goal.returns-in-Some-clause-some
unfolding topics
returns-in-Some-clause-some c = Contains-append_left first second (c.args.word.now, c.in-Some.text.now) c.in-Some.ensures.some

pub returns-in-None-clause-some : goal.returns-in-None-clause-some
unfolding topics
returns-in-None-clause-some c =
    IfSome_then c.format_topic_of.result c.format_topic_of.ensures.some (λ text. Contains-append_right first second (c.args.word.now, text.now))

pub returns-in-None-clause-none : goal.returns-in-None-clause-none
unfolding topics
returns-in-None-clause-none c =
    none_either first second c.args.word.now c.format_topic_of.result c.in-None.ensures.none c.format_topic_of.ensures.none
