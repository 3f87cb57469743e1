-- The first words of lines. No public contract cites it.
use Rattle.std.specs.Prelude.{ℕ, Bool, true, false, List, codes}
use Rattle.input_lines.specs.declared.verbs.LineVerb.{LineVerb}
use Rattle.input_lines.specs.declared.verbs.LineVerb.TheVariants as line
use Rattle.input_lines.specs.declared.verbs.Numbered.{Numbered}
use Rattle.input_lines.specs.declared.verbs.Numbered.TheVariants.{Ack, Commit, Post, Crash}
use Rattle.input_lines.specs.declared.verbs.OrderVerb.{OrderVerb}
use Rattle.input_lines.specs.declared.verbs.OrderVerb.TheVariants.{Propose, Request, Open, Close, CleanUp, Eligible}
use Rattle.input_lines.specs.declared.verbs.Verb.{Verb}
use Rattle.input_lines.specs.declared.verbs.Verb.TheVariants as verb

abbrev pub order_verb_text : OrderVerb → List ℕ
order_verb_text Propose = codes "propose"
order_verb_text Request = codes "request"
order_verb_text Open = codes "open"
order_verb_text Close = codes "close"
order_verb_text CleanUp = codes "clean-up"
order_verb_text Eligible = codes "eligible"

abbrev pub line_verb_text : LineVerb → List ℕ
line_verb_text (line.Order v) = order_verb_text v
line_verb_text line.Status = codes "status"
line_verb_text line.Until = codes "until"

abbrev pub numbered_text : Numbered → List ℕ
numbered_text Ack = codes "ack"
numbered_text Commit = codes "commit"
numbered_text Post = codes "post"
numbered_text Crash = codes "crash"

abbrev pub verb_text : Verb → List ℕ
verb_text (verb.Order v) = order_verb_text v
verb_text (verb.Numbered v) = numbered_text v
verb_text verb.Deliver = codes "deliver"
verb_text verb.Restart = codes "restart"

-- an order that only the log takes, so that no name stands before it
abbrev pub is_of_log : LineVerb → Bool
is_of_log (line.Order CleanUp) = true
is_of_log (line.Order Eligible) = true
is_of_log _ = false
